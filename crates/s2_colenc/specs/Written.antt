-- How values are written: the bytes of each form, and the shortest of them.
use Rattle.std.specs.Prelude.{◌≡◌, ℕ, ◌+◌, ◌<◌, ◌≤◌, ℤ, pos, Bool, true, false, nat_lt, if◌then◌else◌, List, [], ◌∷◌, ◌++◌, length, map}
use Rattle.byteorder.specs.Endian.{little_bytes}
use Rattle.s2_colbytes.specs.Numbers.{spelled}
use Rattle.s2_colplain.specs.Ints.{plain_ints}
use Rattle.s2_colplain.specs.Packed.{packed_ints, spread}
use Rattle.s2_colplain.specs.Texts.{plain_texts, text_of}
use Rattle.s2_colruns.specs.Dictionary.{dictionary_of}
use Rattle.s2_value.specs.Order.{value_eq}
use Rattle.s2_value.specs.declared.values.Value.{Value}
use Rattle.s2_value.specs.declared.values.Value.TheVariants.{Int, Text}
use Rattle.s2_value.specs.declared.values.ColType.{ColType}
use Rattle.s2_value.specs.declared.values.ColType.TheVariants as kind
use Rattle.s2_colenc.specs.declared.forms.Form.{Form}
use Rattle.s2_colenc.specs.declared.forms.Form.TheVariants.{PlainInt, PackedInt, PlainText, Dictionary, Runs}

abbrev pub tag_of : Form → ℕ
tag_of PlainInt = 0
tag_of PackedInt = 1
tag_of PlainText = 2
tag_of Dictionary = 3
tag_of Runs = 4

-- a number's value; a text has none
abbrev pub int_of : Value → ℤ
int_of (Int x) = x
int_of (Text t) = pos 0

-- values in the plain body of their type
abbrev pub entry_bytes : ColType → List Value → List ℕ
entry_bytes kind.Int vals = plain_ints (map int_of vals)
entry_bytes kind.Text vals = plain_texts (map text_of vals)

-- where a value stands first
abbrev pub place_of : List Value → Value → ℕ
place_of [] v = 0
place_of (w ∷ dict) v = if value_eq v w then 0 else place_of dict v + 1

-- with a value before the runs: the first run is one longer, or a new one begins
abbrev pub with_run : Value → List (Value × ℕ) → List (Value × ℕ)
with_run v [] = (v, 1) ∷ []
with_run v (run ∷ runs) = if value_eq v run.0 then (v, run.1 + 1) ∷ runs else (v, 1) ∷ run ∷ runs

-- the longest runs, each a value and how often it stands
abbrev pub runs_of : List Value → List (Value × ℕ)
runs_of [] = []
runs_of (v ∷ vals) = with_run v (runs_of vals)

abbrev pub run_values : List (Value × ℕ) → List Value
run_values runs = map (λ run. run.0) runs

abbrev pub run_lengths : List (Value × ℕ) → List ℕ
run_lengths runs = map (λ run. run.1) runs

-- a dictionary, and the place of each value there
unfoldable pub dictionary_bytes : ColType → List Value → List Value → List ℕ
dictionary_bytes kind dict vals = little_bytes 4 (length dict) ++ entry_bytes kind dict ++ spelled 2 (map (place_of dict) vals)

unfoldable pub runs_bytes : ColType → List (Value × ℕ) → List ℕ
runs_bytes kind runs = little_bytes 4 (length runs) ++ spelled 2 (run_lengths runs) ++ entry_bytes kind (run_values runs)

-- the body of a form
abbrev pub body_bytes : ColType → List Value → Form → List ℕ
body_bytes kind vals PlainInt = entry_bytes kind vals
body_bytes kind vals PackedInt = packed_ints (map int_of vals)
body_bytes kind vals PlainText = entry_bytes kind vals
body_bytes kind vals Dictionary = dictionary_bytes kind (dictionary_of vals) vals
body_bytes kind vals Runs = runs_bytes kind (runs_of vals)

-- the block of a form
abbrev pub form_bytes : ColType → List Value → Form → List ℕ
form_bytes kind vals form = tag_of form ∷ body_bytes kind vals form

-- the form is one of the type, and packed only where greatest less least is below 2^63
abbrev pub may_take : ColType → List Value → Form → Bool
may_take kind.Int vals PlainInt = true
may_take kind.Int vals PackedInt = nat_lt (spread (map int_of vals)) 9223372036854775808
may_take kind.Int vals PlainText = false
may_take kind.Int vals Dictionary = true
may_take kind.Int vals Runs = true
may_take kind.Text vals PlainInt = false
may_take kind.Text vals PackedInt = false
may_take kind.Text vals PlainText = true
may_take kind.Text vals Dictionary = true
may_take kind.Text vals Runs = true

-- no block of the values is shorter, and none of a lesser tag is as short
pub record IsShortest (kind : ColType) (vals : List Value) (form : Form) : Type 0 where
  pub allowed : may_take kind vals form ≡ true
  pub least : (other : Form) → may_take kind vals other ≡ true → length (form_bytes kind vals form) ≤ length (form_bytes kind vals other)
  pub first : (other : Form) → may_take kind vals other ≡ true → tag_of other < tag_of form → length (form_bytes kind vals form) < length (form_bytes kind vals other)

-- the shortest block of the values
pub record IsBlock (kind : ColType) (vals : List Value) (bytes : List ℕ) : Type 0 where
  pub form : Form
  pub shortest : IsShortest kind vals form
  pub same : bytes ≡ form_bytes kind vals form
