-- How long the forms of a column block are.
use Rattle.std.specs.Prelude.{ℕ, ℤ, ◌+◌, nat_lt, if◌then◌else◌, List, [], ◌∷◌, length, map, Option, None, Some}
use Rattle.std.specs.List.{sum_by}
use Rattle.s2_colplain.specs.Packed.{spread, digits, packed_len}
use Rattle.s2_value.specs.Order.{value_eq}
use Rattle.s2_value.specs.declared.values.Value.{Value}
use Rattle.s2_value.specs.declared.values.Value.TheVariants.{Int, Text}
use Rattle.s2_value.specs.declared.values.ColType.{ColType}
use Rattle.s2_value.specs.declared.values.ColType.TheVariants as kind
use Rattle.s2_colenc.specs.declared.forms.Form.{Form}
use Rattle.s2_colenc.specs.declared.forms.Form.TheVariants as form
use Rattle.s2_colenc.specs.Written.{runs_of, int_of}

-- a value in a plain body: a number, or an end and a text
abbrev pub entry_size : Value → ℕ
entry_size (Int x) = 8
entry_size (Text t) = 4 + length t

abbrev pub entries_size : List Value → ℕ
entries_size vals = sum_by entry_size vals

-- the runs' lengths and values
abbrev pub runs_size : List Value → ℕ
runs_size vals = sum_by (λ run. 2 + entry_size run.0) (runs_of vals)

-- how many values at the front are v
abbrev pub leading : Value → List Value → ℕ
leading v [] = 0
leading v (w ∷ vals) = if value_eq v w then leading v vals + 1 else 0

-- the block of packed numbers, where greatest less least is below 2^63
abbrev pub packed_size : List ℤ → Option ℕ
packed_size xs = if nat_lt (spread xs) 9223372036854775808 then Some (10 + packed_len (digits (spread xs)) (length xs)) else None

-- the first of the shortest, by rising tag
abbrev pub shorter : Form × ℕ → Form × ℕ → Form × ℕ
shorter best next = if nat_lt next.1 best.1 then next else best

abbrev pub with_packed : Form × ℕ → Option ℕ → Form × ℕ
with_packed best None = best
with_packed best (Some size) = shorter best (form.PackedInt, size)

abbrev pub choice : Form → ℕ → Option ℕ → ℕ → ℕ → Form × ℕ
choice plain size packed dictionary runs = shorter (shorter (with_packed (plain, size) packed) (form.Dictionary, dictionary)) (form.Runs, runs)

-- the form of plain values
abbrev pub plain_form : ColType → Form
plain_form kind.Int = form.PlainInt
plain_form kind.Text = form.PlainText

-- the block of packed values, where they may be packed
abbrev pub packed_block : ColType → List Value → Option ℕ
packed_block kind.Int vals = packed_size (map int_of vals)
packed_block kind.Text vals = None
