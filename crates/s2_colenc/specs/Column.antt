-- A column block: a tag byte, and the body of the tag's form.
use Rattle.std.specs.Prelude.{ℕ, Bool, true, ◌==◌, nat_eq, not, if◌then◌else◌, List, [], ◌∷◌, ◌++◌, length, map, replicate, nat_lt, ◌-◌, ◌+◌, Option, None, Some, Result, Ok, Err}
use Rattle.s2_colbytes.specs.declared.ColErr.{ColErr}
use Rattle.s2_colbytes.specs.declared.ColErr.TheVariants.{Short, BadTag}
use Rattle.s2_colbytes.specs.Reading.{◌>>=◌, number_at, to_the_end}
use Rattle.s2_colplain.specs.Ints.{ints_at}
use Rattle.s2_colplain.specs.Packed.{packed_at}
use Rattle.s2_colplain.specs.Texts.{texts_at}
use Rattle.s2_colruns.specs.Codes.{codes_at, has_bad_code}
use Rattle.s2_colruns.specs.Runs.{lens_at}
use Rattle.s2_colruns.specs.Dictionary.{decoded}
use Rattle.s2_value.specs.declared.values.Value.{Value}
use Rattle.s2_value.specs.declared.values.Value.TheVariants as value
use Rattle.s2_value.specs.declared.values.ColType.{ColType}
use Rattle.s2_value.specs.declared.values.ColType.TheVariants as kind
use Rattle.s2_colenc.specs.declared.forms.Form.{Form}
use Rattle.s2_colenc.specs.declared.forms.Form.TheVariants as form
use Rattle.s2_colenc.specs.declared.views.Entries.{Entries}
use Rattle.s2_colenc.specs.declared.views.Entries.TheVariants as entries
use Rattle.s2_colenc.specs.declared.views.Body.{Body}
use Rattle.s2_colenc.specs.declared.views.Body.TheVariants as body

-- the form of a tag of both types
abbrev pub either_form : ℕ → Result Form ColErr
either_form tag = if tag == 3 then Ok form.Dictionary else if tag == 4 then Ok form.Runs else Err BadTag

-- the form of a tag, in a column of the type
abbrev pub form_of : ColType → ℕ → Result Form ColErr
form_of kind.Int tag = if tag == 0 then Ok form.PlainInt else if tag == 1 then Ok form.PackedInt else either_form tag
form_of kind.Text tag = if tag == 2 then Ok form.PlainText else either_form tag

-- the form and the bytes after the tag, or the first fault
unfoldable pub tag_at : ColType → List ℕ → Result (Form × List ℕ) ColErr
tag_at kind [] = Err Short
tag_at kind (tag ∷ rest) = do
  named ← form_of kind tag
  Ok (named, rest)

-- n values in the plain body of their type, and the bytes after them
unfoldable pub entries_at : ColType → ℕ → List ℕ → Result (Entries × List ℕ) ColErr
entries_at kind.Int n bytes = do
  ints ← ints_at n bytes
  Ok (entries.Ints ints.0, ints.1)
entries_at kind.Text n bytes = do
  texts ← texts_at n bytes
  Ok (entries.Texts texts.0, texts.1)

-- a dictionary of d values, and n codes
unfoldable pub dictionary_at : ColType → ℕ → List ℕ → Result (Body × List ℕ) ColErr
dictionary_at kind n bytes = do
  head ← number_at 4 bytes
  dict ← entries_at kind head.0 head.1
  codes ← codes_at n head.0 dict.1
  Ok (body.Dictionary dict.0 codes.0, codes.1)

-- the lengths of m runs, and their values
unfoldable pub runs_at : ColType → ℕ → List ℕ → Result (Body × List ℕ) ColErr
runs_at kind n bytes = do
  head ← number_at 4 bytes
  lens ← lens_at n head.0 head.1
  vals ← entries_at kind head.0 lens.1
  Ok (body.Runs lens.0 vals.0, vals.1)

-- the body of a form, and the bytes after it
unfoldable pub body_at : ColType → ℕ → Form → List ℕ → Result (Body × List ℕ) ColErr
body_at kind n form.PlainInt bytes = do
  ints ← ints_at n bytes
  Ok (body.Ints ints.0, ints.1)
body_at kind n form.PackedInt bytes = do
  ints ← packed_at n bytes
  Ok (body.Packed ints.0, ints.1)
body_at kind n form.PlainText bytes = do
  texts ← texts_at n bytes
  Ok (body.Texts texts.0, texts.1)
body_at kind n form.Dictionary bytes = dictionary_at kind n bytes
body_at kind n form.Runs bytes = runs_at kind n bytes

-- the body that all the bytes after the tag are, or the first fault
unfoldable pub column_at : ColType → ℕ → List ℕ → Result Body ColErr
column_at kind n bytes = do
  head ← tag_at kind bytes
  to_the_end (body_at kind n head.0 head.1)

-- the values of a plain body
abbrev pub entry_values : Entries → List Value
entry_values (entries.Ints xs) = map value.Int xs
entry_values (entries.Texts ts) = map value.Text ts

-- each value as often as its run is long
abbrev pub repeated : List ℕ → List Value → List Value
repeated [] vals = []
repeated (l ∷ lens) [] = []
repeated (l ∷ lens) (v ∷ vals) = replicate l v ++ repeated lens vals

-- the values that a body names
abbrev pub values_of : Body → List Value
values_of (body.Ints xs) = map value.Int xs
values_of (body.Packed xs) = map value.Int xs
values_of (body.Texts ts) = map value.Text ts
values_of (body.Dictionary dict codes) = decoded (entry_values dict) codes
values_of (body.Runs lens vals) = repeated lens (entry_values vals)

-- each code names a value, and each run has one
abbrev pub is_whole : Body → Bool
is_whole (body.Ints xs) = true
is_whole (body.Packed xs) = true
is_whole (body.Texts ts) = true
is_whole (body.Dictionary dict codes) = not (has_bad_code (length (entry_values dict)) codes)
is_whole (body.Runs lens vals) = nat_eq (length lens) (length (entry_values vals))

-- the run lengths of a body of runs
abbrev pub lens_of : Body → Option (List ℕ)
lens_of (body.Ints xs) = None
lens_of (body.Packed xs) = None
lens_of (body.Texts ts) = None
lens_of (body.Dictionary dict codes) = None
lens_of (body.Runs lens vals) = Some lens

-- the codes of a body with a dictionary
abbrev pub codes_of : Body → Option (List ℕ)
codes_of (body.Ints xs) = None
codes_of (body.Packed xs) = None
codes_of (body.Texts ts) = None
codes_of (body.Dictionary dict codes) = Some codes
codes_of (body.Runs lens vals) = None

-- the values of the dictionary or of the runs
abbrev pub entries_of : Body → Option Entries
entries_of (body.Ints xs) = None
entries_of (body.Packed xs) = None
entries_of (body.Texts ts) = None
entries_of (body.Dictionary dict codes) = Some dict
entries_of (body.Runs lens vals) = Some vals

-- the form of a body
abbrev pub form_in : Body → Form
form_in (body.Ints xs) = form.PlainInt
form_in (body.Packed xs) = form.PackedInt
form_in (body.Texts ts) = form.PlainText
form_in (body.Dictionary dict codes) = form.Dictionary
form_in (body.Runs lens vals) = form.Runs

-- the run in which value i stands, from 0
abbrev pub run_of : List ℕ → ℕ → ℕ
run_of [] i = 0
run_of (l ∷ lens) i = if nat_lt i l then 0 else run_of lens (i - l) + 1
