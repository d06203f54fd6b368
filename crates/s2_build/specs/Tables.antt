-- What CREATE TABLE means: the columns of its keys are places.
use Rattle.std.specs.Prelude.{ℕ, Bool, true, false, List, [], ◌∷◌, ◌++◌, Option, Some, None, length, filter, if◌then◌else◌}
use Rattle.s2_value.specs.declared.schemas.Col.{Col}
use Rattle.s2_value.specs.declared.schemas.Schema.{Schema}
use Rattle.s2_value.specs.Columns.{has_place, is_between, is_schema}
use Rattle.s2_token.specs.Lexing.{◌>>=◌}
use Rattle.s2_pred.specs.Meaning.{place_of}
use Rattle.s2_line.specs.declared.forms.RawColumn.{RawColumn}
use Rattle.s2_line.specs.declared.forms.RawKey.{RawKey}
use Rattle.s2_line.specs.declared.forms.KeyUse.{KeyUse}
use Rattle.s2_line.specs.declared.forms.KeyUse.TheVariants as use'
use Rattle.s2_build.specs.Each.{each}

-- a table's name and columns, its unique keys and indexes in order, and its sort key, which is empty where it has none
pub record Parts : Type 0 where
  pub table : List ℕ
  pub cols : List Col
  pub uniques : List (List ℕ)
  pub indexes : List (List ℕ)
  pub sort : List ℕ

abbrev pub parts_of : Schema → Parts
parts_of s = record { table = s.table; cols = s.cols; uniques = s.uniques; indexes = s.indexes; sort = s.sort }

-- a name of 1 to 32 bytes
abbrev pub name_of : List ℕ → Option (List ℕ)
name_of bytes = if is_between 1 32 (length bytes) then Some bytes else None

abbrev pub col_of : RawColumn → Option Col
col_of c = name_of c.name >>= λ bytes. Some (record { name = bytes; kind = c.kind })

-- the places of the names behind those that are there already, none of them twice
abbrev pub key_on : List Col → List ℕ → List (List ℕ) → Option (List ℕ)
key_on cols made [] = Some made
key_on cols made (name ∷ names) = place_of cols name >>= λ place. if has_place place made then None else key_on cols (made ++ place ∷ []) names

abbrev pub key_of : List Col → RawKey → Option (List ℕ)
key_of cols k = key_on cols [] k.columns

abbrev pub same_use : KeyUse → KeyUse → Bool
same_use use'.Index use'.Index = true
same_use use'.Unique use'.Unique = true
same_use use'.Sort use'.Sort = true
same_use _ _ = false

-- the keys for this use, in order
abbrev pub keys_for : KeyUse → List Col → List RawKey → Option (List (List ℕ))
keys_for purpose cols keys = each (key_of cols) (filter (λ k. same_use purpose k.purpose) keys)

abbrev pub first_key : List (List ℕ) → List ℕ
first_key [] = []
first_key (key ∷ keys) = key

-- the table, where it is within the limits of one
abbrev pub within_limits : Parts → Option Parts
within_limits p = if is_schema (length p.cols) p.uniques p.indexes p.sort then Some p else None

abbrev pub keyed : List ℕ → List Col → List RawKey → Option Parts
keyed table cols keys =
    keys_for use'.Unique cols keys >>= λ uniques. keys_for use'.Index cols keys >>= λ indexes. keys_for use'.Sort cols keys >>= λ sorts.
    within_limits (record { table = table; cols = cols; uniques = uniques; indexes = indexes; sort = first_key sorts })

abbrev pub created : List ℕ → List RawColumn → List RawKey → Option Parts
created table columns keys =
    name_of table >>= λ name. each col_of columns >>= λ cols. if is_between 1 16 (length cols) then keyed name cols keys else None
