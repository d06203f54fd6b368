-- What a file of rows says of itself.
use Rattle.std.specs.Prelude.{ℕ, ◌+◌, Bool, List, [], ◌∷◌, map, if◌then◌else◌}
use Rattle.std.specs.List.{list_all}
use Rattle.s2_value.specs.declared.values.Value.{Value}
use Rattle.s2_value.specs.declared.schemas.Schema.{Schema}
use Rattle.s2_value.specs.Schemas.{fits, key}
pub use Rattle.s2_value.specs.Schemas.{keys_of}
use Rattle.s2_value.specs.Order.{row_eq}
use Rattle.s2_model.specs.declared.entries.Entry.{Entry}
use Rattle.s2_model.specs.declared.scripts.Options.{Options}

abbrev pub AnySchema : Type 0
AnySchema = Schema

abbrev pub AnyOptions : Type 0
AnyOptions = Options

abbrev pub AnyEntry : Type 0
AnyEntry = Entry

abbrev pub AnyRow : Type 0
AnyRow = List Value

-- the row numbers of a file, and its rows
abbrev pub row_numbers : List (ℕ × AnyRow) → List ℕ
row_numbers content = map (λ p. p.0) content

abbrev pub rows_of_file : List (ℕ × AnyRow) → List AnyRow
rows_of_file content = map (λ p. p.1) content

-- each row fits the schema
abbrev pub rows_fit : Schema → List (ℕ × AnyRow) → Bool
rows_fit schema content = list_all (λ p. fits schema p.1) content

-- the places, from n on, of the rows with this value of key j
abbrev pub offsets_from : Schema → ℕ → List (ℕ × AnyRow) → ℕ → AnyRow → List ℕ
offsets_from schema n [] j value = []
offsets_from schema n (p ∷ content) j value =
    if row_eq (key schema j p.1) value then n ∷ offsets_from schema (n + 1) content j value
    else offsets_from schema (n + 1) content j value

abbrev pub offsets_of : Schema → List (ℕ × AnyRow) → ℕ → AnyRow → List ℕ
offsets_of schema content j value = offsets_from schema 0 content j value
