-- What a predicate fixes, the rows that match among rows by their numbers, and the changes of an UPDATE.
use Rattle.std.specs.Prelude.{◌≡◌, ◌<◌, ℕ, true, List, [], ◌∷◌, Option, Some, None, Result, Ok, Err, length, map, is_none, flat_map, if◌then◌else◌}
use Rattle.s2_value.specs.declared.values.Value.{Value}
use Rattle.s2_value.specs.declared.schemas.Schema.{Schema}
use Rattle.s2_value.specs.Rows.{key_of}
use Rattle.s2_value.specs.Schemas.{keys_of}
use Rattle.s2_model.specs.declared.entries.Change.{Change}
use Rattle.s2_model.specs.declared.statements.SetExpr.{SetExpr}
use Rattle.s2_model.specs.declared.replies.Refusal.{Refusal}
use Rattle.s2_model.specs.declared.replies.Refusal.TheVariants as refusal
use Rattle.s2_model.specs.Predicates.{Predicate}
use Rattle.s2_model.specs.Rows.{value_at, matches, after}
use Rattle.s2_model.specs.Table.{Table, RowOf, rises_above}
use Rattle.s2_model.specs.Answer.{kept}
use Rattle.s2_model.specs.Verdict.{first_some, updated}
use Rattle.s2_rowstore.specs.Store.{places_of}

-- each row that matches has this value in the column
abbrev pub FixesColumn : Predicate → ℕ → Value → Type 0
FixesColumn pred c v = (row : RowOf) → matches pred row ≡ true → value_at row c ≡ v

-- each row that matches has these values in the columns
abbrev pub FixesColumns : Predicate → List ℕ → List Value → Type 0
FixesColumns pred places vs = (row : RowOf) → matches pred row ≡ true → key_of places row ≡ vs

-- each row that matches has this value of key j: unique keys, then indexes, from 0
abbrev pub FixesKey : Schema → Predicate → ℕ → List Value → Type 0
FixesKey schema pred j key = (j < length (keys_of schema)) × FixesColumns pred (places_of schema j) key

-- the row, if it matches
abbrev pub kept_row : Predicate → Option RowOf → Option RowOf
kept_row pred None = None
kept_row pred (Some row) = if matches pred row then Some row else None

-- a row with its number, if there is one
abbrev pub numbered_row : ℕ → Option RowOf → Table
numbered_row n None = []
numbered_row n (Some row) = (n, row) ∷ []

-- the rows of these numbers
abbrev pub rows_among : (ℕ → Option RowOf) → List ℕ → Table
rows_among look ids = flat_map (λ n. numbered_row n (look n)) ids

-- rows by rising number, of which those that match are those of the table that match
pub record HasMatching (pred : Predicate) (table rows : Table) : Type 0 where
  pub rising : rises_above 0 rows ≡ true
  pub same : kept pred rows ≡ kept pred table

-- the refusal of a row of which a sum leaves 64 bits
abbrev pub out_at : List (ℕ × SetExpr) → ℕ × RowOf → Option Refusal
out_at sets p = if is_none (after sets p.1) then Some (refusal.OutOfRange p.0) else None

-- the changes of an UPDATE to the rows that it matches, or the refusal of the first of which a sum leaves 64 bits
abbrev pub Updates : List (ℕ × SetExpr) → Table → Result (List Change) Refusal → Type 0
Updates sets rows (Ok cs) = (first_some (out_at sets) rows ≡ None) × (cs ≡ map (updated sets) rows)
Updates sets rows (Err r) = first_some (out_at sets) rows ≡ Some r
