-- What is ready for a write.
use Rattle.std.specs.Prelude.{◌≡◌, ◌<◌, ◌≤◌, ℕ, true, List, Option, Some}
use Rattle.std.specs.BTreeMap.{BTreeMap}
use Rattle.s2_value.specs.declared.values.Value.{Value}
use Rattle.s2_value.specs.declared.schemas.Schema.{Schema}
use Rattle.s2_rowstore.specs.Chains.{Line}
use Rattle.s2_rowstore.specs.Lines.{line_at, body_at, names_row}
use Rattle.s2_rowstore.specs.Keys.{IsNotedRow}

abbrev pub SameBodies : List (ℕ × Line) → List (ℕ × Line) → Type 0
SameBodies old new = (n : ℕ) → body_at new n ≡ body_at old n

abbrev pub KeepsRoom : List (ℕ × Line) → List (ℕ × Line) → Type 0
KeepsRoom old new = (n : ℕ) → (line_at old n).room ≤ (line_at new n).room

-- a version of the row can begin, and its keys are noted
pub record IsReady (schema : Schema) (notes : List (BTreeMap (List Value) (List ℕ))) (lines : List (ℕ × Line)) (p : ℕ × List Value) : Type 0 where
  pub room : 1 < (line_at lines p.0).room
  pub noted : IsNotedRow schema notes p.0 p.1

-- an open write of the row can be set
pub record IsReadyChange (schema : Schema) (notes : List (BTreeMap (List Value) (List ℕ))) (lines : List (ℕ × Line)) (ids : List ℕ) (p : ℕ × Option (List Value)) : Type 0 where
  pub room : 0 < (line_at lines p.0).room
  pub noted : (row : List Value) → p.1 ≡ Some row → IsNotedRow schema notes p.0 row
  pub listed : names_row ids p.0 ≡ true
