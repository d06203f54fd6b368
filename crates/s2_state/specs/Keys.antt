-- Unique keys are distinct, in the content and in each view, and who holds a value holds its row.
use Rattle.std.specs.Prelude.{◌≡◌, ℕ, true, List, Some, slice_get}
use Rattle.s2_value.specs.declared.values.Value.{Value}
use Rattle.s2_value.specs.declared.schemas.Schema.{Schema}
use Rattle.s2_value.specs.Rows.{key_of}
use Rattle.s2_model.specs.declared.entries.Change.{Change}
use Rattle.s2_model.specs.Table.{Table, RowOf, row_at, apply, touches}
use Rattle.s2_model.specs.History.{History, upto, state, pending}
use Rattle.s2_model.specs.Held.{has_key, has_value}

-- no two rows have one value of the key
abbrev pub AreDistinct : List ℕ → Table → Type 0
AreDistinct key rows = (m n : ℕ) (x y : RowOf) → row_at rows m ≡ Some x → row_at rows n ≡ Some y → has_key key (key_of key x) y ≡ true → m ≡ n

-- over the content and the open writes of each actor: a key's values are distinct in the content and in each view of it, no value
-- has two holders, and a row of the content with a value that an actor holds is held by that actor
pub record IsKeyKept (key : List ℕ) (rows : Table) (writes : ℕ → List Change) : Type 0 where
  pub content : AreDistinct key rows
  pub views : (k : ℕ) → AreDistinct key (apply rows (writes k))
  pub apart : (j k : ℕ) (v : List Value) → has_value key rows (writes j) v ≡ true → has_value key rows (writes k) v ≡ true → j ≡ k
  pub claimed : (k n : ℕ) (x : RowOf) → row_at rows n ≡ Some x → has_value key rows (writes k) (key_of key x) ≡ true → touches (writes k) n ≡ true

-- each unique key is kept, and has been distinct in the content at each timestamp, so also in the views at pins
pub record KeysAreDistinct (schema : Schema) (H : History) : Type 0 where
  pub past : (i : ℕ) (key : List ℕ) → slice_get schema.uniques i ≡ Some key → (r : ℕ) → AreDistinct key (state (upto r H))
  pub kept : (i : ℕ) (key : List ℕ) → slice_get schema.uniques i ≡ Some key → IsKeyKept key (state H) (pending H)
