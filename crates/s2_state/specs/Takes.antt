-- What a write does to the row store and the lock table.
use Rattle.std.specs.Prelude.{◌≡◌, ℕ, Bool, true, false, List, ◌++◌, Option, Some, None, if◌then◌else◌, slice_get}
use Rattle.s2_value.specs.declared.values.Value.{Value}
use Rattle.s2_value.specs.declared.schemas.Schema.{Schema}
use Rattle.s2_value.specs.Rows.{key_of}
use Rattle.s2_model.specs.declared.entries.Change.{Change}
use Rattle.s2_model.specs.Table.{RowOf, row_at, apply, touches}
use Rattle.s2_model.specs.History.{History, state, pending}
use Rattle.s2_model.specs.Held.{has_value, holds_value}
use Rattle.s2_rowstore.specs.Store.{Store, slot, slot_put}
use Rattle.s2_uniquelock.specs.Locks.{Locks, row_holder, value_keeper}
use Rattle.s2_state.specs.Slots.{last_of}
use Rattle.s2_state.specs.Keys.{AreDistinct}

-- one of the changed rows has the value of the key, if there is such a key
abbrev pub takes_key : History → List Change → Option (List ℕ) → List Value → Bool
takes_key H cs None v = false
takes_key H cs (Some key) v = has_value key (state H) cs v

-- k's open write of each changed row is its last change, and k holds the changed rows and their values
pub record Takes (schema : Schema) (H : History) (k : ℕ) (cs : List Change) (S S' : Store) (L L' : Locks) : Type 0 where
  pub schema_is : S'.schema ≡ S.schema
  pub slots : (n : ℕ) → slot S' n ≡ slot_put k (last_of cs n) (slot S n)
  pub rows : (n : ℕ) → row_holder L' n ≡ (if touches cs n then Some k else row_holder L n)
  pub values : (i : ℕ) (v : List Value) → value_keeper L' i v ≡ (if takes_key H cs (slice_get schema.uniques i) v then Some k else value_keeper L i v)

-- the values of the changed rows are nobody else's, the key stays distinct in k's view, and a row that has one of them is k's
pub record IsFreeKey (H : History) (k : ℕ) (cs : List Change) (key : List ℕ) : Type 0 where
  pub free : (j : ℕ) (v : List Value) → has_value key (state H) cs v ≡ true → holds_value H j key v ≡ true → j ≡ k
  pub distinct : AreDistinct key (apply (state H) (pending H k ++ cs))
  pub claimed : (n : ℕ) (x : RowOf) → row_at (state H) n ≡ Some x → has_value key (state H) cs (key_of key x) ≡ true → touches (pending H k ++ cs) n ≡ true

-- the same for each unique key
abbrev pub AreFreeKeys : Schema → History → ℕ → List Change → Type 0
AreFreeKeys schema H k cs = (i : ℕ) (key : List ℕ) → slice_get schema.uniques i ≡ Some key → IsFreeKey H k cs key
