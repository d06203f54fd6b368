-- What the end of a transaction does to the row store and the lock table.
use Rattle.std.specs.Prelude.{◌≡◌, ℕ, List}
use Rattle.s2_value.specs.declared.values.Value.{Value}
use Rattle.s2_rowstore.specs.Chains.{slot_after}
use Rattle.s2_rowstore.specs.Store.{Store, slot}
use Rattle.s2_uniquelock.specs.Locks.{Locks, row_holder, value_keeper, without}

-- k's open writes are gone from the store, and it holds nothing any more
pub record Frees (k : ℕ) (S S' : Store) (L L' : Locks) : Type 0 where
  pub schema_is : S'.schema ≡ S.schema
  pub slots : (n : ℕ) → slot S' n ≡ slot_after k (slot S n)
  pub rows : (n : ℕ) → row_holder L' n ≡ without k (row_holder L n)
  pub values : (i : ℕ) (v : List Value) → value_keeper L' i v ≡ without k (value_keeper L i v)
