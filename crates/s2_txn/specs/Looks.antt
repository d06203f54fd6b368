-- States that differ in nothing that a statement looks at.
use Rattle.std.specs.Prelude.{◌≡◌, ◌≤◌, ℕ, List}
use Rattle.s2_value.specs.declared.values.Value.{Value}
use Rattle.s2_rowstore.specs.Store.{chain, slot}
use Rattle.s2_uniquelock.specs.Locks.{row_holder, value_keeper}
use Rattle.s2_state.specs.declared.states.State.{State}
use Rattle.s2_state.specs.States.{history_of, room_of}

-- the same table, versions and open writes of each row, and holders of each row and value
pub record SameLooks (old new : State) : Type 0 where
  pub schema : new.schema ≡ old.schema
  pub options : new.options ≡ old.options
  pub horizon : new.horizon ≡ old.horizon
  pub store : new.rows.schema ≡ old.rows.schema
  pub chains : (n : ℕ) → chain new.rows n ≡ chain old.rows n
  pub slots : (n : ℕ) → slot new.rows n ≡ slot old.rows n
  pub holders : (n : ℕ) → row_holder new.locks n ≡ row_holder old.locks n
  pub keepers : (i : ℕ) (v : List Value) → value_keeper new.locks i v ≡ value_keeper old.locks i v

-- the state is left as it is, perhaps with more room
pub record IsLeft (old new : State) : Type 0 where
  pub looks : SameLooks old new
  pub history : history_of new ≡ history_of old
  pub room : room_of old ≤ room_of new
