-- A state is seen as its parts and its history.
use Rattle.std.specs.Prelude.{◌≡◌, ℕ}
use Rattle.s2_model.specs.History.{History}
use Rattle.s2_state.specs.declared.states.State.{State}

-- the entries, the newest first
abbrev pub history_of : State → History
history_of s = s.log.entries

-- for how many more entries there is room
abbrev pub room_of : State → ℕ
room_of s = s.log.room

-- all parts but the log are the same
pub record SameParts (old new : State) : Type 0 where
  pub schema : new.schema ≡ old.schema
  pub options : new.options ≡ old.options
  pub rows : new.rows ≡ old.rows
  pub locks : new.locks ≡ old.locks
  pub horizon : new.horizon ≡ old.horizon
