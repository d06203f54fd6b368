-- What an entry does to a state.
use Rattle.std.specs.Prelude.{◌≡◌, ◌≤◌, ℕ, suc, ◌+◌, List, length}
use Rattle.s2_model.specs.declared.entries.What.{What}
use Rattle.s2_model.specs.declared.entries.Change.{Change}
use Rattle.s2_model.specs.declared.entries.What.TheVariants.{Write, Commit, Rollback}
use Rattle.s2_model.specs.History.{◌▷◌}
use Rattle.s2_rowstore.specs.Chains.{own, chain_after}
use Rattle.s2_rowstore.specs.Store.{chain, slot}
use Rattle.s2_state.specs.declared.states.State.{State}
use Rattle.s2_state.specs.States.{history_of, room_of}
use Rattle.s2_state.specs.Ends.{Frees}
use Rattle.s2_state.specs.Takes.{Takes}

-- a transaction that writes ends with this entry, and gives back what it had
pub record Ends (k : ℕ) (w : What) (old new : State) : Type 0 where
  pub schema : new.schema ≡ old.schema
  pub options : new.options ≡ old.options
  pub horizon : new.horizon ≡ old.horizon
  pub history : history_of new ≡ history_of old ▷ record { actor = k; what = w }
  pub room : room_of old ≤ room_of new + 1
  pub frees : Frees k old.rows new.rows old.locks new.locks

-- its open writes take effect at the timestamp of the entry
pub record Commits (k : ℕ) (old new : State) : Type 0 where
  pub ends : Ends k Commit old new
  pub chains : (n : ℕ) → chain new.rows n ≡ chain_after (suc (length (history_of old))) (own k (slot old.rows n)) (chain old.rows n)

-- its open writes are forgotten
pub record RollsBack (k : ℕ) (old new : State) : Type 0 where
  pub ends : Ends k Rollback old new
  pub chains : (n : ℕ) → chain new.rows n ≡ chain old.rows n

-- changes are written: they are k's open writes, and it holds their rows and values
pub record Writes (k : ℕ) (cs : List Change) (old new : State) : Type 0 where
  pub schema : new.schema ≡ old.schema
  pub options : new.options ≡ old.options
  pub horizon : new.horizon ≡ old.horizon
  pub history : history_of new ≡ history_of old ▷ record { actor = k; what = Write cs }
  pub chains : (n : ℕ) → chain new.rows n ≡ chain old.rows n
  pub takes : Takes old.schema (history_of old) k cs old.rows new.rows old.locks new.locks
