-- When a state is good: its parts are what its history says.
use Rattle.std.specs.Prelude.{◌≡◌, ◌≤◌, ℕ, ◌+◌, ◌*◌, Bool, false, List, Option, Some, None, ◌==◌, length, slice_get}
use Rattle.s2_value.specs.declared.values.Value.{Value}
use Rattle.s2_value.specs.declared.schemas.Schema.{Schema}
use Rattle.s2_model.specs.declared.scripts.Options.{Options}
use Rattle.s2_model.specs.History.{History, next}
use Rattle.s2_model.specs.Held.{holds, holds_value}
use Rattle.s2_model.specs.Verdict.{last_length}
use Rattle.s2_model.specs.Fits.{AllFit}
use Rattle.s2_uniquelock.specs.Locks.{Locks, row_holder, value_keeper}
use Rattle.s2_state.specs.declared.states.State.{State}
use Rattle.s2_state.specs.States.{history_of, room_of}
use Rattle.s2_state.specs.Takers.{open_count}
use Rattle.s2_state.specs.Slots.{SlotsArePending}
use Rattle.s2_state.specs.Placed.{PlacementIsKept}
use Rattle.s2_state.specs.Keys.{KeysAreDistinct}

-- each entry fits the history before it; with an entry to come for each open transaction the history stays within its limit; row numbers stay small
pub record LogFits (schema : Schema) (options : Options) (H : History) : Type 0 where
  pub fits : AllFit schema options H
  pub short : length H + open_count H ≤ last_length + 19
  pub numbers : next H ≤ 65536 * length H + 1

-- the holder, if there is one, is k
abbrev pub is_holder : ℕ → Option ℕ → Bool
is_holder k None = false
is_holder k (Some j) = j == k

-- an actor holds the value of the key, if there is such a key
abbrev pub holds_key : History → ℕ → Option (List ℕ) → List Value → Bool
holds_key H k None v = false
holds_key H k (Some key) v = holds_value H k key v

-- the lock tables say who holds which row, and which value of each unique key, these counted from 0
pub record LocksAreHeld (schema : Schema) (H : History) (L : Locks) : Type 0 where
  pub rows : (k n : ℕ) → is_holder k (row_holder L n) ≡ holds H k n
  pub values : (k i : ℕ) (v : List Value) → is_holder k (value_keeper L i v) ≡ holds_key H k (slice_get schema.uniques i) v

-- the log has room for an entry of each open transaction
abbrev pub HasRoom : History → ℕ → Type 0
HasRoom H room = open_count H ≤ room

pub record Good (s : State) : Type 0 where
  pub log : LogFits s.schema s.options (history_of s)
  pub placement : PlacementIsKept s.schema (history_of s) s.rows s.horizon
  pub slots : SlotsArePending (history_of s) s.rows
  pub locks : LocksAreHeld s.schema (history_of s) s.locks
  pub keys : KeysAreDistinct s.schema (history_of s)
  pub room : HasRoom (history_of s) (room_of s)
