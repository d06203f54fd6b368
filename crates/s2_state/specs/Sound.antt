-- When a state is sound: what holds of it even where the rows of its files are not told.
use Rattle.std.specs.Prelude.{◌≡◌, ◌≤◌, ◌<◌, ℕ, ◌+◌, ◌*◌, true, false, Some, None, length}
use Rattle.std.specs.List.{AllByRecursion}
use Rattle.s2_value.specs.declared.schemas.Schema.{Schema}
use Rattle.s2_value.specs.Schemas.{fits}
use Rattle.s2_model.specs.Table.{RowOf}
use Rattle.s2_model.specs.History.{History, next, is_session, is_running, is_open, pin_of}
use Rattle.s2_model.specs.Held.{holds}
use Rattle.s2_model.specs.Verdict.{last_length}
use Rattle.s2_model.specs.Placement.{placement}
use Rattle.s2_model.specs.Laws.{times_placed, lies_in}
use Rattle.s2_rowstore.specs.Chains.{own}
use Rattle.s2_rowstore.specs.Store.{Store, chain, slot}
use Rattle.s2_uniquelock.specs.Locks.{Locks, row_holder}
use Rattle.s2_state.specs.declared.states.State.{State}
use Rattle.s2_state.specs.States.{history_of, room_of}
use Rattle.s2_state.specs.Takers.{open_count}
use Rattle.s2_state.specs.Slots.{SlotsArePending}
use Rattle.s2_state.specs.Placed.{PlacementIsKept}
use Rattle.s2_state.specs.Good.{is_holder, HasRoom}

-- the history is within its limit with an entry to come for each open transaction, row numbers stay small, and only sessions have transactions, each one at most
pub record LogIsSound (H : History) : Type 0 where
  pub short : length H + open_count H ≤ last_length + 19
  pub numbers : next H ≤ 65536 * length H + 1
  pub sessions : (k : ℕ) → is_open H k ≡ true → is_session k ≡ true
  pub single : (k : ℕ) → is_running H k ≡ true → pin_of H k ≡ None

-- the lock tables say who holds which row
abbrev pub RowLocksAreHeld : History → Locks → Type 0
RowLocksAreHeld H L = (k n : ℕ) → is_holder k (row_holder L n) ≡ holds H k n

-- each row of a version and each row that an open write puts fits the schema
pub record RowsFit (schema : Schema) (S : Store) : Type 0 where
  pub versions : (n : ℕ) → AllByRecursion (λ v. fits schema v.row ≡ true) (chain S n)
  pub slots : (k n : ℕ) (x : RowOf) → own k (slot S n) ≡ Some (Some x) → fits schema x ≡ true

-- the horizon is at most the length and each open pin
pub record HorizonIsPinned (H : History) (horizon : ℕ) : Type 0 where
  pub by : horizon ≤ length H
  pub pins : (k t : ℕ) → is_session k ≡ true → pin_of H k ≡ Some t → horizon ≤ t

-- at the end of the history no row number is placed twice, each number that is placed or held is at least 1 and below the next free one, and no held row lies at an unmarked place
pub record NumbersAreSound (H : History) : Type 0 where
  pub once : (n : ℕ) → times_placed (length H) n (placement H) ≤ 1
  pub placed_from : (n : ℕ) → 1 ≤ times_placed (length H) n (placement H) → 1 ≤ n
  pub placed_below : (n : ℕ) → 1 ≤ times_placed (length H) n (placement H) → n < next H
  pub held_from : (k n : ℕ) → holds H k n ≡ true → 1 ≤ n
  pub held_below : (k n : ℕ) → holds H k n ≡ true → n < next H
  pub held_lies : (k n : ℕ) → holds H k n ≡ true → lies_in (placement H).segments n ≡ false

pub record Sound (s : State) : Type 0 where
  pub log : LogIsSound (history_of s)
  pub placement : PlacementIsKept s.schema (history_of s) s.rows s.horizon
  pub fit : RowsFit s.schema s.rows
  pub slots : SlotsArePending (history_of s) s.rows
  pub locks : RowLocksAreHeld (history_of s) s.locks
  pub horizon : HorizonIsPinned (history_of s) s.horizon
  pub room : HasRoom (history_of s) (room_of s)
  pub numbers : NumbersAreSound (history_of s)
