-- What holds of each good state.
use Rattle.std.specs.Prelude.{◌≡◌, ◌≤◌, ℕ, length, slice_get, Some, unwrap_or, List}
use Rattle.s2_model.specs.Table.{row_at}
use Rattle.s2_model.specs.History.{History, upto, state, pin_of, view}
use Rattle.s2_rowstore.specs.Chains.{row_at as version_at, seen}
use Rattle.s2_rowstore.specs.Store.{chain, slot}
use Rattle.s2_state.specs.declared.states.State.{State}
use Rattle.s2_state.specs.States.{history_of}
use Rattle.s2_state.specs.Keys.{AreDistinct}
use Rattle.s2_state.specs.Good.{Good}
use Rattle.s2_state.specs.Sound.{Sound}

-- a law on every good state
abbrev pub OfGoodStates : (State → Type 0) → Type 0
OfGoodStates P = (s : State) → Good s → P s

-- when an actor reads: at its pin, else at the end of the history
abbrev pub read_at : History → ℕ → ℕ
read_at H k = unwrap_or (pin_of H k) (length H)

-- row by row: at each timestamp from the horizon on the versions tell the content, and what an actor sees is its view
pub record ShowsRows (s : State) : Type 0 where
  pub placed : (r n : ℕ) → s.horizon ≤ r → r ≤ length (history_of s) → version_at r (chain s.rows n) ≡ row_at (state (upto r (history_of s))) n
  pub views : (k n : ℕ) → seen k (read_at (history_of s) k) (chain s.rows n, slot s.rows n) ≡ row_at (view (history_of s) k) n

-- the unique keys are distinct in each view
abbrev pub HasDistinctViews : State → Type 0
HasDistinctViews s = (i : ℕ) (key : List ℕ) → slice_get s.schema.uniques i ≡ Some key → (k : ℕ) → AreDistinct key (view (history_of s) k)

abbrev pub GoodStatesAreSound : Type 0
GoodStatesAreSound = OfGoodStates Sound

abbrev pub GoodStatesShowRows : Type 0
GoodStatesShowRows = OfGoodStates ShowsRows

abbrev pub GoodViewsAreDistinct : Type 0
GoodViewsAreDistinct = OfGoodStates HasDistinctViews
