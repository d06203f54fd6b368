-- The open writes of the row store are the pending changes.
use Rattle.std.specs.Prelude.{◌≡◌, ℕ, false, List, [], Option, Some, None, fold, ◌==◌, if◌then◌else◌}
use Rattle.s2_model.specs.declared.entries.Change.{Change}
use Rattle.s2_model.specs.declared.entries.Change.TheVariants.{Put, Drop}
use Rattle.s2_model.specs.Table.{RowOf, number_of}
use Rattle.s2_model.specs.History.{History, is_running, pending}
use Rattle.s2_rowstore.specs.Chains.{own}
use Rattle.s2_rowstore.specs.Store.{Store, slot}

-- the row that a change puts, or none where it drops the row
abbrev pub put_by : Change → Option RowOf
put_by (Put n x) = Some x
put_by (Drop n) = None

-- what the last change of a row puts, or what was there without one
abbrev pub last_from : Option (Option RowOf) → List Change → ℕ → Option (Option RowOf)
last_from was cs n = fold (λ o c. if number_of c == n then Some (put_by c) else o) was cs

-- what the last of the changes of a row puts, if there is one
abbrev pub last_of : List Change → ℕ → Option (Option RowOf)
last_of cs n = last_from None cs n

-- an actor's open writes are its last pending change of each row, and it has none outside a transaction
pub record SlotsArePending (H : History) (S : Store) : Type 0 where
  pub slots : (k n : ℕ) → own k (slot S n) ≡ last_of (pending H k) n
  pub idle : (k : ℕ) → is_running H k ≡ false → pending H k ≡ []
