use Rattle.std.proofs.Common.{◌≡◌, ℕ, ◌+◌, ◌≤◌, take, ◌==◌, if◌then◌else◌}
use Rattle.std.specs.List.{list_any}
use Rattle.std.specs.HashMap.{spare}
use Rattle.s2_uniquelock.specs.Holds.{row_hold}
use Rattle.s2_uniquelock.proofs.hold.take_rows.Given as goal

abbrev pub invariant-loop-id : goal.invariant-loop-id
invariant-loop-id l =
    ((n : ℕ) → row_hold l.rows.entries n ≡ (if list_any (λ id. id == n) (take l.id-index l.ids) then l.hold else row_hold l.initial.rows.entries n))
    × (spare l.initial.rows ≤ spare l.rows + l.id-index)
