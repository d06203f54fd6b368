use Rattle.std.proofs.Common.{◌≡◌, All, ℕ, ◌+◌, ◌<◌, ◌≤◌, List, length, ◌==◌, ◌&&◌, if◌then◌else◌}
use Rattle.s2_value.specs.declared.values.Value.{Value}
use Rattle.std.specs.List.{list_any}
use Rattle.std.specs.HashMap.{spare}
use Rattle.std.specs.Vec.Iter.{into_iter_items}
use Rattle.s2_uniquelock.specs.Holds.{value_hold, same_key}
use Rattle.s2_uniquelock.proofs.hold.take_values.Given as goal

abbrev pub invariant-loop-j : goal.invariant-loop-j
invariant-loop-j l =
    (goal.iterator-loop-j).can_next l.j-iterator × (goal.iterator-loop-j).is_finite l.j-iterator
    × All (λ p. p.0 < 4) (into_iter_items l.j-iterator)
    × (length (into_iter_items l.j-iterator) ≤ spare l.values)
    × (spare l.initial.values + length (into_iter_items l.j-iterator) ≤ spare l.values + length (into_iter_items l.initial.j-iterator))
    × ((i : ℕ) (q : List Value) → (if list_any (λ p. (p.0 == i) && same_key p.1 q) (into_iter_items l.j-iterator) then l.hold else value_hold l.values.entries i q)
    ≡ (if list_any (λ p. (p.0 == i) && same_key p.1 q) (into_iter_items l.initial.j-iterator) then l.hold else value_hold l.initial.values.entries i q))
