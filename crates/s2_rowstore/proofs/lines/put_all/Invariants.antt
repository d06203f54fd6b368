use Rattle.std.proofs.Common.{◌≡◌, ℕ, true}
use Rattle.std.specs.Vec.Iter.{into_iter_items}
use Rattle.s2_rowstore.specs.Lines.{body_at, for_row, with_slot, are_apart, have_room}
use Rattle.s2_rowstore.specs.Store.{KeepsHad}
use Rattle.s2_rowstore.proofs.lines.put_all.Given as goal

abbrev pub invariant-loop-id : goal.invariant-loop-id
invariant-loop-id l =
    (goal.iterator-loop-id).can_next l.id-iterator × (goal.iterator-loop-id).is_finite l.id-iterator
    × (are_apart (into_iter_items l.id-iterator) ≡ true)
    × (have_room 0 l.lines.entries (into_iter_items l.id-iterator) ≡ true)
    × ((n : ℕ) → with_slot l.actor (for_row (into_iter_items l.id-iterator) n) (body_at l.lines.entries n)
    ≡ with_slot l.actor (for_row (into_iter_items l.initial.id-iterator) n) (body_at l.initial.lines.entries n))
    × KeepsHad l.schema (λ n. with_slot l.actor (for_row (into_iter_items l.initial.id-iterator) n) (body_at l.initial.lines.entries n)) l.initial.notes l.notes
