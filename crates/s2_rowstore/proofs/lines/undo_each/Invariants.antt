use Rattle.std.proofs.Common.{◌≡◌, ℕ, if◌then◌else◌}
use Rattle.s2_rowstore.specs.Lines.{body_at, names_row, undone}
use Rattle.s2_rowstore.specs.Store.{KeepsHad}
use Rattle.s2_rowstore.proofs.lines.undo_each.Given as goal

abbrev pub invariant-loop-id : goal.invariant-loop-id
invariant-loop-id l =
    ((n : ℕ) → (if names_row l.id-iterator n then undone l.actor (body_at l.lines.entries n) else body_at l.lines.entries n)
    ≡ (if names_row l.initial.id-iterator n then undone l.actor (body_at l.initial.lines.entries n) else body_at l.initial.lines.entries n))
    × KeepsHad l.schema (body_at l.lines.entries) l.initial.notes l.notes
