use Rattle.std.proofs.Common.{◌≡◌, ◌<◌, ℕ, true}
use Rattle.s2_value.specs.Schemas.{key}
use Rattle.s2_rowstore.specs.Keys.{noted_at, KeepsNotes}
use Rattle.s2_rowstore.proofs.notes.note_row.Given as goal

abbrev pub invariant-loop-j : goal.invariant-loop-j
invariant-loop-j l = KeepsNotes l.initial.notes l.notes × ((i : ℕ) → i < l.j → noted_at l.notes i (key l.schema i l.row) l.id ≡ true)
