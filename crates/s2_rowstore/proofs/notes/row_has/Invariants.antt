use Rattle.std.proofs.Common.{◌≡◌, length}
use Rattle.s2_rowstore.specs.Keys.{row_has}
use Rattle.s2_rowstore.proofs.notes.row_has.Given as goal

abbrev pub invariant-loop-places : goal.invariant-loop-places
invariant-loop-places l = row_has l.places l.key l.row ≡ row_has l.initial.places l.initial.key l.row

abbrev pub decreases-loop-places : goal.decreases-loop-places
decreases-loop-places l = length l.places
