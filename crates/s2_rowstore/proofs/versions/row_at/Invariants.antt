use Rattle.std.proofs.Common.{◌≡◌, length}
use Rattle.s2_rowstore.specs.Chains.{row_at}
use Rattle.s2_rowstore.proofs.versions.row_at.Given as goal

abbrev pub invariant-loop-left : goal.invariant-loop-left
invariant-loop-left l = row_at l.r l.left ≡ row_at l.r l.versions

abbrev pub decreases-loop-left : goal.decreases-loop-left
decreases-loop-left l = length l.left
