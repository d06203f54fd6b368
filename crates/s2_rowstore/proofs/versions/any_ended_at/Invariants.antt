use Rattle.std.proofs.Common.{◌≡◌, length}
use Rattle.s2_rowstore.specs.Ends.{has_end}
use Rattle.s2_rowstore.proofs.versions.any_ended_at.Given as goal

abbrev pub invariant-loop-left : goal.invariant-loop-left
invariant-loop-left l = has_end l.time l.left ≡ has_end l.time l.versions

abbrev pub decreases-loop-left : goal.decreases-loop-left
decreases-loop-left l = length l.left
