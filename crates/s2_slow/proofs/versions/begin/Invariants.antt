use Rattle.std.proofs.Common.{◌≡◌, ◌++◌, length}
use Rattle.s2_model.specs.Placement.{begun}
use Rattle.s2_slow.proofs.versions.begin.Given as goal

abbrev pub invariant-loop-left : goal.invariant-loop-left
invariant-loop-left l = l.versions.items ++ begun l.t l.left ≡ l.fn.versions.items ++ begun l.t l.changes

abbrev pub decreases-loop-left : goal.decreases-loop-left
decreases-loop-left l = length l.left
