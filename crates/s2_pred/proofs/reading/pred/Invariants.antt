use Rattle.std.proofs.Common.{length}
use Rattle.s2_pred.proofs.Reached.{Reached}
use Rattle.s2_pred.proofs.reading.pred.Given as goal

abbrev pub invariant-loop-left : goal.invariant-loop-left
invariant-loop-left l = Reached l.fn.tokens l.left l.yard

abbrev pub decreases-loop-left : goal.decreases-loop-left
decreases-loop-left l = length l.left
