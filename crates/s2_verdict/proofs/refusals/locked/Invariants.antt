use Rattle.std.proofs.Common.{◌≡◌, length}
use Rattle.s2_verdict.specs.Holders.{locked_in}
use Rattle.s2_verdict.proofs.refusals.locked.Given as goal

abbrev pub invariant-loop-left : goal.invariant-loop-left
invariant-loop-left l = locked_in l.others l.left ≡ locked_in l.others l.rows

abbrev pub decreases-loop-left : goal.decreases-loop-left
decreases-loop-left l = length l.left
