use Rattle.std.proofs.Common.{◌≡◌, length}
use Rattle.s2_verdict.specs.Holders.{holder_in}
use Rattle.s2_verdict.proofs.holders.holder_in.Given as goal

abbrev pub invariant-loop-left : goal.invariant-loop-left
invariant-loop-left l = holder_in l.left l.number ≡ holder_in l.others l.number

abbrev pub decreases-loop-left : goal.decreases-loop-left
decreases-loop-left l = length l.left
