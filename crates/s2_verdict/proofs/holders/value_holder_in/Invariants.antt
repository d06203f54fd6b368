use Rattle.std.proofs.Common.{◌≡◌, length}
use Rattle.s2_verdict.specs.Holders.{value_holder_in}
use Rattle.s2_verdict.proofs.holders.value_holder_in.Given as goal

abbrev pub invariant-loop-left : goal.invariant-loop-left
invariant-loop-left l = value_holder_in l.rows l.left l.key l.value ≡ value_holder_in l.rows l.others l.key l.value

abbrev pub decreases-loop-left : goal.decreases-loop-left
decreases-loop-left l = length l.left
