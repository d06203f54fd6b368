use Rattle.std.proofs.Common.{◌≡◌, length}
use Rattle.s2_judge.specs.Kinds.{has_repeated}
use Rattle.s2_judge.proofs.repeats.has_repeated_name.Given as goal

abbrev pub invariant-loop-left : goal.invariant-loop-left
invariant-loop-left l = has_repeated l.left ≡ has_repeated l.names

abbrev pub decreases-loop-left : goal.decreases-loop-left
decreases-loop-left l = length l.left
