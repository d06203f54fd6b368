use Rattle.std.proofs.Common.{◌≡◌, length}
use Rattle.std.specs.Prelude.{map}
use Rattle.s2_judge.specs.Kinds.{has_repeated}
use Rattle.s2_judge.proofs.repeats.has_repeated.Given as goal

abbrev pub invariant-loop-left : goal.invariant-loop-left
invariant-loop-left g l = has_repeated (map g.T.Named.named l.left) ≡ has_repeated (map g.T.Named.named l.items)

abbrev pub decreases-loop-left : goal.decreases-loop-left
decreases-loop-left g l = length l.left
