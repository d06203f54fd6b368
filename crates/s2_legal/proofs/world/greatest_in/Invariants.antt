use Rattle.std.proofs.Common.{◌≡◌, length}
use Rattle.s2_model.specs.History.{greatest_in}
use Rattle.s2_legal.proofs.world.greatest_in.Given as goal

abbrev pub invariant-loop-left : goal.invariant-loop-left
invariant-loop-left l = greatest_in l.left l.greatest ≡ greatest_in l.changes l.was

abbrev pub decreases-loop-left : goal.decreases-loop-left
decreases-loop-left l = length l.left
