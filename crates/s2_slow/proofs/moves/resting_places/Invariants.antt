use Rattle.std.proofs.Common.{◌≡◌, ◌++◌, length}
use Rattle.s2_model.specs.Verdict.{resting_places}
use Rattle.s2_slow.proofs.moves.resting_places.Given as goal

abbrev pub invariant-loop-left : goal.invariant-loop-left
invariant-loop-left l = l.places.items ++ resting_places l.left l.numbers ≡ resting_places l.segments l.numbers

abbrev pub decreases-loop-left : goal.decreases-loop-left
decreases-loop-left l = length l.left
