use Rattle.std.proofs.Common.{◌≡◌, ◌++◌, length}
use Rattle.s2_model.specs.Placement.{moved_ids}
use Rattle.s2_slow.proofs.segments.moved_ids.Given as goal

abbrev pub invariant-loop-left : goal.invariant-loop-left
invariant-loop-left l = l.ids.items ++ moved_ids l.places l.left ≡ moved_ids l.places l.segments

abbrev pub decreases-loop-left : goal.decreases-loop-left
decreases-loop-left l = length l.left
