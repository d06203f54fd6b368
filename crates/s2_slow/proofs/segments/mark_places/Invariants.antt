use Rattle.std.proofs.Common.{◌≡◌}
use Rattle.s2_model.specs.Placement.{marked}
use Rattle.s2_slow.proofs.segments.mark_places.Given as goal

abbrev pub invariant-loop-segment : goal.invariant-loop-segment
invariant-loop-segment l = l.marked.items ≡ marked l.t l.places l.yielded
