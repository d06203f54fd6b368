use Rattle.std.proofs.Common.{◌≡◌, ◌++◌, ◌+◌, length}
use Rattle.s2_model.specs.Placement.{contains_place, mark_spots}
use Rattle.s2_slow.proofs.segments.mark_spots.Given as goal

abbrev pub invariant-loop-left : goal.invariant-loop-left
invariant-loop-left l = record {
  built : l.marked.items ++ mark_spots l.t (contains_place l.places l.number) l.offset l.left ≡ mark_spots l.t (contains_place l.places l.number) 0 l.spots;
  within : l.offset + length l.left ≡ length l.spots;
}

abbrev pub decreases-loop-left : goal.decreases-loop-left
decreases-loop-left l = length l.left
