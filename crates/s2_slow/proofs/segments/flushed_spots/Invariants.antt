use Rattle.std.proofs.Common.{◌≡◌, ◌++◌, ◌+◌, length}
use Rattle.s2_model.specs.Placement.{contains_number, new_spots}
use Rattle.s2_slow.proofs.segments.flushed_spots.Given as goal

abbrev pub invariant-loop-left : goal.invariant-loop-left
invariant-loop-left l = record {
  built : l.spots.items ++ new_spots l.t (contains_number l.offsets) l.offset l.left ≡ new_spots l.t (contains_number l.offsets) 0 l.ids;
  within : l.offset + length l.left ≡ length l.ids;
}

abbrev pub decreases-loop-left : goal.decreases-loop-left
decreases-loop-left l = length l.left
