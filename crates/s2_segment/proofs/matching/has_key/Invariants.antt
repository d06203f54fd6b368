use Rattle.std.proofs.Common.{◌≡◌, length}
use Rattle.std.specs.Ordering.{is_eq}
use Rattle.s2_value.specs.Order.{row_cmp}
use Rattle.s2_value.specs.Rows.{key_of}
use Rattle.s2_value.specs.Columns.{are_below}
use Rattle.std.proofs.Common.{true}
use Rattle.s2_segindex.specs.Places.{key_in}
use Rattle.s2_segment.proofs.matching.has_key.Given as goal

abbrev pub invariant-loop-left : goal.invariant-loop-left
invariant-loop-left l = record {
  same : is_eq (row_cmp (key_of l.left l.row) (key_in (length l.left) l.rest)) ≡ is_eq (row_cmp (key_of l.places l.row) (key_in (length l.places) l.bytes));
  below : are_below (length l.row) l.left ≡ true;
}

abbrev pub decreases-loop-left : goal.decreases-loop-left
decreases-loop-left l = length l.left
