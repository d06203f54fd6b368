use Rattle.std.proofs.Common.{◌≡◌, length}
use Rattle.std.specs.Cmp.Lexicographic.{pointwise}
use Rattle.s2_segment.specs.Same.{col_eq}
use Rattle.s2_segment.proofs.copies.are_same_columns.Given as goal

abbrev pub invariant-loop-left : goal.invariant-loop-left
invariant-loop-left l = pointwise col_eq l.left l.right ≡ pointwise col_eq l.cols l.others

abbrev pub decreases-loop-left : goal.decreases-loop-left
decreases-loop-left l = length l.left
