use Rattle.std.proofs.Common.{◌≡◌, ◌+◌, ◌≤◌, true, length}
use Rattle.std.specs.List.{list_all}
use Rattle.s2_segment.specs.Parts.{columns_at}
use Rattle.s2_segment.specs.Places.{with_front, has_count}
use Rattle.s2_segment.proofs.columns.read_columns.Given as goal

abbrev pub invariant-loop-left : goal.invariant-loop-left
invariant-loop-left l = record {
  same : with_front l.columns.items (columns_at l.n l.c l.left l.rest) ≡ columns_at l.n 0 l.cols l.initial.rest;
  many : length l.columns.items + length l.left ≡ length l.cols;
  few : l.c + length l.left ≤ 16;
  counts : list_all (has_count l.n) l.columns.items ≡ true;
}

abbrev pub decreases-loop-left : goal.decreases-loop-left
decreases-loop-left l = length l.left
