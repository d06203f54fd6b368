use Rattle.std.proofs.Common.{◌≡◌, ◌*◌, nat_lt, length}
use Rattle.std.specs.List.{list_all}
use Rattle.s2_colbytes.specs.Numbers.{numbers}
use Rattle.s2_segment.proofs.head.are_positive.Given as goal

abbrev pub invariant-loop-left : goal.invariant-loop-left
invariant-loop-left l = record {
  same : list_all (λ i. nat_lt 0 i) (numbers 8 l.left l.rest) ≡ list_all (λ i. nat_lt 0 i) (numbers 8 l.initial.left l.initial.rest);
  whole : length l.rest ≡ 8 * l.left;
}

abbrev pub decreases-loop-left : goal.decreases-loop-left
decreases-loop-left l = l.left
