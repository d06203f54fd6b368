use Rattle.std.proofs.Common.{◌≡◌, ℕ, ◌≤◌, true, drop}
use Rattle.std.specs.Ordering.{nat_cmp}
use Rattle.std.specs.BTreeSet.{contains}
use Rattle.s2_colbytes.specs.Numbers.{numbers}
use Rattle.s2_value.specs.Columns.{are_distinct, has_place}
use Rattle.s2_segment.proofs.head.are_distinct.Given as goal

abbrev pub invariant-loop-left : goal.invariant-loop-left
invariant-loop-left l = record {
  within : l.left ≤ l.count;
  distinct : are_distinct (drop l.left (numbers 8 l.count l.ids)) ≡ true;
  has : (q : ℕ) → contains nat_cmp l.later q ≡ has_place q (drop l.left (numbers 8 l.count l.ids));
}

abbrev pub decreases-loop-left : goal.decreases-loop-left
decreases-loop-left l = l.left
