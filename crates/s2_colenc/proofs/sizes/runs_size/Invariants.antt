use Rattle.std.proofs.Common.{◌≡◌, ◌+◌, ◌*◌, ◌≤◌, length}
use Rattle.s2_colenc.specs.Sizes.{runs_size}
use Rattle.s2_colenc.proofs.sizes.runs_size.Given as goal

abbrev pub invariant-loop-left : goal.invariant-loop-left
invariant-loop-left l = record {
  sum : l.total + runs_size l.left ≡ runs_size l.vals;
  small : l.total + 261 * length l.left ≤ 261 * length l.vals;
}

abbrev pub decreases-loop-left : goal.decreases-loop-left
decreases-loop-left l = length l.left
