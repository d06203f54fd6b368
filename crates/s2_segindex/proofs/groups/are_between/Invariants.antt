use Rattle.std.proofs.Common.{◌≡◌, ◌*◌, length}
use Rattle.s2_colbytes.specs.Numbers.{numbers}
use Rattle.s2_segindex.specs.Blocks.{are_between}
use Rattle.s2_segindex.proofs.groups.are_between.Given as goal

abbrev pub invariant-loop-left : goal.invariant-loop-left
invariant-loop-left l = record {
  same : are_between l.low l.n (numbers 2 l.left l.rest) ≡ are_between l.initial.low l.n (numbers 2 l.initial.left l.initial.rest);
  whole : length l.rest ≡ 2 * l.left;
}

abbrev pub decreases-loop-left : goal.decreases-loop-left
decreases-loop-left l = l.left
