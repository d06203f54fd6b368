use Rattle.std.proofs.Common.{◌≡◌, ◌≤◌, drop, min}
use Rattle.s2_colplain.specs.Packed.{least_rank}
use Rattle.s2_colenc.proofs.sizes.least_rank.Given as goal

abbrev pub invariant-loop-val : goal.invariant-loop-val
invariant-loop-val l = record {
  least : min l.least (least_rank (drop l.val-index l.vals)) ≡ least_rank l.vals;
  fits : l.least ≤ 18446744073709551615;
}
