use Rattle.std.proofs.Common.{◌≡◌, drop, max}
use Rattle.s2_colplain.specs.Packed.{greatest_rank}
use Rattle.s2_colenc.proofs.sizes.greatest_rank.Given as goal

abbrev pub invariant-loop-val : goal.invariant-loop-val
invariant-loop-val l = max l.greatest (greatest_rank (drop l.val-index l.vals)) ≡ greatest_rank l.vals
