use Rattle.std.proofs.Common.{◌≡◌, ◌+◌, drop}
use Rattle.s2_colenc.specs.Sizes.{leading}
use Rattle.s2_colenc.proofs.sizes.leading.Given as goal

abbrev pub invariant-loop-val : goal.invariant-loop-val
invariant-loop-val l = record {
  same : l.count + leading l.first (drop l.val-index l.vals) ≡ leading l.first l.vals;
  index : l.count ≡ l.val-index;
}
