use Rattle.std.proofs.Common.{◌≡◌, drop}
use Rattle.s2_value.specs.Order.{row_cmp}
use Rattle.s2_segindex.specs.Places.{key_in}
use Rattle.s2_segindex.proofs.keys.cmp_key.Given as goal

abbrev pub invariant-loop-value : goal.invariant-loop-value
invariant-loop-value l = row_cmp (drop l.value-index l.key) (key_in l.left l.rest) ≡ row_cmp l.key (key_in l.width l.bytes)
