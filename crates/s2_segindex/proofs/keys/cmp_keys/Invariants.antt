use Rattle.std.proofs.Common.{◌≡◌}
use Rattle.s2_value.specs.Order.{row_cmp}
use Rattle.s2_segindex.specs.Places.{key_in}
use Rattle.s2_segindex.proofs.keys.cmp_keys.Given as goal

abbrev pub invariant-loop-left : goal.invariant-loop-left
invariant-loop-left l = row_cmp (key_in l.left l.bytes) (key_in l.left l.others) ≡ row_cmp (key_in l.initial.left l.initial.bytes) (key_in l.initial.left l.initial.others)

abbrev pub decreases-loop-left : goal.decreases-loop-left
decreases-loop-left l = l.left
