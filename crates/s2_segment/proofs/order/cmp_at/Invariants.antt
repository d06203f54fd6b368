use Rattle.std.proofs.Common.{◌≡◌, drop}
use Rattle.s2_value.specs.Order.{row_cmp}
use Rattle.s2_value.specs.Rows.{key_of}
use Rattle.s2_segment.proofs.order.cmp_at.Given as goal

abbrev pub invariant-loop-place : goal.invariant-loop-place
invariant-loop-place l = row_cmp (key_of (drop l.place-index l.places) l.row) (key_of (drop l.place-index l.places) l.other) ≡ row_cmp (key_of l.places l.row) (key_of l.places l.other)
