use Rattle.std.proofs.Common.{◌≡◌, ◌*◌, true, length}
use Rattle.std.specs.Prelude.{zip}
use Rattle.std.specs.List.{list_all}
use Rattle.s2_colbytes.specs.Numbers.{numbers}
use Rattle.s2_value.specs.Columns.{are_below}
use Rattle.s2_model.specs.Laws.{in_order_from}
use Rattle.s2_segment.proofs.order.are_in_order_from.Given as goal

abbrev pub invariant-loop-left : goal.invariant-loop-left
invariant-loop-left l = record {
  same : in_order_from l.schema (l.before_id, l.before) (zip (numbers 8 (length l.left) l.ids) l.left) ≡ in_order_from l.schema (l.initial.before_id, l.initial.before) (zip (numbers 8 (length l.initial.left) l.initial.ids) l.initial.left);
  whole : length l.ids ≡ 8 * length l.left;
  first : are_below (length l.before) l.schema.sort ≡ true;
  rows : list_all (λ r. are_below (length r) l.schema.sort) l.left ≡ true;
}

abbrev pub decreases-loop-left : goal.decreases-loop-left
decreases-loop-left l = length l.left
