use Rattle.std.proofs.Common.{◌≡◌, take, false}
use Rattle.std.specs.List.{list_any}
use Rattle.std.specs.Ordering.{is_eq}
use Rattle.s2_value.specs.Order.{value_cmp}
use Rattle.s2_model.specs.Rows.{value_at}
use Rattle.s2_model.proofs.rows.is_one_of.Given as goal

abbrev pub invariant-loop-value : goal.invariant-loop-value
invariant-loop-value l = list_any (λ v. is_eq (value_cmp (value_at l.row l.column) v)) (take l.value-index l.values) ≡ false
