use Rattle.s2_value.specs.Order.{row_cmp_total}
use Rattle.s2_value.proofs.laws.rows_are_ordered.Goals as goal

pub returns : goal.returns
returns c = row_cmp_total
