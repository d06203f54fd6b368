use Rattle.s2_value.specs.Order.{value_cmp_total}
use Rattle.s2_value.proofs.laws.values_are_ordered.Goals as goal

pub returns : goal.returns
returns c = value_cmp_total
