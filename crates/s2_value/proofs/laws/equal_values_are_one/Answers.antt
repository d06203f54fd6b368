use Rattle.s2_value.specs.Order.{one_value}
use Rattle.s2_value.proofs.laws.equal_values_are_one.Goals as goal

pub returns : goal.returns
returns c = one_value
