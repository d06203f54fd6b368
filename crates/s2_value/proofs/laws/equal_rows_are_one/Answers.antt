use Rattle.s2_value.specs.Order.{one_row}
use Rattle.s2_value.proofs.laws.equal_rows_are_one.Goals as goal

pub returns : goal.returns
returns c = one_row
