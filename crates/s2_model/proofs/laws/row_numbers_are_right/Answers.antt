use Rattle.s2_model.proofs.Facts.{row_numbers_are_right}
use Rattle.s2_model.proofs.laws.row_numbers_are_right.Goals as goal

pub returns : goal.returns
returns c = row_numbers_are_right
