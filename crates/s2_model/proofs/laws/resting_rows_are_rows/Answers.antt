use Rattle.s2_model.proofs.Facts.{resting_rows_are_rows}
use Rattle.s2_model.proofs.laws.resting_rows_are_rows.Goals as goal

pub returns : goal.returns
returns c = resting_rows_are_rows
