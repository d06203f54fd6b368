use Rattle.s2_model.proofs.Facts.{places_are_rows}
use Rattle.s2_model.proofs.laws.placed_rows_are_rows.Goals as goal

pub returns : goal.returns
returns c = places_are_rows
