use Rattle.s2_model.proofs.Whole.{histories_are_placed}
use Rattle.s2_model.proofs.laws.histories_are_placed.Goals as goal

pub returns : goal.returns
returns c = histories_are_placed
