use Rattle.s2_pred.proofs.EndLaws.{no_end}
use Rattle.s2_pred.proofs.reading.no_end_inside.Goals as goal

pub returns : goal.returns
returns c = no_end
