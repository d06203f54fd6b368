use Rattle.s2_pred.proofs.Reached.{one}
use Rattle.s2_pred.proofs.reading.one_predicate.Goals as goal

pub returns : goal.returns
returns c = one
