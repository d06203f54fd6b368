use Rattle.s2_model.proofs.LongerRuns.{replies_stay}
use Rattle.s2_model.proofs.laws.replies_stay.Goals as goal

pub returns : goal.returns
returns c = replies_stay
