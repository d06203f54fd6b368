use Rattle.s2_model.proofs.LongerRuns.{replies_go_on}
use Rattle.s2_model.proofs.laws.replies_go_on.Goals as goal

pub returns : goal.returns
returns c = replies_go_on
