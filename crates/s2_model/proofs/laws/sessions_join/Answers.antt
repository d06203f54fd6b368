use Rattle.s2_model.proofs.LongerRuns.{sessions_join}
use Rattle.s2_model.proofs.laws.sessions_join.Goals as goal

pub returns : goal.returns
returns c = sessions_join
