use Rattle.s2_model.proofs.InOrder.{simple_runs}
use Rattle.s2_model.proofs.runs.simple_runs_are_right.Goals as goal

pub returns : goal.returns
returns c = simple_runs
