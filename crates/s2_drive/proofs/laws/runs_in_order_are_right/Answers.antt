use Rattle.s2_drive.proofs.InOrder.{right_runs}
use Rattle.s2_drive.proofs.laws.runs_in_order_are_right.Goals as goal

pub returns : goal.returns
returns c = right_runs
