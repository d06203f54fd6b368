use Rattle.s2_legal.proofs.Outcomes as outcomes
use Rattle.s2_legal.proofs.laws.judged_once.Goals as goal

pub returns : goal.returns
returns c = outcomes.judged_once
