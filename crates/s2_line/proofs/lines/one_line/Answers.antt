use Rattle.s2_line.proofs.PredicateLaws.{one_raw}
use Rattle.s2_line.proofs.lines.one_line.Goals as goal

pub returns : goal.returns
returns c = one_raw c.one_predicate.ensures
