-- Tokens are at most one line, so bytes have at most one outcome.
use Rattle.s2_script.proofs.OneLaws.{reads_once}
use Rattle.s2_script.proofs.laws.one_outcome.Goals as goal

pub returns : goal.returns
returns c = reads_once c.one_line.ensures
