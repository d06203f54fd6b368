-- By the form of the line.
use Rattle.s2_resolve.proofs.Lines.{resolved}
use Rattle.s2_resolve.proofs.laws.faultless_lines_resolve.Goals as goal

pub returns : goal.returns
returns c = resolved
