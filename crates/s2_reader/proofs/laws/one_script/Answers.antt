-- Bytes have one outcome, and lines one meaning.
use Rattle.s2_reader.proofs.Once.{once}
use Rattle.s2_reader.proofs.laws.one_script.Goals as goal

pub returns : goal.returns
returns c = once c.one_outcome.ensures c.one_meaning.ensures
