use Rattle.s2_segment.proofs.Whole.{indexes_are}
use Rattle.s2_segment.proofs.laws.indexes_are_of_the_rows.Goals as goal

pub returns : goal.returns
returns c = indexes_are
