use Rattle.s2_segindex.proofs.Grouped.{groups_rise}
use Rattle.s2_segindex.proofs.laws.groups_rise.Goals as goal

pub returns : goal.returns
returns c = groups_rise
