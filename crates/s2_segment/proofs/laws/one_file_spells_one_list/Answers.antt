use Rattle.s2_segment.proofs.Whole.{one_list}
use Rattle.s2_segment.proofs.laws.one_file_spells_one_list.Goals as goal

pub returns : goal.returns
returns c = one_list
