use Rattle.s2_segindex.proofs.Spelled.{one_list}
use Rattle.s2_segindex.proofs.laws.one_block_spells_one_list.Goals as goal

pub returns : goal.returns
returns c = one_list
