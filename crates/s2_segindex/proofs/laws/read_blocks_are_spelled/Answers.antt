use Rattle.s2_segindex.proofs.ReadSpelled.{read_is_spelled}
use Rattle.s2_segindex.proofs.laws.read_blocks_are_spelled.Goals as goal

pub returns : goal.returns
returns c = read_is_spelled
