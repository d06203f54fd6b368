use Rattle.s2_colenc.proofs.Choice.{one_block}
use Rattle.s2_colenc.proofs.laws.shortest_blocks_are_one.Goals as goal

pub returns : goal.returns
returns c = one_block
