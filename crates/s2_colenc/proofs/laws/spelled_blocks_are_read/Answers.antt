use Rattle.s2_colenc.proofs.Spelled.{spelled_is_read}
use Rattle.s2_colenc.proofs.laws.spelled_blocks_are_read.Goals as goal

pub returns : goal.returns
returns c = λ kind vals bytes s. spelled_is_read s
