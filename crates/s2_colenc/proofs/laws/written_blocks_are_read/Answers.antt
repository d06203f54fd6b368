use Rattle.s2_colenc.proofs.WrittenSpelled.{written_is_spelled}
use Rattle.s2_colenc.proofs.Spelled.{spelled_is_read}
use Rattle.s2_colenc.proofs.laws.written_blocks_are_read.Goals as goal

pub returns : goal.returns
returns c = λ kind vals bytes a b. spelled_is_read (written_is_spelled kind vals bytes a b)
