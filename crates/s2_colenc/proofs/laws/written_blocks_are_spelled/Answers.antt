use Rattle.s2_colenc.proofs.WrittenSpelled.{written_is_spelled}
use Rattle.s2_colenc.proofs.laws.written_blocks_are_spelled.Goals as goal

pub returns : goal.returns
returns c = written_is_spelled
