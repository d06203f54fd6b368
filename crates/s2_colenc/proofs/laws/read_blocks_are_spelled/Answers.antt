use Rattle.s2_colenc.proofs.ReadSpelled.{read_is_spelled}
use Rattle.s2_colenc.proofs.Readings.{column_read}
use Rattle.s2_colenc.proofs.laws.read_blocks_are_spelled.Goals as goal

pub returns : goal.returns
returns c = λ kind n bytes body h e. (read_is_spelled kind n bytes body h e, (column_read kind n bytes body e).many)
