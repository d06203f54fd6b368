use Rattle.s2_segindex.proofs.Spelled.{spelled_is_read}
use Rattle.s2_segindex.proofs.laws.spelled_blocks_are_read.Goals as goal

pub returns : goal.returns
returns c = spelled_is_read
