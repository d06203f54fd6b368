use Rattle.s2_segment.proofs.Whole.{spelled_is_read}
use Rattle.s2_segment.proofs.laws.spelled_files_are_read.Goals as goal

pub returns : goal.returns
returns c = spelled_is_read
