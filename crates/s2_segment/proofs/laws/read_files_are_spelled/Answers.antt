use Rattle.s2_segment.proofs.Whole.{read_is_spelled}
use Rattle.s2_segment.proofs.laws.read_files_are_spelled.Goals as goal

pub returns : goal.returns
returns c = read_is_spelled
