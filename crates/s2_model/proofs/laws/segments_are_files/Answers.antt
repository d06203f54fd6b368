use Rattle.s2_model.proofs.SegmentFiles.{segments_are_files}
use Rattle.s2_model.proofs.laws.segments_are_files.Goals as goal

pub returns : goal.returns
returns c = segments_are_files
