use Rattle.s2_model.proofs.LongerRuns.{transcripts_stay}
use Rattle.s2_model.proofs.laws.transcripts_stay.Goals as goal

pub returns : goal.returns
returns c = transcripts_stay
