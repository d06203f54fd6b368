use Rattle.s2_model.proofs.LongerRuns.{reply_stays}
use Rattle.s2_model.proofs.laws.reply_stays.Goals as goal

pub returns : goal.returns
returns c = reply_stays
