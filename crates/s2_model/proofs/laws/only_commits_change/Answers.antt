use Rattle.s2_model.proofs.Facts.{only_commits_change}
use Rattle.s2_model.proofs.laws.only_commits_change.Goals as goal

pub returns : goal.returns
returns c = only_commits_change
