use Rattle.std.proofs.Common.{◌∙◌}
use Rattle.s2_colplain.proofs.Cuts.{start_at-last}
use Rattle.s2_colplain.proofs.texts.last_end.Goals as goal

pub returns : goal.returns
returns c = c.start_of.ensures ∙ start_at-last c.args.count c.args.ends.now
