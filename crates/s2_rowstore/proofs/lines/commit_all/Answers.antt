use Rattle.std.proofs.Common.{◌∙◌}
use Rattle.s2_rowstore.proofs.Kept.{done_everywhere}
use Rattle.s2_rowstore.proofs.lines.commit_all.Goals as goal

pub returns : goal.returns
returns c n = c.commit_each.ensures n ∙ done_everywhere c.args.actor c.args.time _ _ (c.requires n)
