use Rattle.std.proofs.Common.{◌∙◌}
use Rattle.s2_rowstore.proofs.Kept.{undone_everywhere}
use Rattle.s2_rowstore.proofs.lines.undo_all.Goals as goal

pub returns-clause-after : goal.returns-clause-after
returns-clause-after c n = c.undo_each.ensures.after n ∙ undone_everywhere c.args.actor _ _ (c.requires.listed n)
