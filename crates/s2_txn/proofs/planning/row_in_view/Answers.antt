use Rattle.std.proofs.Common.{◌∙◌}
use Rattle.s2_txn.proofs.Keyed.{row_shown}
use Rattle.s2_txn.proofs.planning.row_in_view.Goals as goal

pub returns : goal.returns
returns c = c.visible_row.ensures ∙ row_shown c.args.s.now c.requires.good c.args.actor c.args.id c.read_time.result c.read_time.ensures
