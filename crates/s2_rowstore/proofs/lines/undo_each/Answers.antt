use Rattle.std.proofs.Common.{rules}
use Rattle.s2_rowstore.proofs.TakenBack.{undo_more}
use Rattle.s2_rowstore.proofs.lines.undo_each.Goals as goal

pub loop-id-preserved : goal.loop-id-preserved
loop-id-preserved c = (
  search rules,
  undo_more c.args.schema.now c.args.actor _ c.loop-id.lines.entries c.undo_line.new.lines.entries c.args.notes.now c.loop-id.notes c.undo_line.new.notes c.loop-id.invariant.1 c.undo_line.ensures.after c.undo_line.ensures.notes,
)
