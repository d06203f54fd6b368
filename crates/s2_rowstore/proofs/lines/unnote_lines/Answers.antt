use Rattle.s2_rowstore.proofs.TakenBack.{done_more}
use Rattle.s2_rowstore.proofs.lines.unnote_lines.Goals as goal

pub returns-then-id-clause-notes : goal.returns-then-id-clause-notes
returns-then-id-clause-notes c =
    done_more c.args.schema.now c.args.h c.in-Some.id c.args.lines.now.entries c.loop-id.lines.entries c.args.notes.now c.loop-id.notes c.unnote_line.new.notes c.loop-id.invariant.0 c.loop-id.invariant.1 c.unnote_line.ensures.notes
