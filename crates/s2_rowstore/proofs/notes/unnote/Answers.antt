use Rattle.s2_rowstore.proofs.TakenBack.{gone_noted}
use Rattle.s2_rowstore.proofs.notes.unnote.Goals as goal

pub returns-then-drop_noted : goal.returns-then-drop_noted
returns-then-drop_noted c =
    gone_noted c.args.notes.now.entries c.drop_noted.new.notes.entries c.remove.new.self.entries c.args.key.now c.args.id
    c.remove.ensures.updates.0 (c.drop_noted.ensures.none c.if-drop_noted.true) c.drop_noted.ensures.kept
