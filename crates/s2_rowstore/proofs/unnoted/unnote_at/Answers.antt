use Rattle.s2_rowstore.proofs.TakenBack.{others_at}
use Rattle.s2_rowstore.proofs.unnoted.unnote_at.Goals as goal

pub returns : goal.returns
returns c = others_at c.args.notes.now c.args.j c.unnote.new.notes c.index-notes-j.result c.args.key.now c.args.id c.requires c.unnote.ensures
