use Rattle.std.proofs.Common.{◌∙◌}
use Rattle.std.proofs.lemmas.Result.{on_ok_weaker}
use Rattle.s2_rowstore.proofs.Noted.{kept_at, noted_set}
use Rattle.s2_rowstore.proofs.notes.note_at.Goals as goal

pub returns-clause-kept : goal.returns-clause-kept
returns-clause-kept c = kept_at c.args.notes.now c.args.j c.note.new.notes c.index-notes-j.result c.requires c.note.ensures.kept

pub returns-clause-added : goal.returns-clause-added
returns-clause-added c =
    on_ok_weaker c.note.result (λ h. noted_set c.args.notes.now c.args.j c.note.new.notes c.requires c.args.key c.args.id ∙ h) c.note.ensures.added
