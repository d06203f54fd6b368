use Rattle.std.proofs.Common.{◌∙◌}
use Rattle.s2_rowstore.specs.Lines.{body_at, cut_body}
use Rattle.s2_rowstore.proofs.TakenBack.{had_as}
use Rattle.s2_rowstore.proofs.lines.cut_all.Goals as goal

pub returns-clause-cut : goal.returns-clause-cut
returns-clause-cut c n = c.cut_lines.ensures n ∙ c.unnote_lines.ensures.same n

pub returns-clause-notes : goal.returns-clause-notes
returns-clause-notes c =
    had_as c.args.schema.now (λ n. cut_body c.args.h (body_at c.args.lines.now.entries n)) (body_at c.cut_lines.new.lines.entries) c.args.notes.now c.unnote_lines.new.notes
    (λ n. c.cut_lines.ensures n ∙ c.unnote_lines.ensures.same n) c.unnote_lines.ensures.notes
