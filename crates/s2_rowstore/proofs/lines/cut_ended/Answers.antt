use Rattle.std.proofs.Common.{◌∙◌, refl, ap, length, arith}
use Rattle.s2_rowstore.specs.Lines.{body_at, cut_body}
use Rattle.s2_rowstore.proofs.Ended.{cut_queued, cut_again, cut_over, still_queued}
use Rattle.s2_rowstore.proofs.TakenBack.{had_more, had_as, cut_there}
use Rattle.s2_rowstore.proofs.lines.cut_ended.Goals as goal

pub loop-id-smaller : goal.loop-id-smaller
loop-id-smaller c =
    let shorter = ap length c.in-Some.ensures.some.2 in
    omega (arith, shorter)

pub loop-id-preserved : goal.loop-id-preserved
loop-id-preserved c = (
  c.in-Some.ensures.whole ∙ c.loop-id.invariant.0,
  cut_queued c.args.h c.in-Some.id c.in-Some.ensures.some.0 c.loop-id.lines.entries c.cut_line.new.lines.entries c.loop-id.ends c.pop.new.self c.in-Some.ensures.some.1 c.in-Some.ensures.some.2 c.in-Some.ensures.whole c.cut_line.ensures.after c.loop-id.invariant.1,
  λ n. cut_again c.args.h c.in-Some.id c.loop-id.lines.entries c.cut_line.new.lines.entries n _ (c.cut_line.ensures.after n) (c.loop-id.invariant.2 n),
  had_more c.args.schema.now (λ n. cut_body c.args.h (body_at c.args.lines.now.entries n)) c.in-Some.id (body_at c.cut_line.new.lines.entries c.in-Some.id) c.args.notes.now c.loop-id.notes c.cut_line.new.notes
      (cut_there c.args.h c.in-Some.id c.loop-id.lines.entries c.cut_line.new.lines.entries c.args.lines.now.entries c.cut_line.ensures.after c.loop-id.invariant.2) c.loop-id.invariant.3 c.cut_line.ensures.notes,
)

pub returns-clause-cut : goal.returns-clause-cut
returns-clause-cut c n =
    cut_over c.args.h c.loop-id.lines.entries c.pop.new.self n (c.in_default.ensures.whole ∙ c.loop-id.invariant.0) (c.in_default.ensures.none refl)
    (still_queued c.loop-id.ends c.pop.new.self _ (c.in_default.ensures.kept refl) c.loop-id.invariant.1)
    ∙ c.loop-id.invariant.2 n

pub returns-clause-queued : goal.returns-clause-queued
returns-clause-queued c = still_queued c.loop-id.ends c.pop.new.self _ (c.in_default.ensures.kept refl) c.loop-id.invariant.1

pub returns-clause-notes : goal.returns-clause-notes
returns-clause-notes c =
    had_as c.args.schema.now (λ n. cut_body c.args.h (body_at c.args.lines.now.entries n)) (body_at c.loop-id.lines.entries) c.args.notes.now c.loop-id.notes
    (λ n. cut_over c.args.h c.loop-id.lines.entries c.pop.new.self n (c.in_default.ensures.whole ∙ c.loop-id.invariant.0) (c.in_default.ensures.none refl)
    (still_queued c.loop-id.ends c.pop.new.self _ (c.in_default.ensures.kept refl) c.loop-id.invariant.1)
    ∙ c.loop-id.invariant.2 n) c.loop-id.invariant.3
