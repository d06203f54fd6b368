use Rattle.std.proofs.Common.{sym, ap, ◌∙◌, arith, subst}
use Rattle.std.proofs.lemmas.Result.{IfOk-weaker}
use Rattle.s2_model.specs.declared.replies.Reply.TheVariants.{Rows}
use Rattle.s2_model.specs.declared.statements.Select.{Select}
use Rattle.s2_model.specs.declared.statements.Stmt.{Stmt}
use Rattle.s2_model.specs.Answer.{answer}
use Rattle.s2_model.specs.Verdict.{makes, says, verdict}
use Rattle.s2_legal.specs.World.{IsAtPin, flag_of, seen_in}
use Rattle.s2_legal.proofs.Rulings.{verdict_read, verdict_write, writes_else}
use Rattle.s2_legal.proofs.verdicts.verdict.Goals as goal

pub returns-in-Select-clause-rules : goal.returns-in-Select-clause-rules
returns-in-Select-clause-rules c =
    let w = c.args.world.now in
    let k = c.args.k in
    IfOk-weaker c.read.result _ _
    (λ r told H knows built last at.
    ap (λ (s : Stmt). verdict c.args.schema.now H k s) c.in-Select.is
    ∙ verdict_read c.args.schema.now w H k c.in-Select.select (makes r.reply r.makes.items) (omega (arith, c.ranges.k.fits))
    (sym (ap (λ (x : Select). says (Rows (answer x (seen_in (flag_of w.pinned.items k) w.rows.entries w.writes.items k)))) c.get.ensures) ∙ told) knows
    (subst (λ (s : Stmt). IsAtPin H k s) c.in-Select.is last)) c.read.ensures.rules

pub returns-in_default-clause-rules : goal.returns-in_default-clause-rules
returns-in_default-clause-rules c =
    let s = c.args.stmt.now in
    let k = c.args.k in
    IfOk-weaker c.write_ruling.result _ _
    (λ r told H knows built last at.
    verdict_write c.args.schema.now c.args.world.now H k c.args.count s (makes r.reply r.makes.items) (omega (arith, c.ranges.k.fits))
    (writes_else c.args.schema.now H k s c.requires.built c.in_default.not-Select c.in_default.not-Begin c.in_default.not-BeginReadOnly c.in_default.not-Commit c.in_default.not-Rollback)
    told knows built at) c.write_ruling.ensures.rules
