use Rattle.std.proofs.Common.{refl, sym, ap, subst, ◌∙◌}
use Rattle.s2_model.specs.declared.replies.Reply.TheVariants.{Rows}
use Rattle.s2_model.specs.Answer.{answer}
use Rattle.s2_model.specs.History.{view}
use Rattle.s2_model.specs.declared.statements.Stmt.{Stmt}
use Rattle.s2_model.specs.declared.statements.Stmt.TheVariants.{Select, Begin, BeginReadOnly, Commit, Rollback}
use Rattle.s2_state.specs.States.{history_of}
use Rattle.s2_drive.specs.Turns.{Told}
use Rattle.s2_drive.proofs.Readings.{told, told_or, told_rows, told_memory}
use Rattle.s2_drive.proofs.turns.reply_only.Goals as goal

pub returns-in-Ok-clause-told : goal.returns-in-Ok-clause-told
returns-in-Ok-clause-told c =
    let s = c.args.state.now in
    subst (λ (x : Stmt). Told s.schema c.args.session x c.in-Ok.reply (history_of s) (history_of s)) (sym c.in-Select.is)
    (told_rows s c.args.session c.in-Select.wanted c.in-Ok.reply (c.in-Ok.ensures ∙ ap (λ w. Rows (answer w (view (history_of s) c.args.session))) c.get.ensures))

pub returns-in-Err-clause-told : goal.returns-in-Err-clause-told
returns-in-Err-clause-told c =
    let s = c.args.state.now in
    subst (λ (x : Stmt). Told s.schema c.args.session x _ (history_of s) (history_of s)) (sym c.in-Select.is)
    (told_memory s c.args.session (Select c.in-Select.wanted) refl)

pub returns-in-Begin-clause-told : goal.returns-in-Begin-clause-told
returns-in-Begin-clause-told c =
    let s = c.args.state.now in
    subst (λ (x : Stmt). Told s.schema c.args.session x c.begin.result (history_of s) (history_of c.begin.new.s)) (sym c.in-Begin.is)
    (told_or s c.begin.new.s c.args.session Begin c.begin.result refl refl c.begin.ensures.says)

pub returns-in-BeginReadOnly-clause-told : goal.returns-in-BeginReadOnly-clause-told
returns-in-BeginReadOnly-clause-told c =
    let s = c.args.state.now in
    subst (λ (x : Stmt). Told s.schema c.args.session x c.begin_read_only.result (history_of s) (history_of c.begin_read_only.new.s)) (sym c.in-BeginReadOnly.is)
    (told_or s c.begin_read_only.new.s c.args.session BeginReadOnly c.begin_read_only.result refl refl c.begin_read_only.ensures.says)

pub returns-in-Commit-clause-told : goal.returns-in-Commit-clause-told
returns-in-Commit-clause-told c =
    let s = c.args.state.now in
    subst (λ (x : Stmt). Told s.schema c.args.session x c.commit.result (history_of s) (history_of c.commit.new.s)) (sym c.in-Commit.is)
    (told s c.commit.new.s c.args.session Commit c.commit.result refl c.commit.ensures.says)

pub returns-in-Rollback-clause-told : goal.returns-in-Rollback-clause-told
returns-in-Rollback-clause-told c =
    let s = c.args.state.now in
    subst (λ (x : Stmt). Told s.schema c.args.session x c.rollback.result (history_of s) (history_of c.rollback.new.s)) (sym c.in-Rollback.is)
    (told s c.rollback.new.s c.args.session Rollback c.rollback.result refl c.rollback.ensures.says)
