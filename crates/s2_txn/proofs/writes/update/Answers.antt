use Rattle.std.proofs.Common.{◌≡◌, ◌≤◌, List, map, length, Option, None, Result, Ok, Err, sym, ap, subst, ◌∙◌, arith}
use Rattle.std.proofs.lemmas.Result.{IfOk-weaker}
use Rattle.s2_model.specs.declared.entries.Change.{Change}
use Rattle.s2_model.specs.declared.replies.Refusal.{Refusal}
use Rattle.s2_model.specs.Table.{Table}
use Rattle.s2_model.specs.Verdict.{locked, most_rows}
use Rattle.s2_state.specs.States.{history_of}
use Rattle.s2_model.specs.declared.statements.Stmt.TheVariants.{Update}
use Rattle.s2_txn.specs.Planning.{Updates}
use Rattle.s2_txn.proofs.Plans.{seen_matching, update_planned, update_out}
use Rattle.s2_txn.proofs.KeyOrder.{none_if_not}
use Rattle.s2_txn.proofs.Settled.{IsPlanned, planned_rising, planned_fits, planned_may, planned_says}
use Rattle.s2_txn.proofs.writes.update.Goals as goal

pub write_changes-requires-clause-rising : goal.write_changes-requires-clause-rising
write_changes-requires-clause-rising c =
    let rows : Table = c.in_ok-rows.rows in
    let are : rows ≡ seen_matching c.args.s.now c.args.actor c.args.pred.now = c.in_ok-rows.ensures in
    let le : length rows ≤ most_rows = omega (arith, c.if-len-gt-MOST_ROWS.false, c.len.ensures) in
    let free : locked (history_of c.args.s.now) c.args.actor rows ≡ None = ap (locked (history_of c.args.s.now) c.args.actor) (sym c.as_slice.ensures) ∙ sym c.locked.ensures ∙ none_if_not c.locked.result c.in_default.not-Some in
    let p : IsPlanned c.args.s.now c.args.actor (Update c.args.sets.now c.args.pred.now) c.in-Ok.changes
    = update_planned c.args.s.now c.args.actor c.args.sets.now c.args.pred.now rows c.in-Ok.changes c.requires.early c.requires.suits are le free
    (subst (λ (t : Table). Updates c.args.sets.now t (Ok c.in-Ok.changes)) c.as_slice-2.ensures
    (subst (λ (r : Result (List Change) Refusal). Updates c.args.sets.now c.as_slice-2.result.now r) c.in-Ok.is c.in_ok-changes.ensures)) in
    planned_rising c.args.s.now c.args.actor (Update c.args.sets.now c.args.pred.now) c.in-Ok.changes c.requires.good p

pub write_changes-requires-clause-fits : goal.write_changes-requires-clause-fits
write_changes-requires-clause-fits c =
    let rows : Table = c.in_ok-rows.rows in
    let are : rows ≡ seen_matching c.args.s.now c.args.actor c.args.pred.now = c.in_ok-rows.ensures in
    let le : length rows ≤ most_rows = omega (arith, c.if-len-gt-MOST_ROWS.false, c.len.ensures) in
    let free : locked (history_of c.args.s.now) c.args.actor rows ≡ None = ap (locked (history_of c.args.s.now) c.args.actor) (sym c.as_slice.ensures) ∙ sym c.locked.ensures ∙ none_if_not c.locked.result c.in_default.not-Some in
    let p : IsPlanned c.args.s.now c.args.actor (Update c.args.sets.now c.args.pred.now) c.in-Ok.changes
    = update_planned c.args.s.now c.args.actor c.args.sets.now c.args.pred.now rows c.in-Ok.changes c.requires.early c.requires.suits are le free
    (subst (λ (t : Table). Updates c.args.sets.now t (Ok c.in-Ok.changes)) c.as_slice-2.ensures
    (subst (λ (r : Result (List Change) Refusal). Updates c.args.sets.now c.as_slice-2.result.now r) c.in-Ok.is c.in_ok-changes.ensures)) in
    planned_fits c.args.s.now c.args.actor (Update c.args.sets.now c.args.pred.now) c.in-Ok.changes c.requires.good p

pub write_changes-requires-clause-may : goal.write_changes-requires-clause-may
write_changes-requires-clause-may c =
    let rows : Table = c.in_ok-rows.rows in
    let are : rows ≡ seen_matching c.args.s.now c.args.actor c.args.pred.now = c.in_ok-rows.ensures in
    let le : length rows ≤ most_rows = omega (arith, c.if-len-gt-MOST_ROWS.false, c.len.ensures) in
    let free : locked (history_of c.args.s.now) c.args.actor rows ≡ None = ap (locked (history_of c.args.s.now) c.args.actor) (sym c.as_slice.ensures) ∙ sym c.locked.ensures ∙ none_if_not c.locked.result c.in_default.not-Some in
    let p : IsPlanned c.args.s.now c.args.actor (Update c.args.sets.now c.args.pred.now) c.in-Ok.changes
    = update_planned c.args.s.now c.args.actor c.args.sets.now c.args.pred.now rows c.in-Ok.changes c.requires.early c.requires.suits are le free
    (subst (λ (t : Table). Updates c.args.sets.now t (Ok c.in-Ok.changes)) c.as_slice-2.ensures
    (subst (λ (r : Result (List Change) Refusal). Updates c.args.sets.now c.as_slice-2.result.now r) c.in-Ok.is c.in_ok-changes.ensures)) in
    planned_may c.args.s.now c.args.actor (Update c.args.sets.now c.args.pred.now) c.in-Ok.changes c.requires.good c.requires.actor.0 c.requires.actor.1 p

pub returns-in-Ok-clause-says : goal.returns-in-Ok-clause-says
returns-in-Ok-clause-says c =
    let rows : Table = c.in_ok-rows.rows in
    let are : rows ≡ seen_matching c.args.s.now c.args.actor c.args.pred.now = c.in_ok-rows.ensures in
    let le : length rows ≤ most_rows = omega (arith, c.if-len-gt-MOST_ROWS.false, c.len.ensures) in
    let free : locked (history_of c.args.s.now) c.args.actor rows ≡ None = ap (locked (history_of c.args.s.now) c.args.actor) (sym c.as_slice.ensures) ∙ sym c.locked.ensures ∙ none_if_not c.locked.result c.in_default.not-Some in
    let p : IsPlanned c.args.s.now c.args.actor (Update c.args.sets.now c.args.pred.now) c.in-Ok.changes
    = update_planned c.args.s.now c.args.actor c.args.sets.now c.args.pred.now rows c.in-Ok.changes c.requires.early c.requires.suits are le free
    (subst (λ (t : Table). Updates c.args.sets.now t (Ok c.in-Ok.changes)) c.as_slice-2.ensures
    (subst (λ (r : Result (List Change) Refusal). Updates c.args.sets.now c.as_slice-2.result.now r) c.in-Ok.is c.in_ok-changes.ensures)) in
    IfOk-weaker c.write_changes.result _ _
    (λ reply carries. planned_says c.args.s.now c.write_changes.new.s c.args.actor (Update c.args.sets.now c.args.pred.now) c.in-Ok.changes reply c.requires.good p carries)
    c.write_changes.ensures.carries

pub returns-clause-says : goal.returns-clause-says
returns-clause-says c =
    let rows : Table = c.in_ok-rows.rows in
    let are : rows ≡ seen_matching c.args.s.now c.args.actor c.args.pred.now = c.in_ok-rows.ensures in
    let le : length rows ≤ most_rows = omega (arith, c.if-len-gt-MOST_ROWS.false, c.len.ensures) in
    let free : locked (history_of c.args.s.now) c.args.actor rows ≡ None = ap (locked (history_of c.args.s.now) c.args.actor) (sym c.as_slice.ensures) ∙ sym c.locked.ensures ∙ none_if_not c.locked.result c.in_default.not-Some in
    update_out c.args.s.now c.args.actor c.args.sets.now c.args.pred.now rows c.in-Err.refusal c.requires.good c.requires.early are le free
    (subst (λ (t : Table). Updates c.args.sets.now t (Err c.in-Err.refusal)) c.as_slice-2.ensures
    (subst (λ (r : Result (List Change) Refusal). Updates c.args.sets.now c.as_slice-2.result.now r) c.in-Err.is c.in_ok-changes.ensures))
