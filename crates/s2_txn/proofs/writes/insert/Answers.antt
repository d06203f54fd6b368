use Rattle.std.proofs.Common.{◌≡◌, ◌≤◌, ℕ, List, length, ap, ◌∙◌, arith}
use Rattle.std.proofs.lemmas.Result.{IfOk-weaker}
use Rattle.s2_model.specs.declared.entries.Change.{Change}
use Rattle.s2_model.specs.declared.statements.Stmt.TheVariants.{Insert}
use Rattle.s2_model.specs.History.{next}
use Rattle.s2_model.specs.Verdict.{puts_from, most_rows}
use Rattle.s2_model.proofs.Inserts.{length-puts_from}
use Rattle.s2_state.specs.States.{history_of}
use Rattle.s2_txn.proofs.Settled.{IsPlanned, planned_rising, planned_fits, planned_may, planned_says}
use Rattle.s2_txn.proofs.Plans.{insert_many, insert_planned}
use Rattle.s2_txn.proofs.writes.insert.Goals as goal

pub returns-then-len-gt-MOST_ROWS-clause-says : goal.returns-then-len-gt-MOST_ROWS-clause-says
returns-then-len-gt-MOST_ROWS-clause-says c =
    insert_many c.args.s.now c.args.actor c.args.rows c.requires.good c.requires.early (omega (arith, c.if-len-gt-MOST_ROWS.true, c.len.ensures))

pub write_changes-requires-clause-few : goal.write_changes-requires-clause-few
write_changes-requires-clause-few c =
    omega (arith, c.if-len-gt-MOST_ROWS.false, c.len.ensures, ap length c.in_ok-changes.ensures, length-puts_from c.next_row.result c.args.rows)

pub write_changes-requires-clause-rising : goal.write_changes-requires-clause-rising
write_changes-requires-clause-rising c =
    let xs = c.args.rows in
    let le : length xs ≤ most_rows = omega (arith, c.if-len-gt-MOST_ROWS.false, c.len.ensures) in
    let p : IsPlanned c.args.s.now c.args.actor (Insert xs) c.in_ok-changes.changes
    = insert_planned c.args.s.now c.args.actor xs c.in_ok-changes.changes c.requires.early c.requires.suits le (c.in_ok-changes.ensures ∙ ap (λ n. puts_from n xs) c.next_row.ensures) in
    planned_rising c.args.s.now c.args.actor (Insert xs) c.in_ok-changes.changes c.requires.good p

pub write_changes-requires-clause-fits : goal.write_changes-requires-clause-fits
write_changes-requires-clause-fits c =
    let xs = c.args.rows in
    let le : length xs ≤ most_rows = omega (arith, c.if-len-gt-MOST_ROWS.false, c.len.ensures) in
    let p : IsPlanned c.args.s.now c.args.actor (Insert xs) c.in_ok-changes.changes
    = insert_planned c.args.s.now c.args.actor xs c.in_ok-changes.changes c.requires.early c.requires.suits le (c.in_ok-changes.ensures ∙ ap (λ n. puts_from n xs) c.next_row.ensures) in
    planned_fits c.args.s.now c.args.actor (Insert xs) c.in_ok-changes.changes c.requires.good p

pub write_changes-requires-clause-may : goal.write_changes-requires-clause-may
write_changes-requires-clause-may c =
    let xs = c.args.rows in
    let le : length xs ≤ most_rows = omega (arith, c.if-len-gt-MOST_ROWS.false, c.len.ensures) in
    let p : IsPlanned c.args.s.now c.args.actor (Insert xs) c.in_ok-changes.changes
    = insert_planned c.args.s.now c.args.actor xs c.in_ok-changes.changes c.requires.early c.requires.suits le (c.in_ok-changes.ensures ∙ ap (λ n. puts_from n xs) c.next_row.ensures) in
    planned_may c.args.s.now c.args.actor (Insert xs) c.in_ok-changes.changes c.requires.good c.requires.actor.0 c.requires.actor.1 p

pub returns-clause-says : goal.returns-clause-says
returns-clause-says c =
    let xs = c.args.rows in
    let le : length xs ≤ most_rows = omega (arith, c.if-len-gt-MOST_ROWS.false, c.len.ensures) in
    let p : IsPlanned c.args.s.now c.args.actor (Insert xs) c.in_ok-changes.changes
    = insert_planned c.args.s.now c.args.actor xs c.in_ok-changes.changes c.requires.early c.requires.suits le (c.in_ok-changes.ensures ∙ ap (λ n. puts_from n xs) c.next_row.ensures) in
    IfOk-weaker c.write_changes.result _ _
    (λ reply carries. planned_says c.args.s.now c.write_changes.new.s c.args.actor (Insert xs) c.in_ok-changes.changes reply c.requires.good p carries)
    c.write_changes.ensures.carries
