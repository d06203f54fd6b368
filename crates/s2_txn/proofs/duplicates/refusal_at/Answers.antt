use Rattle.s2_model.specs.History.{view}
use Rattle.s2_state.specs.States.{history_of}
use Rattle.s2_txn.specs.Duplicates.{unique_key}
use Rattle.s2_txn.proofs.SharedValues.{refused_by, unrefused_by}
use Rattle.s2_txn.proofs.duplicates.refusal_at.Goals as goal

pub returns-then-shared : goal.returns-then-shared
returns-then-shared c =
    let s = c.args.s.now in
    refused_by (view (history_of s) c.args.actor) c.args.changes.now c.args.j (unique_key s.schema c.args.j) c.args.change.now c.in-Put.row c.in-Put.values c.in_ok-value.value
    c.in_ok-shared.shared c.in-Put.is c.in_ok-value.ensures c.in_ok-shared.ensures c.if-shared.true

pub returns : goal.returns
returns c =
    let s = c.args.s.now in
    unrefused_by (view (history_of s) c.args.actor) c.args.changes.now c.args.j (unique_key s.schema c.args.j) c.args.change.now c.in-Put.row c.in-Put.values c.in_ok-value.value
    c.in_ok-shared.shared c.in-Put.is c.in_ok-value.ensures c.in_ok-shared.ensures c.if-shared.false
