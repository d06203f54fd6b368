use Rattle.std.proofs.Common.{sym, ap, ◌∙◌, arith}
use Rattle.s2_state.specs.States.{history_of}
use Rattle.s2_txn.specs.Refusals.{value_refusal}
use Rattle.s2_txn.proofs.KeyOrder.{none_if_not}
use Rattle.s2_txn.proofs.Settled.{keys_free, some_there}
use Rattle.s2_txn.proofs.writes.write_changes.Goals as goal

pub put_changes-requires-clause-free : goal.put_changes-requires-clause-free
put_changes-requires-clause-free c =
    let none = ap (value_refusal c.args.s.now.schema (history_of c.args.s.now) c.args.actor) (sym c.as_slice.ensures) ∙ sym c.in_ok-refusal.ensures ∙ none_if_not c.in_ok-refusal.field-0 c.in_default.not-Some in
    keys_free c.args.s.now c.args.actor c.args.changes c.requires.good c.requires.unpinned c.requires.rising
    (c.requires.may none (some_there c.args.changes (omega (arith, c.if-count-gt0.true, c.len-count.ensures)))) none
