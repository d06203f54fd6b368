use Rattle.std.proofs.Common.{sym, ap, ◌∙◌, arith}
use Rattle.s2_model.specs.Verdict.{first_some, locked_value_at}
use Rattle.s2_state.specs.States.{history_of}
use Rattle.s2_txn.proofs.KeyOrder.{key_refuses, key_passes, none_if_not}
use Rattle.s2_txn.proofs.refusals.locked_value.Goals as goal

pub returns-in-Some : goal.returns-in-Some
returns-in-Some c =
    sym (key_refuses (λ i key. first_some (locked_value_at (history_of c.args.s.now) c.args.actor i key) c.args.changes.now) c.args.s.now.schema c.loop-j.j c.in-Some.refusal
    (omega (arith, c.loop-j-test.true, c.len-j-end.ensures)) (sym c.in_ok-refusal.ensures ∙ c.in-Some.is))
    ∙ c.loop-j.invariant

pub loop-j-preserved : goal.loop-j-preserved
loop-j-preserved c =
    key_passes (λ i key. first_some (locked_value_at (history_of c.args.s.now) c.args.actor i key) c.args.changes.now) c.args.s.now.schema c.loop-j.j
    (omega (arith, c.loop-j-test.true, c.len-j-end.ensures)) (sym c.in_ok-refusal.ensures ∙ none_if_not c.in_ok-refusal.field-0 c.in_default.not-Some)
    ∙ c.loop-j.invariant
