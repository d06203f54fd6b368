use Rattle.std.proofs.Common.{◌≡◌, suc, ◌+◌, Some, sym, ap, ◌∙◌, arith}
use Rattle.std.specs.Option.{option_map}
use Rattle.s2_model.specs.declared.replies.Refusal.TheVariants as refusal
use Rattle.s2_model.specs.Verdict.{other_value_holder, locked_value_at}
use Rattle.s2_state.specs.States.{history_of}
use Rattle.s2_value.specs.Schemas.{key}
use Rattle.s2_txn.specs.Refusals.{unique_at}
use Rattle.s2_txn.proofs.refusals.locked_value_at.Goals as goal

pub returns-in-Some : goal.returns-in-Some
returns-in-Some c =
    let more : c.args.j + 1 ≡ suc c.args.j = omega arith in
    ap (λ n. Some (refusal.LockedValue n c.in-Put.row c.in-Some.holder)) more
    ∙ ap (option_map (λ h. refusal.LockedValue (suc c.args.j) c.in-Put.row h))
    (c.in-Some.ensures ∙ ap (other_value_holder (history_of c.args.s.now) c.args.actor (unique_at c.args.s.now.schema c.args.j)) (c.in_ok-key.ensures ∙ ap (λ i. key c.args.s.now.schema i c.in-Put.values) c.from.ensures))
    ∙ sym (ap (locked_value_at (history_of c.args.s.now) c.args.actor (suc c.args.j) (unique_at c.args.s.now.schema c.args.j)) c.in-Put.is)
