use Rattle.std.proofs.Common.{◌∙◌, ◌||◌, sym, ap}
use Rattle.std.proofs.lemmas.Bool.{or_left}
use Rattle.std.proofs.lemmas.Result.{IfOk-weaker}
use Rattle.s2_model.specs.History.{view}
use Rattle.s2_state.specs.States.{history_of}
use Rattle.s2_txn.specs.Duplicates.{unique_key, is_kept_value}
use Rattle.s2_txn.proofs.duplicates.is_shared.Goals as goal

pub returns-then-contains : goal.returns-then-contains
returns-then-contains c = sym (or_left _ _ (sym (c.if-contains.ensures ∙ c.requires.puts.twice c.args.key.now)))

pub returns : goal.returns
returns c =
    let s = c.args.s.now in
    let kept = is_kept_value (view (history_of s) c.args.actor) (unique_key s.schema c.args.j) c.args.changes.now c.args.key.now in
    IfOk-weaker c.is_kept_value.result _ _ (λ r e. e ∙ ap (λ b. b || kept) (c.if-contains.ensures ∙ c.requires.puts.twice c.args.key.now)) c.is_kept_value.ensures
