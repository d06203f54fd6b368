use Rattle.std.proofs.Common.{◌∙◌, suc}
use Rattle.std.proofs.lemmas.Result.{IfOk-weaker}
use Rattle.s2_model.specs.History.{view}
use Rattle.s2_state.specs.States.{history_of}
use Rattle.s2_state.proofs.Shown.{view_rises}
use Rattle.s2_txn.specs.Duplicates.{unique_key}
use Rattle.s2_txn.proofs.SharedValues.{sorted_above, first_shared}
use Rattle.s2_txn.proofs.duplicates.duplicate_of_key.Goals as goal

pub returns : goal.returns
returns c =
    let s = c.args.s.now in
    let rows = view (history_of s) c.args.actor in
    IfOk-weaker c.first_refusal.result _ _
    (λ r e. e ∙ first_shared rows c.args.changes.now (suc c.args.j) (unique_key s.schema c.args.j) (sorted_above 0 rows (view_rises s c.requires.good c.args.actor)) c.requires.rising)
    c.first_refusal.ensures
