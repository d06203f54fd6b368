use Rattle.std.proofs.Common.{◌≡◌, ap, ◌∙◌}
use Rattle.s2_model.specs.Answer.{kept}
use Rattle.s2_model.specs.History.{view}
use Rattle.s2_rowstore.specs.Visible.{lent}
use Rattle.s2_state.specs.States.{history_of}
use Rattle.s2_state.proofs.Shown.{shown_view}
use Rattle.s2_txn.proofs.planning.matching_view.Goals as goal

pub returns : goal.returns
returns c =
    let all : lent c.in_ok-seen.seen.items ≡ view (history_of c.args.s.now) c.args.actor =
    shown_view c.args.s.now c.requires.good c.args.actor c.read_time.result (lent c.in_ok-seen.seen.items) c.read_time.ensures c.in_ok-seen.ensures.rows c.in_ok-seen.ensures.rising in
    c.from_vec.ensures ∙ c.in_ok-rows.ensures ∙ ap (λ ps. kept c.args.pred.now (lent ps)) c.as_slice.ensures.value ∙ ap (kept c.args.pred.now) all
