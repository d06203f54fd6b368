use Rattle.std.proofs.Common.{◌∙◌, ap, List, Option}
use Rattle.std.proofs.lemmas.Result.{IfOk-weaker}
use Rattle.s2_value.specs.declared.values.Value.{Value}
use Rattle.s2_rowstore.specs.Chains.{seen}
use Rattle.s2_rowstore.specs.Lines.{for_row}
use Rattle.s2_rowstore.specs.Visible.{are_rising, numbers}
use Rattle.s2_rowstore.specs.Store.{Store, chain, slot}
use Rattle.s2_rowstore.proofs.Rising.{rising_from, visible_rising, visible_at}
use Rattle.s2_rowstore.proofs.store.Rowstore.seen_rows.Goals as goal

pub returns-clause-rising : goal.returns-clause-rising
returns-clause-rising c =
    let es = c.self.inside.lines.entries in
    IfOk-weaker c.lent_rows.result _ _ (λ rows e. ap (λ rows. are_rising (numbers rows)) e ∙ visible_rising c.args.actor c.args.r es (rising_from (numbers es) c.lent_rows.ensures.ordered)) c.lent_rows.ensures.rows

pub returns-clause-rows : goal.returns-clause-rows
unfolding chain slot
returns-clause-rows c =
    let es = c.self.inside.lines.entries in
    IfOk-weaker c.lent_rows.result _ _
    (λ rows e n.
    let F : Store → Option (List Value) = λ S. seen c.args.actor c.args.r (chain S n, slot S n) in
    ap (λ rows. for_row rows n) e ∙ visible_at c.args.actor c.args.r es n (rising_from (numbers es) c.lent_rows.ensures.ordered) ∙ ap F c.self.view_is)
    c.lent_rows.ensures.rows
