use Rattle.std.proofs.Common.{◌∙◌, Bool, is_some, ap}
use Rattle.std.proofs.lemmas.Result.{IfOk-weaker}
use Rattle.s2_rowstore.specs.Chains.{own}
use Rattle.s2_rowstore.specs.Lines.{body_at, names_row}
use Rattle.s2_rowstore.specs.Visible.{are_rising}
use Rattle.s2_rowstore.specs.Store.{Store, slot}
use Rattle.s2_rowstore.proofs.Kept.{listed_here}
use Rattle.s2_rowstore.proofs.Rising.{rising_from, filter_rising, names_exactly}
use Rattle.s2_rowstore.proofs.store.Rowstore.changed.Goals as goal

pub returns-clause-rows : goal.returns-clause-rows
unfolding slot
returns-clause-rows c =
    let s = c.self.inside in
    let ids = c.index.result.now in
    IfOk-weaker c.changed_rows.result _ _
    (λ found e n.
    let F : Store → Bool = λ S. is_some (own c.args.actor (slot S n)) in
    ap (λ ns. names_row ns n) e
    ∙ names_exactly (λ n. is_some (own c.args.actor (body_at s.lines.entries n).1)) ids.keys n (λ has. listed_here s.changed.items s.lines.entries c.args.actor n ids c.index.ensures c.requires c.self.invariant.actors c.self.invariant.listed has)
    ∙ ap F c.self.view_is)
    c.changed_rows.ensures.rows

pub returns-clause-rising : goal.returns-clause-rising
returns-clause-rising c =
    IfOk-weaker c.changed_rows.result _ _ (λ found e. ap are_rising e ∙ filter_rising _ c.index.result.now.keys (rising_from _ c.changed_rows.ensures.ordered)) c.changed_rows.ensures.rows
