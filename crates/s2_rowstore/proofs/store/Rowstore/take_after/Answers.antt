use Rattle.std.proofs.Common.{Bool, ap}
use Rattle.std.proofs.lemmas.Result.{IfOk-weaker}
use Rattle.s2_rowstore.specs.Store.{Store, can_take}
use Rattle.s2_rowstore.proofs.Rising.{rising_from}
use Rattle.s2_rowstore.proofs.Stands.{first_of_present}
use Rattle.s2_rowstore.proofs.store.Rowstore.take_after.Goals as goal

pub returns : goal.returns
unfolding can_take
returns c =
    let s = c.self.inside in
    IfOk-weaker c.first_free.result _ _
    (λ found e. first_of_present s.lines.entries s.present c.args.from c.args.r c.args.most found.items (can_take c.args.self.now c.args.from c.args.r)
    (λ n. let F : Store → Bool = λ S. can_take S c.args.from c.args.r n in ap F c.self.view_is) c.self.invariant.present (rising_from _ c.first_free.ensures.ordered) e)
    c.first_free.ensures.rows
