use Rattle.std.proofs.lemmas.Result.{IfOk-weaker}
use Rattle.s2_txn.proofs.Keyed.{kept_match}
use Rattle.s2_txn.proofs.planning.candidates.Goals as goal

pub returns-in-Some : goal.returns-in-Some
returns-in-Some c = IfOk-weaker c.matching_key.result _ _ (λ rows some. kept_match c.args.s.now c.requires.good c.args.actor c.args.pred.now rows some) c.matching_key.ensures

pub returns-in-None : goal.returns-in-None
returns-in-None c = IfOk-weaker c.matching_view.result _ _ (λ rows some. kept_match c.args.s.now c.requires.good c.args.actor c.args.pred.now rows some) c.matching_view.ensures
