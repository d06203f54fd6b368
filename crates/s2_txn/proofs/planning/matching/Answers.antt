use Rattle.std.proofs.Common.{ap, ◌∙◌}
use Rattle.s2_model.specs.Answer.{kept}
use Rattle.s2_txn.proofs.planning.matching.Goals as goal

pub returns : goal.returns
returns c = c.from_vec.ensures ∙ c.keep_matching.ensures ∙ ap (kept c.args.pred.now) c.into_vec-rows.ensures ∙ c.in_ok-candidates.ensures.same
