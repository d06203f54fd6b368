use Rattle.std.proofs.Common.{ℕ, rules}
use Rattle.std.proofs.lemmas.Fn.{filter_same}
use Rattle.s2_model.specs.Table.{RowOf}
use Rattle.s2_model.specs.Rows.{matches}
use Rattle.s2_txn.proofs.planning.keep_matching.Goals as goal

pub returns : goal.returns
returns c = filter_same _ (λ (p : ℕ × RowOf). matches c.args.pred.now p.1) _ (λ x b f k. search rules) _ _ c.retain.ensures.filtered
