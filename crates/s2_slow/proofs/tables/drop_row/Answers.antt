use Rattle.std.proofs.Common.{not, nat_eq, rules}
use Rattle.std.proofs.lemmas.Fn.{filter_same}
use Rattle.s2_slow.proofs.tables.drop_row.Goals as goal

pub returns : goal.returns
returns c = filter_same _ (λ p. not (nat_eq p.0 c.args.number)) _ (λ x b f k. search rules) _ _ c.retain.ensures.filtered
