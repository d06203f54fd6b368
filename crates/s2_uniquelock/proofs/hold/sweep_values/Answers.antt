use Rattle.std.proofs.Common.{rules}
use Rattle.std.specs.List.{list_any}
use Rattle.std.proofs.lemmas.Map.Made.{filter_same_pairs}
use Rattle.s2_uniquelock.specs.Holds.{is_present}
use Rattle.s2_uniquelock.proofs.Swept.{swept_value, holder_from_Swept, known_from_Swept}
use Rattle.s2_uniquelock.proofs.hold.sweep_values.Goals as goal

pub returns-clause-holders : goal.returns-clause-holders
returns-clause-holders c j q =
    let e = filter_same_pairs _ (λ p. list_any (is_present c.args.terms.now) p.1) _ (λ k v b w f' t. search rules) _ _ c.retain.ensures.filtered in
    holder_from_Swept c.args.terms.now _ _ (swept_value c.args.terms.now _ _ c.retain.ensures.was_unique e j q)

pub returns-clause-known : goal.returns-clause-known
returns-clause-known c j q =
    let e = filter_same_pairs _ (λ p. list_any (is_present c.args.terms.now) p.1) _ (λ k v b w f' t. search rules) _ _ c.retain.ensures.filtered in
    known_from_Swept c.args.terms.now _ _ (swept_value c.args.terms.now _ _ c.retain.ensures.was_unique e j q) (c.requires j q)
