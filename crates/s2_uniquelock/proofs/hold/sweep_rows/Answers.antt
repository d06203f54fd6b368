use Rattle.std.proofs.Common.{rules, ◌∙◌, ap, sym, subst}
use Rattle.std.proofs.lemmas.Map.Made.{filter_same_pairs}
use Rattle.s2_uniquelock.specs.Holds.{holder_in, row_hold, is_present, IsKnown}
use Rattle.s2_uniquelock.proofs.Swept.{swept_row, swept_holder, swept_known}
use Rattle.s2_uniquelock.proofs.hold.sweep_rows.Goals as goal

pub returns-clause-holders : goal.returns-clause-holders
returns-clause-holders c n =
    let e = filter_same_pairs _ (λ p. is_present c.args.terms.now p.1) _ (λ k v b w f' t. search rules) _ _ c.retain.ensures.filtered in
    ap (holder_in c.args.terms.now) (swept_row c.args.terms.now _ _ c.retain.ensures.was_unique e n) ∙ swept_holder c.args.terms.now (row_hold c.args.rows.now.entries n)

pub returns-clause-known : goal.returns-clause-known
returns-clause-known c n =
    let e = filter_same_pairs _ (λ p. is_present c.args.terms.now p.1) _ (λ k v b w f' t. search rules) _ _ c.retain.ensures.filtered in
    subst (IsKnown c.args.terms.now) (sym (swept_row c.args.terms.now _ _ c.retain.ensures.was_unique e n)) (swept_known c.args.terms.now _ (c.requires n))
