use Rattle.std.proofs.Common.{rules}
use Rattle.std.proofs.lemmas.Map.Made.{map_same_pairs}
use Rattle.s2_uniquelock.specs.Holds.{without_actor}
use Rattle.s2_uniquelock.proofs.Swept.{cleared_row}
use Rattle.s2_uniquelock.proofs.hold.clear_rows.Goals as goal

pub returns-clause-holds : goal.returns-clause-holds
returns-clause-holds c n =
    let e = map_same_pairs _ (without_actor c.args.actor) _ (λ k v b w f' t. search rules) _ _ c.retain.ensures.filtered in
    cleared_row c.args.actor _ _ e n
