use Rattle.std.proofs.Common.{◌∙◌, ap, [], unwrap_or, slice_index_or, Option, List}
use Rattle.s2_uniquelock.specs.declared.hold.Hold.{Hold}
use Rattle.s2_uniquelock.specs.Holds.{holder_in, nobody}
use Rattle.s2_uniquelock.specs.Locks.{value_keeper}
use Rattle.s2_uniquelock.proofs.Swept.{same_rows, same_values}
use Rattle.s2_uniquelock.proofs.table.LockTable.spare.Goals as goal

pub invariant_of-self-2 : goal.invariant_of-self-2
invariant_of-self-2 c = record {
  rows = same_rows _ _ _ c.reserve.ensures.entries.2 c.self.invariant.rows;
  values = same_values _ _ _ c.reserve-2.ensures.entries.2 c.self.invariant.values;
}

pub returns-clause-values : goal.returns-clause-values
unfolding value_keeper
returns-clause-values c j key =
    ap (λ (o : Option (List Hold)). holder_in c.self.inside.terms (slice_index_or (unwrap_or o []) j nobody)) (c.reserve-2.ensures.entries.2 key)
    ∙ ap (λ L. value_keeper L j key) c.self.view_is ∙ c.sweep.ensures.values j key
