use Rattle.std.proofs.Common.{◌≡◌}
use Rattle.std.specs.Prelude.{filter, ◌||◌}
use Rattle.std.specs.List.{list_any, range_with_len}
use Rattle.s2_model.specs.Placement.{lives}
use Rattle.s2_model.specs.Fits.{puts}
use Rattle.s2_slow.proofs.notes.store.Given as goal

abbrev pub invariant-loop-below : goal.invariant-loop-below
invariant-loop-below l = l.ids.items
    ≡ filter (λ n. lives l.versions n || list_any (λ cs. list_any (λ c. puts c n) cs) l.writes) (range_with_len 1 l.below)
