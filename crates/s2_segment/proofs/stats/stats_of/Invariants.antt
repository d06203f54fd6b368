use Rattle.std.proofs.Common.{◌≡◌, map, take}
use Rattle.s2_colenc.specs.Column.{values_of}
use Rattle.s2_segment.specs.Stats.{ends_of}
use Rattle.s2_segment.proofs.stats.stats_of.Given as goal

abbrev pub invariant-loop-column : goal.invariant-loop-column
invariant-loop-column l = l.stats.items ≡ map (λ column. ends_of (values_of column)) (take l.column-index l.columns)
