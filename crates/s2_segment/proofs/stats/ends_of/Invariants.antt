use Rattle.std.proofs.Common.{◌≡◌, take}
use Rattle.s2_model.specs.Needed.{lesser, greater, best_of_values}
use Rattle.s2_colenc.specs.Column.{values_of}
use Rattle.s2_segment.proofs.stats.ends_of.Given as goal

abbrev pub invariant-loop-i : goal.invariant-loop-i
invariant-loop-i l = record {
  least : l.least ≡ best_of_values lesser (take l.i (values_of l.cells.column.now));
  greatest : l.greatest ≡ best_of_values greater (take l.i (values_of l.cells.column.now));
}
