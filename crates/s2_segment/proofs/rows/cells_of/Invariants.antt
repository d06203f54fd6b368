use Rattle.std.proofs.Common.{◌≡◌, take}
use Rattle.s2_segment.specs.Cells.{bodies}
use Rattle.s2_segment.proofs.rows.cells_of.Given as goal

abbrev pub invariant-loop-column : goal.invariant-loop-column
invariant-loop-column l = bodies l.cells.items ≡ take l.column-index l.columns
