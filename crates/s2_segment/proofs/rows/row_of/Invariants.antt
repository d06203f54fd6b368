use Rattle.std.proofs.Common.{◌≡◌, take, map}
use Rattle.s2_colenc.specs.Column.{values_of}
use Rattle.s2_segment.specs.Cells.{bodies}
use Rattle.s2_segment.specs.Rows.{row_at}
use Rattle.s2_segment.proofs.rows.row_of.Given as goal

abbrev pub invariant-loop-cell : goal.invariant-loop-cell
invariant-loop-cell l = l.row.items ≡ row_at (map values_of (bodies (take l.cell-index l.cells))) l.i
