use Rattle.std.proofs.Common.{◌≡◌, take, map}
use Rattle.s2_colenc.specs.Column.{values_of}
use Rattle.s2_segment.specs.Rows.{rows_of}
use Rattle.s2_segment.proofs.rows.rows_of.Given as goal

abbrev pub invariant-loop-i : goal.invariant-loop-i
invariant-loop-i l = l.rows.items ≡ take l.i (rows_of l.n (map values_of l.columns))
