use Rattle.std.proofs.Common.{◌≡◌, take}
use Rattle.s2_segment.proofs.copies.copy_columns.Given as goal

abbrev pub invariant-loop-column : goal.invariant-loop-column
invariant-loop-column l = l.same.items ≡ take l.column-index l.columns
