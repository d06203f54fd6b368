use Rattle.std.proofs.Common.{◌≡◌, take}
use Rattle.s2_model.specs.Files.{rows_of_file}
use Rattle.s2_segment.specs.Rows.{column}
use Rattle.s2_segment.proofs.writing.column_of.Given as goal

abbrev pub invariant-loop-row : goal.invariant-loop-row
invariant-loop-row l = l.vals.items ≡ column l.c (rows_of_file (take l.row-index l.rows))
