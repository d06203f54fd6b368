use Rattle.std.proofs.Common.{◌≡◌, take}
use Rattle.s2_model.specs.Files.{rows_of_file}
use Rattle.s2_segment.proofs.writing.bare_rows.Given as goal

abbrev pub invariant-loop-row : goal.invariant-loop-row
invariant-loop-row l = l.bare.items ≡ rows_of_file (take l.row-index l.rows)
