use Rattle.std.proofs.Common.{◌≡◌, true, take}
use Rattle.s2_model.specs.Files.{rows_fit}
use Rattle.s2_segment.proofs.writing.all_fit.Given as goal

abbrev pub invariant-loop-row : goal.invariant-loop-row
invariant-loop-row l = rows_fit l.schema (take l.row-index l.rows) ≡ true
