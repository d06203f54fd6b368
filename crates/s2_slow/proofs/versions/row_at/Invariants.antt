use Rattle.std.proofs.Common.{◌≡◌, drop}
use Rattle.s2_model.specs.Table.{row_at}
use Rattle.s2_slow.proofs.versions.row_at.Given as goal

abbrev pub invariant-loop-row : goal.invariant-loop-row
invariant-loop-row l = row_at (drop l.row-index l.rows) l.number ≡ row_at l.rows l.number
