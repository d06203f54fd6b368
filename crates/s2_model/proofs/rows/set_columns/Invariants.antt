use Rattle.std.proofs.Common.{◌≡◌, drop}
use Rattle.s2_model.specs.Rows.{set_columns}
use Rattle.s2_model.proofs.rows.set_columns.Given as goal

abbrev pub invariant-loop-set : goal.invariant-loop-set
invariant-loop-set l = set_columns (drop l.set-index l.sets) l.was l.now.items ≡ set_columns l.fn.sets l.fn.was l.fn.now.items
