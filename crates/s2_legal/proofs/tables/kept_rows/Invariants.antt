use Rattle.std.proofs.Common.{◌≡◌, ◌++◌}
use Rattle.s2_model.specs.Answer.{kept}
use Rattle.s2_legal.proofs.tables.kept_rows.Given as goal

abbrev pub invariant-loop-number : goal.invariant-loop-number
invariant-loop-number l = l.kept.items ++ kept l.pred l.number-iterator ≡ kept l.pred l.rows.entries
