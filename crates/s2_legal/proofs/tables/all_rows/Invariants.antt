use Rattle.std.proofs.Common.{◌≡◌, ◌++◌}
use Rattle.s2_legal.proofs.tables.all_rows.Given as goal

abbrev pub invariant-loop-number : goal.invariant-loop-number
invariant-loop-number l = l.all.items ++ l.number-iterator ≡ l.rows.entries
