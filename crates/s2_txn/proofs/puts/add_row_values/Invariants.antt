use Rattle.std.proofs.Common.{◌≡◌, ◌++◌, drop}
use Rattle.s2_txn.specs.Items.{items_from}
use Rattle.s2_txn.proofs.puts.add_row_values.Given as goal

abbrev pub invariant-loop-j : goal.invariant-loop-j
invariant-loop-j l = l.values.items ++ items_from l.j (drop l.j l.schema.uniques) l.row ≡ l.initial.values.items ++ items_from 0 l.schema.uniques l.row
