use Rattle.std.proofs.Common.{take}
use Rattle.s2_txn.specs.Duplicates.{unique_key, times_put, HasTimes}
use Rattle.s2_txn.proofs.duplicates.put_values.Given as goal

abbrev pub invariant-loop-change : goal.invariant-loop-change
invariant-loop-change l = HasTimes l.puts (times_put (unique_key l.schema l.j) (take l.change-index l.changes))
