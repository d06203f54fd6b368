use Rattle.std.proofs.Common.{◌≡◌, ◌+◌, ◌++◌, length}
use Rattle.std.specs.Vec.Iter.{into_iter_items, into_iter_len}
use Rattle.s2_model.specs.Verdict.{puts_from}
use Rattle.s2_txn.proofs.planning.puts.Given as goal

abbrev pub invariant-loop-row : goal.invariant-loop-row
invariant-loop-row l = record {
  made : l.changes.items ++ puts_from l.number (into_iter_items l.left) ≡ puts_from l.first l.fn.rows;
  numbers : l.number + length (into_iter_items l.left) ≡ l.first + length l.fn.rows;
  count : into_iter_len l.left ≡ length (into_iter_items l.left);
}

abbrev pub decreases-loop-row : goal.decreases-loop-row
decreases-loop-row l = length (into_iter_items l.left)
