use Rattle.std.proofs.Common.{◌≡◌, length}
use Rattle.std.specs.Vec.Iter.{into_iter_items}
use Rattle.s2_build.specs.Each.{each, with_front}
use Rattle.s2_build.specs.Statements.{row_of}
use Rattle.s2_build.proofs.statements.rows.Given as goal

abbrev pub invariant-loop-tuple : goal.invariant-loop-tuple
invariant-loop-tuple l = with_front l.rows (each row_of (into_iter_items l.left)) ≡ each row_of l.fn.tuples

abbrev pub decreases-loop-tuple : goal.decreases-loop-tuple
decreases-loop-tuple l = length (into_iter_items l.left)
