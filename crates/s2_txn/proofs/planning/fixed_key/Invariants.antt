use Rattle.std.proofs.Common.{take}
use Rattle.s2_model.specs.Predicates.{predicate_of}
use Rattle.s2_txn.specs.Planning.{FixesColumns}
use Rattle.s2_txn.proofs.planning.fixed_key.Given as goal

abbrev pub invariant-loop-column : goal.invariant-loop-column
invariant-loop-column l = FixesColumns (predicate_of l.pred) (take l.column-index l.columns) l.key.items
