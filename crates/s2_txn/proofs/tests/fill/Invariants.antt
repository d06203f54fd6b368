use Rattle.s2_state.specs.Good.{Good}
use Rattle.s2_txn.proofs.tests.fill.Given as goal

abbrev pub invariant-loop-i : goal.invariant-loop-i
invariant-loop-i l = Good l.s
