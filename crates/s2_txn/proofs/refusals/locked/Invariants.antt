use Rattle.std.proofs.Common.{◌≡◌, length}
use Rattle.s2_model.specs.Verdict.{locked}
use Rattle.s2_state.specs.States.{history_of}
use Rattle.s2_txn.proofs.refusals.locked.Given as goal

abbrev pub invariant-loop-left : goal.invariant-loop-left
invariant-loop-left l = locked (history_of l.s) l.actor l.left ≡ locked (history_of l.s) l.actor l.rows

abbrev pub decreases-loop-left : goal.decreases-loop-left
decreases-loop-left l = length l.left
