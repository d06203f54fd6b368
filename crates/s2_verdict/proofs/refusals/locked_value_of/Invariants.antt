use Rattle.std.proofs.Common.{◌≡◌, length}
use Rattle.s2_model.specs.Verdict.{first_some}
use Rattle.s2_verdict.specs.Holders.{locked_value_in_at}
use Rattle.s2_verdict.proofs.refusals.locked_value_of.Given as goal

abbrev pub invariant-loop-left : goal.invariant-loop-left
invariant-loop-left l = first_some (locked_value_in_at l.rows l.others l.key l.places) l.left ≡ first_some (locked_value_in_at l.rows l.others l.key l.places) l.changes

abbrev pub decreases-loop-left : goal.decreases-loop-left
decreases-loop-left l = length l.left
