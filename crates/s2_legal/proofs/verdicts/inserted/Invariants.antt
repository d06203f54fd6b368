use Rattle.std.proofs.Common.{◌≡◌, ◌++◌, suc, length}
use Rattle.s2_model.specs.Verdict.{puts_from}
use Rattle.s2_legal.proofs.verdicts.inserted.Given as goal

abbrev pub invariant-loop-left : goal.invariant-loop-left
invariant-loop-left l = l.changes.items ++ puts_from (suc l.number) l.left ≡ puts_from (suc l.greatest) l.rows

abbrev pub decreases-loop-left : goal.decreases-loop-left
decreases-loop-left l = length l.left
