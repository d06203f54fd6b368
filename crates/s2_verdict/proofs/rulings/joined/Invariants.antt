use Rattle.std.proofs.Common.{◌≡◌, ◌++◌}
use Rattle.s2_verdict.proofs.rulings.joined.Given as goal

abbrev pub invariant-loop-entry : goal.invariant-loop-entry
invariant-loop-entry l = l.entries ≡ l.fn.first ++ l.yielded
