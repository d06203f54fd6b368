use Rattle.std.proofs.Common.{◌≡◌, ◌++◌}
use Rattle.s2_legal.proofs.index.copied.Given as goal

abbrev pub invariant-loop-id : goal.invariant-loop-id
invariant-loop-id l = l.numbers.items ++ l.id-iterator ≡ l.initial.id-iterator
