use Rattle.std.proofs.Common.{◌≡◌, length}
use Rattle.s2_judge.specs.Kinds.{is_tuple_of}
use Rattle.s2_judge.proofs.types.is_tuple_of.Given as goal

abbrev pub invariant-loop-left : goal.invariant-loop-left
invariant-loop-left l = is_tuple_of l.left l.xs ≡ is_tuple_of l.columns l.literals

abbrev pub decreases-loop-left : goal.decreases-loop-left
decreases-loop-left l = length l.left
