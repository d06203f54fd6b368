use Rattle.std.proofs.Common.{◌≡◌, length}
use Rattle.s2_judge.specs.Kinds.{is_number_column}
use Rattle.s2_judge.proofs.types.is_number_column.Given as goal

abbrev pub invariant-loop-left : goal.invariant-loop-left
invariant-loop-left l = is_number_column l.left l.name ≡ is_number_column l.columns l.name

abbrev pub decreases-loop-left : goal.decreases-loop-left
decreases-loop-left l = length l.left
