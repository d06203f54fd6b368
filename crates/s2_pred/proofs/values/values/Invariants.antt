use Rattle.std.proofs.Common.{◌≡◌, ◌++◌, length}
use Rattle.std.specs.Option.{option_map}
use Rattle.s2_pred.specs.Meaning.{values_of}
use Rattle.s2_pred.proofs.values.values.Given as goal

abbrev pub invariant-loop-left : goal.invariant-loop-left
invariant-loop-left l = option_map (λ vs. l.list ++ vs) (values_of l.left) ≡ values_of l.literals

abbrev pub decreases-loop-left : goal.decreases-loop-left
decreases-loop-left l = length l.left
