use Rattle.std.proofs.Common.{◌≡◌, ◌<◌, ◌++◌, length}
use Rattle.s2_pred.specs.Trees.{list_words}
use Rattle.s2_pred.proofs.literals.literals.Given as goal

abbrev pub invariant-loop-rest : goal.invariant-loop-rest
invariant-loop-rest l = record { some : 0 < length l.list; read : l.fn.tokens ≡ list_words l.list ++ l.left }

abbrev pub decreases-loop-rest : goal.decreases-loop-rest
decreases-loop-rest l = length l.left
