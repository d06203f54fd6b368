use Rattle.std.proofs.Common.{◌≡◌, ◌++◌, replicate}
use Rattle.s2_pred.specs.declared.types.Join.TheVariants as join
use Rattle.s2_pred.proofs.yard.add_nots.Given as goal

abbrev pub invariant-loop-turn : goal.invariant-loop-turn
invariant-loop-turn l = l.joins ≡ l.fn.joins ++ replicate l._turn join.Not
