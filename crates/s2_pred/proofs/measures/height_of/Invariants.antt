use Rattle.std.proofs.Common.{◌≡◌, [], drop}
use Rattle.s2_pred.specs.Measures.{heights}
use Rattle.s2_pred.proofs.measures.height_of.Given as goal

abbrev pub invariant-loop-join : goal.invariant-loop-join
invariant-loop-join l = heights (drop l.join-index l.joins) l.stack ≡ heights l.joins []
