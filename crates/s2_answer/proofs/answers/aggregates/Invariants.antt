use Rattle.std.proofs.Common.{◌≡◌, take}
use Rattle.std.specs.Prelude.{map}
use Rattle.s2_model.specs.Answer.{aggregate}
use Rattle.s2_answer.specs.Found.{seen}
use Rattle.s2_answer.proofs.answers.aggregates.Given as goal

abbrev pub invariant-loop-agg : goal.invariant-loop-agg
invariant-loop-agg l = l.cells.items ≡ map (aggregate (seen l.found)) (take l.agg-index l.aggs)
