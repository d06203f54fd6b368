use Rattle.std.proofs.Common.{arith, ◌∙◌}
use Rattle.std.proofs.lemmas.List.{length-map}
use Rattle.s2_answer.specs.Found.{seen}
use Rattle.s2_answer.proofs.FoundLemmas.{front_enough}
use Rattle.s2_answer.proofs.found.first_matching.Goals as goal

pub returns-then-len-most : goal.returns-then-len-most
returns-then-len-most c =
    let found = c.loop-row.found in
    front_enough c.args.pred.now c.args.most c.loop-row.row-index c.args.rows.now (seen found.items) c.loop-row.invariant.seen
    (length-map found.items (λ p. p.now) ∙ (omega (arith, found.ok)))
