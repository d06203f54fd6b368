use Rattle.std.proofs.Common.{◌+ℤ◌, arith}
use Rattle.std.proofs.lemmas.Int.{ints, to_z-of_z}
use Rattle.s2_model.specs.Rows.{number_in}
use Rattle.s2_answer.proofs.FoundLemmas.{fold_column_more}
use Rattle.s2_answer.proofs.answers.total.Goals as goal

pub loop-row-preserved : goal.loop-row-preserved
loop-row-preserved c =
    let more = fold_column_more (λ z v. z +ℤ number_in v) c.args.first c.args.place c.args.rest.now c.loop-row.row-index c.row-item.result c.loop-row-test.true c.row-item.is in
    record {
      sum = grind (arith, ints, to_z-of_z, more);
      low = omega (arith, ints);
      high = omega (arith, ints);
    }
