use Rattle.std.proofs.Common.{◌≡◌, ◌+◌, ◌*◌, ◌^◌, take, pos, ◌+ℤ◌, neg_ℤ, ◌≤ℤ◌}
use Rattle.std.specs.Prelude.{fold}
use Rattle.s2_model.specs.Rows.{number_in}
use Rattle.s2_model.specs.Answer.{column}
use Rattle.s2_answer.specs.Found.{seen}
use Rattle.s2_answer.proofs.answers.total.Given as goal

abbrev pub invariant-loop-row : goal.invariant-loop-row
invariant-loop-row l = record {
  sum : l.sum ≡ fold (λ z v. z +ℤ number_in v) l.fn.first (column l.place (seen (take l.row-index l.rest)));
  low : neg_ℤ (pos (2 ^ 63 * (l.row-index + 1))) ≤ℤ l.sum;
  high : (l.sum +ℤ pos (l.row-index + 1)) ≤ℤ pos (2 ^ 63 * (l.row-index + 1));
}
