use Rattle.std.proofs.Common.{◌≡◌, ◌≤◌, take, vec_len}
use Rattle.s2_model.specs.Answer.{kept}
use Rattle.s2_answer.specs.Found.{seen}
use Rattle.s2_answer.proofs.found.first_matching.Given as goal

abbrev pub invariant-loop-row : goal.invariant-loop-row
invariant-loop-row l = record {
  seen : seen l.found.items ≡ kept l.pred (take l.row-index l.rows);
  few : vec_len l.found ≤ l.most;
}
