use Rattle.std.proofs.Common.{◌≡◌, take}
use Rattle.std.specs.Prelude.{fold}
use Rattle.s2_model.specs.Rows.{value_at}
use Rattle.s2_model.specs.Answer.{greater, column}
use Rattle.s2_answer.specs.Found.{seen}
use Rattle.s2_answer.proofs.answers.most.Given as goal

abbrev pub invariant-loop-row : goal.invariant-loop-row
invariant-loop-row l = value_at l.best.1 l.place ≡ fold greater (value_at l.fn.first.1 l.place) (column l.place (seen (take l.row-index l.rest)))
