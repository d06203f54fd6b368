use Rattle.std.proofs.Common.{◌≡◌, take}
use Rattle.s2_model.specs.Answer.{shown}
use Rattle.s2_answer.proofs.answers.shown.Given as goal

abbrev pub invariant-loop-column : goal.invariant-loop-column
invariant-loop-column l = l.cells.items ≡ shown (take l.column-index l.columns) l.row
