use Rattle.std.proofs.Common.{◌≡◌, take}
use Rattle.std.specs.Prelude.{map}
use Rattle.s2_model.specs.Answer.{cell_of}
use Rattle.s2_answer.proofs.answers.all_cells.Given as goal

abbrev pub invariant-loop-value : goal.invariant-loop-value
invariant-loop-value l = l.cells.items ≡ map cell_of (take l.value-index l.row)
