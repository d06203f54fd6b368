use Rattle.std.proofs.Common.{◌≡◌, take}
use Rattle.std.specs.Prelude.{map}
use Rattle.s2_model.specs.Answer.{shown}
use Rattle.s2_answer.specs.Found.{seen}
use Rattle.s2_answer.proofs.answers.shown_rows.Given as goal

abbrev pub invariant-loop-row : goal.invariant-loop-row
invariant-loop-row l = l.answered.items ≡ map (λ p. shown l.columns p.1) (seen (take l.row-index l.found))
