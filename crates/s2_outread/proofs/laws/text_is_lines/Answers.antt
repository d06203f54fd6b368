use Rattle.s2_outread.proofs.TextLaws.{outcome_text}
use Rattle.s2_outread.proofs.laws.text_is_lines.Goals as goal

pub returns : goal.returns
returns c = λ run. outcome_text run
