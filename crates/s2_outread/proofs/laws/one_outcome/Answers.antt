use Rattle.s2_outread.proofs.OutputLaws.{same_outcome}
use Rattle.s2_outread.proofs.laws.one_outcome.Goals as goal

pub returns : goal.returns
returns c = λ script other bytes a b ta tb. same_outcome script other bytes a b ta tb
