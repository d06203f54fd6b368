use Rattle.s2_model.proofs.Background.{faults_stay}
use Rattle.s2_model.proofs.laws.faults_stay.Goals as goal

pub returns : goal.returns
returns c = faults_stay
