use Rattle.s2_model.proofs.Background.{background_entries_fit}
use Rattle.s2_model.proofs.laws.background_entries_fit.Goals as goal

pub returns : goal.returns
returns c = background_entries_fit
