use Rattle.s2_model.proofs.Facts.{horizons_are_pinned}
use Rattle.s2_model.proofs.laws.horizons_are_pinned.Goals as goal

pub returns : goal.returns
returns c = horizons_are_pinned
