-- What two scripts of the same lines hold is the same.
use Rattle.s2_build.proofs.OneMeaning.{means_once}
use Rattle.s2_build.proofs.laws.one_meaning.Goals as goal

pub returns : goal.returns
returns c = means_once
