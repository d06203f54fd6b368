use Rattle.s2_segindex.proofs.Grouped.{places_are}
use Rattle.s2_segindex.proofs.laws.groups_have_all_places.Goals as goal

pub returns : goal.returns
returns c = places_are
