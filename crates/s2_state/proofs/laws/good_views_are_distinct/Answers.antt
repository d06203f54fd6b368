use Rattle.s2_state.proofs.Shown.{distinct_views}
use Rattle.s2_state.proofs.laws.good_views_are_distinct.Goals as goal

pub returns : goal.returns
returns c = distinct_views
