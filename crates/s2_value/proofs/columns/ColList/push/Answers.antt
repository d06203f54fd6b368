use Rattle.std.proofs.Common.{◌∙◌, ap}
use Rattle.std.specs.Result.{is_ok}
use Rattle.s2_value.specs.Columns.{has_place}
use Rattle.s2_value.proofs.Distinct.{are_distinct-pushed}
use Rattle.s2_value.proofs.columns.ColList.push.Goals as goal

pub invariant_of-self : goal.invariant_of-self
invariant_of-self c =
    rw c.push.ensures.items (are_distinct-pushed (is_ok c.push.result) c.self.inside.places.items c.args.place c.self.invariant (ap (has_place c.args.place) c.self.view_is ∙ c.requires))
