use Rattle.std.proofs.Common.{◌≡◌, take}
use Rattle.s2_model.specs.Placement.{spot_ids}
use Rattle.s2_slow.proofs.notes.spot_ids.Given as goal

abbrev pub invariant-loop-spot : goal.invariant-loop-spot
invariant-loop-spot l = l.ids.items ≡ spot_ids (take l.spot-index l.spots)
