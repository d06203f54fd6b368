use Rattle.std.proofs.Common.{◌≡◌, take}
use Rattle.s2_model.specs.Placement.{free_ids}
use Rattle.s2_slow.proofs.segments.free_ids.Given as goal

abbrev pub invariant-loop-spot : goal.invariant-loop-spot
invariant-loop-spot l = l.ids.items ≡ free_ids (take l.spot-index l.spots)
