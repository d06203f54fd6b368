use Rattle.std.proofs.Common.{◌≡◌, take}
use Rattle.s2_model.specs.History.{history}
use Rattle.s2_model.specs.Placement.{placement}
use Rattle.s2_slow.proofs.placements.placed.Given as goal

abbrev pub invariant-loop-i : goal.invariant-loop-i
invariant-loop-i l = l.placement ≡ placement (history (take l.i l.h))
