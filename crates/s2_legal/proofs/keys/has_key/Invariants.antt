use Rattle.std.proofs.Common.{◌≡◌, length}
use Rattle.s2_model.specs.Held.{has_key}
use Rattle.s2_legal.proofs.keys.has_key.Given as goal

abbrev pub invariant-loop-places : goal.invariant-loop-places
invariant-loop-places l = has_key l.places l.value l.row ≡ has_key l.fn.places l.fn.value l.row

abbrev pub decreases-loop-places : goal.decreases-loop-places
decreases-loop-places l = length l.places
