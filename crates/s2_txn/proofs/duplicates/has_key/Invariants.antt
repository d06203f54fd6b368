use Rattle.std.proofs.Common.{◌≡◌, length}
use Rattle.s2_model.specs.Held.{has_key}
use Rattle.s2_txn.proofs.duplicates.has_key.Given as goal

abbrev pub invariant-loop-places : goal.invariant-loop-places
invariant-loop-places l = has_key l.places l.key l.row ≡ has_key l.initial.places l.initial.key l.row

abbrev pub decreases-loop-places : goal.decreases-loop-places
decreases-loop-places l = length l.places
