use Rattle.std.proofs.Common.{◌≡◌, length}
use Rattle.s2_rowstore.specs.Chains.{living_since}
use Rattle.s2_rowstore.proofs.versions.living_since.Given as goal

abbrev pub invariant-loop-left : goal.invariant-loop-left
invariant-loop-left l = living_since l.left ≡ living_since l.versions

abbrev pub decreases-loop-left : goal.decreases-loop-left
decreases-loop-left l = length l.left
