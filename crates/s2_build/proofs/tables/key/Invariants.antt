use Rattle.std.proofs.Common.{◌≡◌, [], length}
use Rattle.s2_build.specs.Tables.{key_on}
use Rattle.s2_build.proofs.tables.key.Given as goal

abbrev pub invariant-loop-left : goal.invariant-loop-left
invariant-loop-left l = key_on l.cols l.list l.left ≡ key_on l.cols [] l.names

abbrev pub decreases-loop-left : goal.decreases-loop-left
decreases-loop-left l = length l.left
