use Rattle.std.proofs.Common.{◌≡◌, length}
use Rattle.s2_build.specs.Each.{with_front}
use Rattle.s2_build.specs.Tables.{keys_for}
use Rattle.s2_build.proofs.tables.keys.Given as goal

abbrev pub invariant-loop-left : goal.invariant-loop-left
invariant-loop-left l = with_front l.list (keys_for l.purpose l.cols l.left) ≡ keys_for l.purpose l.cols l.keys

abbrev pub decreases-loop-left : goal.decreases-loop-left
decreases-loop-left l = length l.left
