use Rattle.std.proofs.Common.{◌≡◌, ◌++◌, length}
use Rattle.s2_model.specs.Placement.{copied}
use Rattle.s2_slow.proofs.versions.begin_copies.Given as goal

abbrev pub invariant-loop-left : goal.invariant-loop-left
invariant-loop-left l = l.versions.items ++ copied l.t l.rows l.left ≡ l.fn.versions.items ++ copied l.t l.rows l.ids

abbrev pub decreases-loop-left : goal.decreases-loop-left
decreases-loop-left l = length l.left
