use Rattle.std.proofs.Common.{◌≡◌, length}
use Rattle.s2_build.specs.Each.{each, with_front}
use Rattle.s2_build.proofs.each.each.Given as goal

abbrev pub invariant-loop-left : goal.invariant-loop-left
invariant-loop-left g l = with_front l.list (each (g.P.Part.meaning l.cols) l.left) ≡ each (g.P.Part.meaning l.cols) l.items

abbrev pub decreases-loop-left : goal.decreases-loop-left
decreases-loop-left g l = length l.left
