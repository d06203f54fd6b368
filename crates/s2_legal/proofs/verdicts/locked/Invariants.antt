use Rattle.std.proofs.Common.{◌≡◌, length}
use Rattle.s2_legal.specs.World.{locked_in}
use Rattle.s2_legal.proofs.verdicts.locked.Given as goal

abbrev pub invariant-loop-left : goal.invariant-loop-left
invariant-loop-left l = locked_in l.world.writes.items l.k l.left ≡ locked_in l.world.writes.items l.k l.rows

abbrev pub decreases-loop-left : goal.decreases-loop-left
decreases-loop-left l = length l.left
