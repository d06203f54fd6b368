use Rattle.std.proofs.Common.{◌≡◌, length}
use Rattle.std.specs.Prelude.{not, ◌&&◌, ◌==◌}
use Rattle.std.specs.List.{find}
use Rattle.s2_model.specs.Table.{touches}
use Rattle.s2_legal.specs.World.{open_of, holder_in}
use Rattle.s2_legal.proofs.world.holder.Given as goal

abbrev pub invariant-loop-left : goal.invariant-loop-left
invariant-loop-left l = find (λ j. not (j == l.k) && touches (open_of l.world.writes.items j) l.number) l.left ≡ holder_in l.world.writes.items l.k l.number

abbrev pub decreases-loop-left : goal.decreases-loop-left
decreases-loop-left l = length l.left
