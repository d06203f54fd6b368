use Rattle.std.proofs.Common.{◌≡◌, length}
use Rattle.std.specs.Prelude.{not, ◌&&◌, ◌==◌}
use Rattle.std.specs.List.{find}
use Rattle.s2_legal.specs.Keys.{columns_of}
use Rattle.s2_legal.specs.World.{holds_value_in, value_holder_in}
use Rattle.s2_legal.proofs.keys.value_holder.Given as goal

abbrev pub invariant-loop-left : goal.invariant-loop-left
invariant-loop-left l =
    find (λ j. not (j == l.k) && holds_value_in l.world.rows.entries l.world.writes.items j (columns_of l.keys l.value.0) l.value.1) l.left
    ≡ value_holder_in l.world.rows.entries l.world.writes.items l.k (columns_of l.keys l.value.0) l.value.1

abbrev pub decreases-loop-left : goal.decreases-loop-left
decreases-loop-left l = length l.left
