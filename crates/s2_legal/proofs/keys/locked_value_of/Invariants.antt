use Rattle.std.proofs.Common.{◌≡◌, suc, length}
use Rattle.s2_model.specs.Verdict.{first_some}
use Rattle.s2_legal.specs.Keys.{columns_of}
use Rattle.s2_legal.specs.World.{locked_value_at_in}
use Rattle.s2_legal.proofs.keys.locked_value_of.Given as goal

abbrev pub invariant-loop-left : goal.invariant-loop-left
invariant-loop-left l =
    first_some (locked_value_at_in l.world.rows.entries l.world.writes.items l.k (suc l.j) (columns_of l.keys l.j)) l.left
    ≡ first_some (locked_value_at_in l.world.rows.entries l.world.writes.items l.k (suc l.j) (columns_of l.keys l.j)) l.changes

abbrev pub decreases-loop-left : goal.decreases-loop-left
decreases-loop-left l = length l.left
