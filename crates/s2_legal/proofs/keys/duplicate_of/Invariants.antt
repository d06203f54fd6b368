use Rattle.std.proofs.Common.{◌≡◌, suc, length}
use Rattle.s2_model.specs.Table.{apply}
use Rattle.s2_model.specs.Verdict.{first_some, duplicate_at}
use Rattle.s2_legal.specs.Keys.{columns_of}
use Rattle.s2_legal.specs.World.{view_in}
use Rattle.s2_legal.proofs.keys.duplicate_of.Given as goal

abbrev pub invariant-loop-left : goal.invariant-loop-left
invariant-loop-left l =
    first_some (duplicate_at (apply (view_in l.world.rows.entries l.world.writes.items l.k) l.after) (suc l.j) (columns_of l.keys l.j)) l.left
    ≡ first_some (duplicate_at (apply (view_in l.world.rows.entries l.world.writes.items l.k) l.after) (suc l.j) (columns_of l.keys l.j)) l.after

abbrev pub decreases-loop-left : goal.decreases-loop-left
decreases-loop-left l = length l.left
