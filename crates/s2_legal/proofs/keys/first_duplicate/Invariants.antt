use Rattle.std.proofs.Common.{◌≡◌, suc, drop}
use Rattle.s2_model.specs.Table.{apply}
use Rattle.s2_model.specs.Verdict.{first_some, first_from, duplicate_at, duplicate}
use Rattle.s2_legal.specs.World.{view_in}
use Rattle.s2_legal.proofs.keys.first_duplicate.Given as goal

abbrev pub invariant-loop-j : goal.invariant-loop-j
invariant-loop-j l =
    first_from (suc l.j) (λ i key. first_some (duplicate_at (apply (view_in l.world.rows.entries l.world.writes.items l.k) l.after) i key) l.after) (drop l.j l.keys)
    ≡ duplicate (apply (view_in l.world.rows.entries l.world.writes.items l.k) l.after) l.keys l.after
