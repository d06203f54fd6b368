use Rattle.std.proofs.Common.{◌≡◌, suc, drop}
use Rattle.s2_model.specs.Verdict.{first_some, first_from}
use Rattle.s2_legal.specs.World.{locked_value_at_in, locked_value_in}
use Rattle.s2_legal.proofs.keys.first_locked_value.Given as goal

abbrev pub invariant-loop-j : goal.invariant-loop-j
invariant-loop-j l =
    first_from (suc l.j) (λ i key. first_some (locked_value_at_in l.world.rows.entries l.world.writes.items l.k i key) l.changes) (drop l.j l.keys)
    ≡ locked_value_in l.world.rows.entries l.world.writes.items l.k l.keys l.changes
