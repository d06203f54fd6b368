use Rattle.std.proofs.Common.{◌≡◌, length}
use Rattle.std.specs.Prelude.{not, ◌&&◌, ◌==◌}
use Rattle.std.specs.List.{list_any}
use Rattle.s2_model.specs.Held.{some_has_key}
use Rattle.s2_model.specs.Table.{row_at, apply}
use Rattle.s2_legal.specs.World.{view_in}
use Rattle.s2_legal.proofs.keys.is_some_other.Given as goal

abbrev pub invariant-loop-left : goal.invariant-loop-left
invariant-loop-left l =
    list_any (λ m. not (m == l.number) && some_has_key l.places l.value (row_at (apply (view_in l.world.rows.entries l.world.writes.items l.k) l.changes) m)) l.left
    ≡ list_any (λ m. not (m == l.number) && some_has_key l.places l.value (row_at (apply (view_in l.world.rows.entries l.world.writes.items l.k) l.changes) m)) l.others

abbrev pub decreases-loop-left : goal.decreases-loop-left
decreases-loop-left l = length l.left
