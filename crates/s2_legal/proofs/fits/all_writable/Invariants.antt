use Rattle.std.proofs.Common.{◌≡◌, length}
use Rattle.std.specs.Prelude.{◌||◌, nat_lt}
use Rattle.std.specs.List.{list_all}
use Rattle.s2_model.specs.declared.entries.Change.{Change}
use Rattle.s2_model.specs.Table.{number_of}
use Rattle.s2_legal.specs.World.{is_writable_in}
use Rattle.s2_legal.proofs.fits.all_writable.Given as goal

abbrev pub invariant-loop-left : goal.invariant-loop-left
invariant-loop-left l =
    list_all (λ (c : Change). nat_lt l.world.greatest (number_of c) || is_writable_in l.world.rows.entries l.world.writes.items l.k (number_of c)) l.left
    ≡ list_all (λ (c : Change). nat_lt l.world.greatest (number_of c) || is_writable_in l.world.rows.entries l.world.writes.items l.k (number_of c)) l.changes

abbrev pub decreases-loop-left : goal.decreases-loop-left
decreases-loop-left l = length l.left
