use Rattle.std.proofs.Common.{◌≡◌, suc, length, filter}
use Rattle.std.specs.Prelude.{nat_le}
use Rattle.s2_model.specs.declared.entries.Change.{Change}
use Rattle.s2_model.specs.Table.{number_of}
use Rattle.s2_model.specs.Fits.{put_on_from}
use Rattle.s2_legal.proofs.fits.run_on.Given as goal

abbrev pub invariant-loop-left : goal.invariant-loop-left
invariant-loop-left l =
    put_on_from (suc l.last) (filter (λ (c : Change). nat_le (suc l.greatest) (number_of c)) l.left)
    ≡ put_on_from (suc l.greatest) (filter (λ (c : Change). nat_le (suc l.greatest) (number_of c)) l.changes)

abbrev pub decreases-loop-left : goal.decreases-loop-left
decreases-loop-left l = length l.left
