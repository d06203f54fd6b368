use Rattle.std.proofs.Common.{◌≡◌, length}
use Rattle.std.specs.List.{list_all}
use Rattle.s2_model.specs.Fits.{put_fits}
use Rattle.s2_legal.proofs.fits.rows_fit.Given as goal

abbrev pub invariant-loop-left : goal.invariant-loop-left
invariant-loop-left l = list_all (put_fits l.schema) l.left ≡ list_all (put_fits l.schema) l.changes

abbrev pub decreases-loop-left : goal.decreases-loop-left
decreases-loop-left l = length l.left
