use Rattle.std.proofs.Common.{◌≡◌, length}
use Rattle.s2_value.specs.Rows.{fits_columns}
use Rattle.s2_value.proofs.schemas.fits_columns.Given as goal

abbrev pub invariant-loop-cols : goal.invariant-loop-cols
invariant-loop-cols l = fits_columns l.cols l.values ≡ fits_columns l.fn.cols l.fn.values

abbrev pub decreases-loop-cols : goal.decreases-loop-cols
decreases-loop-cols l = length l.cols
