use Rattle.std.proofs.Common.{◌≡◌, length, map}
use Rattle.s2_model.specs.Table.{number_of}
use Rattle.s2_model.specs.Fits.{rise, rise_from}
use Rattle.s2_legal.proofs.fits.rise.Given as goal

abbrev pub invariant-loop-left : goal.invariant-loop-left
invariant-loop-left l = rise_from l.last (map number_of l.left) ≡ rise (map number_of l.changes)

abbrev pub decreases-loop-left : goal.decreases-loop-left
decreases-loop-left l = length l.left
