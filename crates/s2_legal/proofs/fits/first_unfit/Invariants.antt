use Rattle.std.proofs.Common.{take}
use Rattle.s2_model.specs.declared.scripts.Options.{Options}
use Rattle.s2_model.specs.History.{history}
use Rattle.s2_model.specs.Fits.{AllFit}
use Rattle.s2_legal.specs.Knows.{Knows}
use Rattle.s2_legal.proofs.fits.first_unfit.Given as goal

abbrev pub invariant-loop-i : goal.invariant-loop-i
invariant-loop-i l = record {
  knows : Knows l.schema l.world (history (take l.i l.h));
  fit : (options : Options) → AllFit l.schema options (history (take l.i l.h));
}
