use Rattle.std.proofs.Common.{◌≡◌, drop}
use Rattle.s2_pred.specs.Meaning.{place_of, place_from}
use Rattle.s2_pred.proofs.values.place.Given as goal

abbrev pub invariant-loop-col : goal.invariant-loop-col
invariant-loop-col l = record { at : l.at ≡ l.col-index; rest : place_from l.col-index (drop l.col-index l.cols) l.name ≡ place_of l.cols l.name }
