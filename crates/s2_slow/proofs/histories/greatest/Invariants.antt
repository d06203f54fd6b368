use Rattle.std.proofs.Common.{◌≡◌, take}
use Rattle.s2_model.specs.History.{history, greatest}
use Rattle.s2_slow.proofs.histories.greatest.Given as goal

abbrev pub invariant-loop-entry : goal.invariant-loop-entry
invariant-loop-entry l = l.most ≡ greatest (history (take l.entry-index l.h))
