use Rattle.std.proofs.Common.{◌≡◌, take}
use Rattle.s2_model.specs.History.{greatest_in}
use Rattle.s2_state.proofs.journal.greatest_in.Given as goal

abbrev pub invariant-loop-change : goal.invariant-loop-change
invariant-loop-change l = l.top ≡ greatest_in (take l.change-index l.changes) l.was
