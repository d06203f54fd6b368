use Rattle.std.proofs.Common.{◌≡◌, take}
use Rattle.s2_model.specs.History.{history, pending}
use Rattle.s2_slow.proofs.histories.pending.Given as goal

abbrev pub invariant-loop-entry : goal.invariant-loop-entry
invariant-loop-entry l = l.changes.items ≡ pending (history (take l.entry-index l.h)) l.actor
