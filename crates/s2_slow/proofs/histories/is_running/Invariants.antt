use Rattle.std.proofs.Common.{◌≡◌, take}
use Rattle.s2_model.specs.History.{history, is_running}
use Rattle.s2_slow.proofs.histories.is_running.Given as goal

abbrev pub invariant-loop-entry : goal.invariant-loop-entry
invariant-loop-entry l = l.running ≡ is_running (history (take l.entry-index l.h)) l.actor
