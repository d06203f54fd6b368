use Rattle.std.proofs.Common.{◌≡◌, ◌++◌, length, map}
use Rattle.s2_model.specs.History.{history, pending}
use Rattle.s2_model.specs.Held.{sessions}
use Rattle.s2_slow.proofs.notes.open_writes.Given as goal

abbrev pub invariant-loop-left : goal.invariant-loop-left
invariant-loop-left l = l.writes.items ++ map (pending (history l.h)) l.left ≡ map (pending (history l.h)) sessions

abbrev pub decreases-loop-left : goal.decreases-loop-left
decreases-loop-left l = length l.left
