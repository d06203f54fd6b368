use Rattle.s2_rowstore.specs.Present.{ArePresent}
use Rattle.s2_rowstore.proofs.present.drop_all_absent.Given as goal

abbrev pub invariant-loop-id : goal.invariant-loop-id
invariant-loop-id l = ArePresent l.initial.ids l.lines.entries → ArePresent l.ids l.lines.entries
