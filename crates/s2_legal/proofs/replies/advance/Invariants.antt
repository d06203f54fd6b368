use Rattle.std.proofs.Common.{take}
use Rattle.s2_model.specs.History.{history}
use Rattle.s2_legal.specs.Knows.{Knows}
use Rattle.s2_legal.proofs.replies.advance.Given as goal

abbrev pub invariant-loop-i : goal.invariant-loop-i
invariant-loop-i l = Knows l.schema l.world (history (take l.i l.h))
