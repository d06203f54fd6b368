use Rattle.std.proofs.Common.{length}
use Rattle.s2_outread.specs.Expected.{told, at_first}
use Rattle.s2_outread.specs.Taking.{Taken}
use Rattle.s2_outread.proofs.outputs.all.Given as goal

abbrev pub invariant-loop-left : goal.invariant-loop-left
invariant-loop-left l = Taken (at_first l.sessions) l.bytes l.lines.items l.left (told l.expected)

abbrev pub decreases-loop-left : goal.decreases-loop-left
decreases-loop-left l = length l.left
