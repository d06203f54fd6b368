use Rattle.std.proofs.Common.{◌≡◌, ◌++◌, replicate}
use Rattle.s2_segment.proofs.cells.push_often.Given as goal

abbrev pub invariant-loop : goal.invariant-loop
invariant-loop l = l.out.items ≡ l.fn.out.items ++ replicate l.counter l.number
