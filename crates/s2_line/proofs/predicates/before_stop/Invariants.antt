use Rattle.std.proofs.Common.{◌≡◌, ◌++◌, take, drop}
use Rattle.s2_line.specs.Reading.{cut_at}
use Rattle.s2_line.proofs.predicates.before_stop.Given as goal

abbrev pub invariant-loop-i : goal.invariant-loop-i
invariant-loop-i l =
    cut_at l.tokens ≡ (take l.i l.tokens ++ (cut_at (drop l.i l.tokens)).0, (cut_at (drop l.i l.tokens)).1)
