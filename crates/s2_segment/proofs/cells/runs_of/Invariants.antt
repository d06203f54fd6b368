use Rattle.std.proofs.Common.{◌≡◌, take}
use Rattle.s2_segment.specs.Runs.{runs_from}
use Rattle.s2_segment.proofs.cells.runs_of.Given as goal

abbrev pub invariant-loop-run : goal.invariant-loop-run
invariant-loop-run l = l.runs.items ≡ runs_from 0 (take l.run l.lens)
