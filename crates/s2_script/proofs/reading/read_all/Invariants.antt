use Rattle.std.proofs.Common.{◌+◌, ◌≤◌, length}
use Rattle.s2_script.specs.Lines.{lines_of}
use Rattle.s2_script.proofs.RunLaws.{GoesOn}
use Rattle.s2_script.proofs.reading.read_all.Given as goal

abbrev pub invariant-loop-left : goal.invariant-loop-left
invariant-loop-left l = record {
  goes : GoesOn (lines_of l.bytes) l.lines (lines_of l.left);
  few : l.lines.next + length l.left ≤ length l.bytes + 1;
}

abbrev pub decreases-loop-left : goal.decreases-loop-left
decreases-loop-left l = length l.left
