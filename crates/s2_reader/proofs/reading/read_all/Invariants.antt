use Rattle.std.proofs.Common.{◌+◌, ◌≤◌, length}
use Rattle.s2_script.specs.Lines.{lines_of}
use Rattle.s2_build.specs.Builders.{draft}
use Rattle.s2_resolve.specs.Resolved.{Goes}
use Rattle.s2_reader.proofs.Going.{Progress}
use Rattle.s2_reader.proofs.reading.read_all.Given as goal

abbrev pub invariant-loop-left : goal.invariant-loop-left
invariant-loop-left l = record {
  progress : Progress (lines_of l.bytes) l.reader.known (draft l.reader.builder) l.reader.next (lines_of l.left);
  goes : Goes l.reader.known (draft l.reader.builder);
  few : l.reader.next + length l.left ≤ length l.bytes + 1;
}

abbrev pub decreases-loop-left : goal.decreases-loop-left
decreases-loop-left l = length l.left
