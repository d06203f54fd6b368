use Rattle.std.proofs.Common.{◌≡◌, ◌+◌, ◌≤◌, ◌++◌, length}
use Rattle.s2_colenc.specs.Written.{runs_of, run_values, run_lengths}
use Rattle.s2_colenc.proofs.writing.split_runs.Given as goal

abbrev pub invariant-loop-left : goal.invariant-loop-left
invariant-loop-left l = record {
  vals : l.heads ++ run_values (runs_of l.left) ≡ run_values (runs_of l.vals);
  lens : l.lens ++ run_lengths (runs_of l.left) ≡ run_lengths (runs_of l.vals);
  few : length l.heads + length l.left ≤ length l.vals;
}

abbrev pub decreases-loop-left : goal.decreases-loop-left
decreases-loop-left l = length l.left
