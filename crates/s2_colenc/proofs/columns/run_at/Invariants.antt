use Rattle.std.proofs.Common.{◌≡◌, ◌+◌, ◌<◌, drop, sum}
use Rattle.s2_colenc.specs.Column.{run_of}
use Rattle.s2_colenc.proofs.columns.run_at.Given as goal

abbrev pub invariant-loop-run : goal.invariant-loop-run
invariant-loop-run l = record {
  place : l.run + run_of (drop l.run l.lens) l.left ≡ run_of l.lens l.i;
  more : l.left < sum (drop l.run l.lens);
}
