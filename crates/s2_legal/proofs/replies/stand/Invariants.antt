use Rattle.std.proofs.Common.{◌+◌, ◌≤◌, length}
use Rattle.s2_legal.proofs.Standing.{StandsTo}
use Rattle.s2_legal.proofs.replies.stand.Given as goal

abbrev pub invariant-loop-i : goal.invariant-loop-i
invariant-loop-i l = record {
  place : l.r + length l.makes ≤ length l.h;
  so : StandsTo l.h l.r l.k l.makes l.i;
}
