use Rattle.std.proofs.Common.{◌≡◌, take, length}
use Rattle.s2_legal.proofs.same.all_same.Given as goal

abbrev pub invariant-loop-i : goal.invariant-loop-i
invariant-loop-i g l = record {
  same : take l.i l.a ≡ take l.i l.b;
  even : length l.a ≡ length l.b;
}
