use Rattle.std.proofs.Common.{◌≡◌, ℕ, [], length}
use Rattle.s2_legal.specs.World.{open_of}
use Rattle.s2_legal.proofs.world.no_writes.Given as goal

abbrev pub invariant-loop-i : goal.invariant-loop-i
invariant-loop-i l = record {
  count : length l.writes.items ≡ l._i;
  none : (k : ℕ) → open_of l.writes.items k ≡ [];
}
