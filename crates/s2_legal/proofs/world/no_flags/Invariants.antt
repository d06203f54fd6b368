use Rattle.std.proofs.Common.{◌≡◌, ℕ, false, length}
use Rattle.s2_legal.specs.World.{flag_of}
use Rattle.s2_legal.proofs.world.no_flags.Given as goal

abbrev pub invariant-loop-i : goal.invariant-loop-i
invariant-loop-i l = record {
  count : length l.flags.items ≡ l._i;
  none : (k : ℕ) → flag_of l.flags.items k ≡ false;
}
