use Rattle.std.proofs.Common.{◌≡◌, ℕ, [], length, Some}
use Rattle.std.specs.List.{slice_get}
use Rattle.s2_legal.specs.Keys.{KeyIndex}
use Rattle.s2_legal.proofs.index.no_puts.Given as goal

abbrev pub invariant-loop-i : goal.invariant-loop-i
invariant-loop-i l = record {
  count : length l.puts.items ≡ l._i;
  none : (k : ℕ) (p : KeyIndex) → slice_get l.puts.items k ≡ Some p → p.entries ≡ [];
}
