use Rattle.std.proofs.Common.{◌≡◌, ◌*◌, ◌++◌, filter}
use Rattle.std.specs.List.{range_with_len}
use Rattle.s2_bits.specs.Bits.{is_set_at}
use Rattle.s2_bits.proofs.words.push_places.Given as goal

abbrev pub invariant-loop-i : goal.invariant-loop-i
invariant-loop-i l =
    l.places.items ≡ l.fn.places.items ++ filter (is_set_at l.words) (range_with_len 0 (64 * l.i))
