use Rattle.std.proofs.Common.{◌≡◌, ◌+◌, ◌-◌, ◌*◌, ◌≤◌, ◌++◌, length, take, vec_len, vec_capacity}
use Rattle.s2_colbytes.specs.Numbers.{spelled}
use Rattle.s2_segindex.proofs.building.put_numbers.Given as goal

abbrev pub invariant-loop-number : goal.invariant-loop-number
invariant-loop-number l = record {
  items : l.out.items ≡ l.initial.out.items ++ spelled 2 (take l.number-index l.numbers);
  size : vec_len l.out ≡ vec_len l.initial.out + 2 * l.number-index;
  room : vec_len l.out + 2 * (length l.numbers - l.number-index) ≤ vec_capacity l.out;
}
