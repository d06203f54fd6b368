use Rattle.std.proofs.Common.{◌≡◌, ◌+◌, ◌-◌, ◌*◌, ◌≤◌, ◌++◌, length, drop, vec_len}
use Rattle.std.specs.Vec.{vec_capacity}
use Rattle.s2_colbytes.specs.Numbers.{spelled}
use Rattle.s2_colenc.proofs.writing.put_numbers.Given as goal

abbrev pub invariant-loop-number : goal.invariant-loop-number
invariant-loop-number l = record {
  items : l.out.items ++ spelled 2 (drop l.number-index l.numbers) ≡ l.fn.out.items ++ spelled 2 l.numbers;
  room : vec_len l.out + 2 * (length l.numbers - l.number-index) ≤ vec_capacity l.out;
}
