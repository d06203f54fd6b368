use Rattle.std.proofs.Common.{◌≡◌, ◌+◌, ◌-◌, ◌*◌, ◌≤◌, ◌++◌, length, drop, vec_len}
use Rattle.std.specs.Vec.{vec_capacity}
use Rattle.s2_colplain.specs.Ints.{plain_ints}
use Rattle.s2_colplain.proofs.ints.put_ints.Given as goal

abbrev pub invariant-loop-val : goal.invariant-loop-val
invariant-loop-val l = record {
  items : l.out.items ++ plain_ints (drop l.val-index l.vals) ≡ l.fn.out.items ++ plain_ints l.vals;
  room : vec_len l.out + 8 * (length l.vals - l.val-index) ≤ vec_capacity l.out;
}
