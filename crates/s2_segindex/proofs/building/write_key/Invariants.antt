use Rattle.std.proofs.Common.{◌≡◌, ◌+◌, ◌*◌, ◌≤◌, ◌++◌, take, vec_len}
use Rattle.s2_value.specs.Bytes.{key_bytes}
use Rattle.s2_segindex.proofs.building.write_key.Given as goal

abbrev pub invariant-loop-value : goal.invariant-loop-value
invariant-loop-value l = record {
  items : l.out.items ≡ l.initial.out.items ++ key_bytes (take l.value-index l.key);
  size : vec_len l.out ≤ vec_len l.initial.out + 257 * l.value-index;
}
