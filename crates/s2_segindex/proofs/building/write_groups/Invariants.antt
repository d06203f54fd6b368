use Rattle.std.proofs.Common.{◌≡◌, ◌+◌, ◌*◌, ◌≤◌, ◌++◌, length, take, vec_len}
use Rattle.std.specs.List.{flat_map}
use Rattle.s2_colbytes.specs.Numbers.{spelled}
use Rattle.s2_segindex.specs.Spells.{group_bytes, starts_from}
use Rattle.s2_segindex.proofs.building.write_groups.Given as goal

abbrev pub invariant-loop-group : goal.invariant-loop-group
invariant-loop-group l = record {
  starts : l.starts.items ≡ l.initial.starts.items ++ spelled 4 (starts_from l.place (take l.group-index l.groups));
  body : l.body.items ≡ flat_map group_bytes (take l.group-index l.groups);
  size : vec_len l.body ≤ 20498 * l.group-index;
}
