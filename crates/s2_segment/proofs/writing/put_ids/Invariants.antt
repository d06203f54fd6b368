use Rattle.std.proofs.Common.{◌≡◌, ◌+◌, ◌-◌, ◌*◌, ◌≤◌, ◌++◌, true, length, take}
use Rattle.std.specs.Vec.{vec_len, vec_capacity}
use Rattle.std.specs.List.{list_all}
use Rattle.s2_colbytes.specs.Numbers.{spelled}
use Rattle.s2_model.specs.Files.{row_numbers}
use Rattle.s2_segment.specs.Written.{is_narrow}
use Rattle.s2_segment.proofs.writing.put_ids.Given as goal

abbrev pub invariant-loop-row : goal.invariant-loop-row
invariant-loop-row l = record {
  items : l.out.items ≡ l.fn.out.items ++ spelled 8 (row_numbers (take l.row-index l.rows));
  narrow : list_all is_narrow (row_numbers (take l.row-index l.rows)) ≡ true;
  room : vec_len l.out + 8 * (length l.rows - l.row-index) ≤ vec_capacity l.out;
}
