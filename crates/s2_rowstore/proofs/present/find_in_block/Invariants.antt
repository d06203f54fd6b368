use Rattle.std.proofs.Common.{◌≡◌, ◌≤◌, ◌++◌, Some, length, take}
use Rattle.std.specs.List.{filter}
use Rattle.s2_rowstore.specs.Numbers.{is_flagged, numbers_of}
use Rattle.s2_rowstore.specs.Present.{is_free_above}
use Rattle.s2_rowstore.proofs.Walk.{rest_of}
use Rattle.s2_rowstore.proofs.present.find_in_block.Given as goal

abbrev pub invariant-loop-i : goal.invariant-loop-i
invariant-loop-i l = record {
  most : length l.found.items ≤ l.most;
  first : take l.most (l.found.items ++ filter (is_free_above l.from l.r l.lines.entries) (filter (is_flagged (Some l.flags)) (rest_of l.block l.i)))
      ≡ take l.most (l.initial.found.items ++ filter (is_free_above l.from l.r l.lines.entries) (numbers_of (l.block, l.flags)));
}
