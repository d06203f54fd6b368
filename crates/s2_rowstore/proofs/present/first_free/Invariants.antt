use Rattle.std.proofs.Common.{◌≡◌, ◌≤◌, ◌++◌, length, take}
use Rattle.std.specs.List.{filter}
use Rattle.s2_rowstore.specs.Numbers.{numbers_in}
use Rattle.s2_rowstore.specs.Present.{is_free_above}
use Rattle.s2_rowstore.proofs.present.first_free.Given as goal

abbrev pub invariant-loop-block : goal.invariant-loop-block
invariant-loop-block l = record {
  most : length l.found.items ≤ l.most;
  first : take l.most (l.found.items ++ filter (is_free_above l.from l.r l.lines.entries) (numbers_in l.block-iterator))
      ≡ take l.most (filter (is_free_above l.from l.r l.lines.entries) (numbers_in l.initial.block-iterator));
}
