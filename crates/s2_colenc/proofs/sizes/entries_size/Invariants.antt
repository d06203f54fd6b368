use Rattle.std.proofs.Common.{◌≡◌, ◌*◌, ◌≤◌, take}
use Rattle.std.specs.List.{sum_by, AllByRecursion}
use Rattle.s2_colenc.specs.Spells.{IsValue}
use Rattle.s2_colenc.specs.Sizes.{entry_size}
use Rattle.s2_colenc.proofs.sizes.entries_size.Given as goal

abbrev pub invariant-loop-val : goal.invariant-loop-val
invariant-loop-val l = record {
  sum : l.total ≡ sum_by entry_size (take l.val-index l.vals);
  values : AllByRecursion IsValue (take l.val-index l.vals);
  small : l.total ≤ 259 * l.val-index;
}
