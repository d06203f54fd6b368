use Rattle.std.proofs.Common.{◌≡◌, ◌++◌, take}
use Rattle.std.specs.Ordering.{nat_cmp}
use Rattle.std.specs.BTreeMap.{get}
use Rattle.s2_legal.specs.Lasts.{KnowsLast}
use Rattle.s2_legal.proofs.opens.OpenWrites.extended.Given as goal

abbrev pub invariant-loop-change : goal.invariant-loop-change
invariant-loop-change l = record {
  items : l.changes.items ≡ l.initial.changes.items ++ take l.change-index l.more;
  last : KnowsLast (get nat_cmp l.places) l.changes.items;
}
