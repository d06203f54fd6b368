use Rattle.std.proofs.Common.{◌≡◌, take}
use Rattle.s2_value.proofs.lists.copies.Given as goal

abbrev pub invariant-loop-item : goal.invariant-loop-item
invariant-loop-item g l = l.same.items ≡ take l.item-index l.items
