use Rattle.std.proofs.Common.{◌≡◌, ◌++◌, take}
use Rattle.s2_slow.proofs.histories.add_all.Given as goal

abbrev pub invariant-loop-change : goal.invariant-loop-change
invariant-loop-change l = l.changes.items ≡ l.fn.changes.items ++ take l.change-index l.more
