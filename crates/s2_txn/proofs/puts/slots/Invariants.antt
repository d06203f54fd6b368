use Rattle.std.proofs.Common.{◌≡◌, map, take}
use Rattle.s2_txn.specs.Items.{slot_of}
use Rattle.s2_txn.proofs.puts.slots.Given as goal

abbrev pub invariant-loop-change : goal.invariant-loop-change
invariant-loop-change l = l.slots.items ≡ map slot_of (take l.change-index l.changes)
