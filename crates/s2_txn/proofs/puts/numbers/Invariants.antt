use Rattle.std.proofs.Common.{◌≡◌, map, take}
use Rattle.s2_model.specs.Table.{number_of}
use Rattle.s2_txn.proofs.puts.numbers.Given as goal

abbrev pub invariant-loop-change : goal.invariant-loop-change
invariant-loop-change l = l.ids.items ≡ map number_of (take l.change-index l.changes)
