use Rattle.std.proofs.Common.{◌≡◌, take}
use Rattle.s2_model.specs.Table.{apply}
use Rattle.s2_slow.proofs.tables.apply.Given as goal

abbrev pub invariant-loop-change : goal.invariant-loop-change
invariant-loop-change l = l.rows.items ≡ apply l.fn.rows.items (take l.change-index l.changes)
