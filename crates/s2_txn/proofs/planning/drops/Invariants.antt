use Rattle.std.proofs.Common.{◌≡◌, map, take}
use Rattle.s2_model.specs.declared.entries.Change.TheVariants.{Drop}
use Rattle.s2_txn.proofs.planning.drops.Given as goal

abbrev pub invariant-loop-row : goal.invariant-loop-row
invariant-loop-row l = l.changes.items ≡ map (λ p. Drop p.0) (take l.row-index l.rows)
