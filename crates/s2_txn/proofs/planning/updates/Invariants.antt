use Rattle.std.proofs.Common.{◌≡◌, map, take, drop}
use Rattle.s2_model.specs.Verdict.{updated, first_some}
use Rattle.s2_txn.specs.Planning.{out_at}
use Rattle.s2_txn.proofs.planning.updates.Given as goal

abbrev pub invariant-loop-row : goal.invariant-loop-row
invariant-loop-row l = record {
  made : l.changes.items ≡ map (updated l.sets) (take l.row-index l.rows);
  within : first_some (out_at l.sets) (drop l.row-index l.rows) ≡ first_some (out_at l.sets) l.rows;
}
