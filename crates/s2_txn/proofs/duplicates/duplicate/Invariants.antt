use Rattle.std.proofs.Common.{◌≡◌, ◌-◌, ◌≤◌, suc, drop}
use Rattle.s2_model.specs.Table.{apply}
use Rattle.s2_model.specs.History.{view}
use Rattle.s2_model.specs.Verdict.{first_some, first_from, duplicate_at, duplicate}
use Rattle.s2_state.specs.States.{history_of}
use Rattle.s2_txn.proofs.duplicates.duplicate.Given as goal

abbrev pub invariant-loop-j : goal.invariant-loop-j
invariant-loop-j l = record {
  within : l.j ≤ l.count;
  same : first_from (suc l.j) (λ i key. first_some (duplicate_at (apply (view (history_of l.s) l.actor) l.changes) i key) l.changes) (drop l.j l.s.schema.uniques)
      ≡ duplicate (apply (view (history_of l.s) l.actor) l.changes) l.s.schema.uniques l.changes;
}

abbrev pub decreases-loop-j : goal.decreases-loop-j
decreases-loop-j l = l.count - l.j
