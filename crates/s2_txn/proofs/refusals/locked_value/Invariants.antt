use Rattle.std.proofs.Common.{◌≡◌, suc, drop}
use Rattle.s2_model.specs.Verdict.{first_from, first_some, locked_value_at, locked_value}
use Rattle.s2_state.specs.States.{history_of}
use Rattle.s2_txn.proofs.refusals.locked_value.Given as goal

abbrev pub invariant-loop-j : goal.invariant-loop-j
invariant-loop-j l =
    first_from (suc l.j) (λ i key. first_some (locked_value_at (history_of l.s) l.actor i key) l.changes) (drop l.j l.s.schema.uniques)
    ≡ locked_value (history_of l.s) l.actor l.s.schema.uniques l.changes
