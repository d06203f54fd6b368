use Rattle.std.proofs.Common.{◌≡◌, take}
use Rattle.s2_model.specs.Table.{row_at}
use Rattle.s2_model.specs.History.{view}
use Rattle.s2_state.specs.States.{history_of}
use Rattle.s2_txn.specs.Planning.{kept_row, rows_among}
use Rattle.s2_txn.proofs.planning.matching_among.Given as goal

abbrev pub invariant-loop-id : goal.invariant-loop-id
invariant-loop-id l = l.rows.items ≡ rows_among (λ n. kept_row l.pred (row_at (view (history_of l.s) l.actor) n)) (take l.id-index l.ids)
