use Rattle.std.proofs.Common.{◌≡◌, ◌&&◌, not, length}
use Rattle.std.specs.List.{list_any}
use Rattle.s2_model.specs.Table.{row_at, touches}
use Rattle.s2_model.specs.History.{view}
use Rattle.s2_model.specs.Held.{some_has_key}
use Rattle.s2_state.specs.States.{history_of}
use Rattle.s2_txn.specs.Duplicates.{unique_key}
use Rattle.s2_txn.proofs.duplicates.any_keeps_value.Given as goal

abbrev pub invariant-loop-left : goal.invariant-loop-left
invariant-loop-left l =
    list_any (λ id. not (touches l.changes id) && some_has_key (unique_key l.s.schema l.j) l.key (row_at (view (history_of l.s) l.actor) id)) l.left
    ≡ list_any (λ id. not (touches l.changes id) && some_has_key (unique_key l.s.schema l.j) l.key (row_at (view (history_of l.s) l.actor) id)) l.ids

abbrev pub decreases-loop-left : goal.decreases-loop-left
decreases-loop-left l = length l.left
