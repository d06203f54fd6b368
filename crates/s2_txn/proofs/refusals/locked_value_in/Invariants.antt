use Rattle.std.proofs.Common.{◌≡◌, true, suc, length}
use Rattle.std.specs.List.{list_all}
use Rattle.s2_model.specs.Fits.{put_fits}
use Rattle.s2_model.specs.Verdict.{first_some, locked_value_at}
use Rattle.s2_state.specs.States.{history_of}
use Rattle.s2_txn.specs.Refusals.{unique_at}
use Rattle.s2_txn.proofs.refusals.locked_value_in.Given as goal

abbrev pub invariant-loop-left : goal.invariant-loop-left
invariant-loop-left l = record {
  same : first_some (locked_value_at (history_of l.s) l.actor (suc l.j) (unique_at l.s.schema l.j)) l.left
      ≡ first_some (locked_value_at (history_of l.s) l.actor (suc l.j) (unique_at l.s.schema l.j)) l.changes;
  fit : list_all (put_fits l.s.schema) l.left ≡ true;
}

abbrev pub decreases-loop-left : goal.decreases-loop-left
decreases-loop-left l = length l.left
