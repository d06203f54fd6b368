use Rattle.std.proofs.Common.{◌≡◌, suc, true, length}
use Rattle.std.specs.List.{list_all}
use Rattle.s2_model.specs.Fits.{put_fits}
use Rattle.s2_model.specs.History.{view}
use Rattle.s2_model.specs.Verdict.{first_some}
use Rattle.s2_state.specs.States.{history_of}
use Rattle.s2_txn.specs.Duplicates.{unique_key, shared_at}
use Rattle.s2_txn.proofs.duplicates.first_refusal.Given as goal

abbrev pub invariant-loop-left : goal.invariant-loop-left
invariant-loop-left l = record {
  fits : list_all (put_fits l.s.schema) l.left ≡ true;
  same : first_some (shared_at (view (history_of l.s) l.actor) l.changes (suc l.j) (unique_key l.s.schema l.j)) l.left
      ≡ first_some (shared_at (view (history_of l.s) l.actor) l.changes (suc l.j) (unique_key l.s.schema l.j)) l.changes;
}

abbrev pub decreases-loop-left : goal.decreases-loop-left
decreases-loop-left l = length l.left
