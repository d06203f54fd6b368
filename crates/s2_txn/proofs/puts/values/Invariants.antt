use Rattle.std.proofs.Common.{◌≡◌, ◌++◌, true, length}
use Rattle.std.specs.List.{list_all}
use Rattle.s2_model.specs.History.{state}
use Rattle.s2_model.specs.Fits.{put_fits}
use Rattle.s2_state.specs.States.{history_of}
use Rattle.s2_txn.specs.Items.{all_items}
use Rattle.s2_txn.proofs.puts.values.Given as goal

abbrev pub invariant-loop-left : goal.invariant-loop-left
invariant-loop-left l = record {
  made : l.values.items ++ all_items l.s.schema.uniques (state (history_of l.s)) l.left ≡ all_items l.s.schema.uniques (state (history_of l.s)) l.changes;
  fit : list_all (put_fits l.s.schema) l.left ≡ true;
}

abbrev pub decreases-loop-left : goal.decreases-loop-left
decreases-loop-left l = length l.left
