use Rattle.std.proofs.Common.{◌≡◌, ◌++◌, length, flat_map}
use Rattle.std.specs.Vec.Iter.{into_iter_items}
use Rattle.s2_model.specs.OutputText.{entry_text}
use Rattle.s2_run.proofs.outputs.put_entries.Given as goal

abbrev pub invariant-loop-entry : goal.invariant-loop-entry
invariant-loop-entry l = l.text ++ flat_map entry_text (into_iter_items l.left) ≡ l.fn.text ++ flat_map entry_text l.fn.history

abbrev pub decreases-loop-entry : goal.decreases-loop-entry
decreases-loop-entry l = length (into_iter_items l.left)
