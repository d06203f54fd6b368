use Rattle.std.proofs.Common.{◌≡◌, take}
use Rattle.s2_model.specs.Answer.{kept}
use Rattle.s2_rowstore.specs.Visible.{lent}
use Rattle.s2_txn.proofs.planning.copy_matching.Given as goal

abbrev pub invariant-loop-id : goal.invariant-loop-id
invariant-loop-id l = l.found.items ≡ kept l.pred (lent (take l.id-index l.rows))
