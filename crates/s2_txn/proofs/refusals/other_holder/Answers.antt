use Rattle.s2_txn.proofs.Others.{holder_of_row}
use Rattle.s2_txn.proofs.refusals.other_holder.Goals as goal
use Rattle.std.proofs.Common.{◌∙◌, ap}
use Rattle.s2_uniquelock.specs.Locks.{without}

pub returns : goal.returns
returns c = c.without.ensures ∙ ap (without c.args.actor) c.holder_of_row.ensures ∙ holder_of_row c.args.s.now c.requires c.args.actor c.args.id
