use Rattle.s2_txn.proofs.Others.{holder_of_value}
use Rattle.s2_txn.proofs.refusals.other_value_holder.Goals as goal
use Rattle.std.proofs.Common.{◌∙◌, ap}
use Rattle.s2_uniquelock.specs.Locks.{without}

pub returns : goal.returns
returns c = c.without.ensures ∙ ap (without c.args.actor) c.holder_of_value.ensures ∙ holder_of_value c.args.s.now c.requires.good c.args.actor c.args.j c.args.key.now c.requires.number
