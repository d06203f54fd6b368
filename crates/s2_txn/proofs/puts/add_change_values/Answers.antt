use Rattle.std.proofs.Common.{◌∙◌, ap}
use Rattle.s2_txn.specs.Items.{option_fits}
use Rattle.s2_txn.proofs.Committed.{committed_fits}
use Rattle.s2_txn.proofs.puts.add_change_values.Goals as goal

pub add_values-requires : goal.add_values-requires
add_values-requires c =
    ap (option_fits c.args.s.now.schema) c.committed.ensures ∙ committed_fits c.args.s.now c.requires.good c.number_of.result
