use Rattle.std.specs.BTreeSet.{contains}
use Rattle.s2_value.specs.Order.{row_cmp}
use Rattle.s2_txn.proofs.SharedValues.{put_in}
use Rattle.s2_txn.proofs.duplicates.put_key.Goals as goal

pub returns : goal.returns
returns c v = put_in c.args.key v (contains row_cmp c.args.keys.now v) (contains row_cmp c.insert.new.self v) (c.in_ok-insert.ensures.updates.0 v)
