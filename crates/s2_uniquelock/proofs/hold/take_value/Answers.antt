use Rattle.std.proofs.Common.{arith}
use Rattle.s2_uniquelock.proofs.Swept.{taken_value, from_ok}
use Rattle.s2_uniquelock.proofs.hold.take_value.Goals as goal

pub returns-clause-holds : goal.returns-clause-holds
returns-clause-holds c =
    taken_value _ _ _ c.args.hold c.args.j c.args.key (from_ok _ c.insert.result (c.insert.ensures.succeeds c.requires.room) c.insert.ensures.updates).0 c.holds_of-holds.ensures (omega arith)
