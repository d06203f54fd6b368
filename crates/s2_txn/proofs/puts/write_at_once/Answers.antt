use Rattle.std.proofs.Common.{arith}
use Rattle.s2_txn.proofs.WriteSteps.{autocommit_good}
use Rattle.s2_txn.proofs.puts.write_at_once.Goals as goal

pub returns-clause-good : goal.returns-clause-good
returns-clause-good c =
    let w = c.in_ok-write.ensures.written in
    autocommit_good c.args.s.now c.write.new.s c.commit_writes.new.s c.args.actor c.args.changes c.requires.good (omega (arith, c.requires.short)) c.requires.fits c.requires.free
    w.0 c.commit_writes.ensures w.1
