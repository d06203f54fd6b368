use Rattle.std.proofs.Common.{arith}
use Rattle.s2_txn.proofs.Steps.{either_way}
use Rattle.s2_txn.proofs.Left.{left_good}
use Rattle.s2_txn.proofs.WriteSteps.{write_good}
use Rattle.s2_txn.proofs.puts.write_open.Goals as goal

pub returns-clause-good : goal.returns-clause-good
returns-clause-good c =
    either_way c.write.result _ _ _ c.write.ensures.written c.write.ensures.memory
    (λ w. write_good c.args.s.now c.write.new.s c.args.actor c.args.changes c.requires.good c.requires.running (omega (arith, c.requires.short)) c.requires.fits c.requires.free w.0 (omega (arith, w.1)))
    (λ left. left_good c.args.s.now c.write.new.s c.requires.good left)
