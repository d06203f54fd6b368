use Rattle.s2_txn.proofs.Steps.{begin_good, roomier_good, either_way}
use Rattle.s2_txn.proofs.opens.start_writing.Goals as goal

pub returns-clause-good : goal.returns-clause-good
returns-clause-good c =
    either_way c.start.result _ _ _ c.start.ensures.started c.start.ensures.memory
    (λ started. begin_good c.args.s.now c.start.new.s c.args.actor c.requires.actor.0 c.requires.actor.1 c.requires.good c.requires.free c.start.ensures.parts started.0 started.1)
    (λ memory. roomier_good c.args.s.now c.start.new.s c.requires.good c.start.ensures.parts memory.0 memory.1)
