use Rattle.s2_state.specs.States.{history_of}
use Rattle.s2_txn.proofs.Steps.{running_open, room_to_end, rollback_good}
use Rattle.s2_txn.proofs.ends.end_by_rollback.Goals as goal

pub undo_writes-requires-clause-room : goal.undo_writes-requires-clause-room
undo_writes-requires-clause-room c =
    room_to_end c.args.s.now c.args.actor c.requires.actor.0 c.requires.actor.1 c.requires.good
    (running_open (history_of c.args.s.now) c.args.actor c.requires.running)

pub returns-clause-good : goal.returns-clause-good
returns-clause-good c =
    rollback_good c.args.s.now c.undo_writes.new.s c.args.actor c.requires.actor.0 c.requires.actor.1 c.requires.good c.requires.running c.undo_writes.ensures
