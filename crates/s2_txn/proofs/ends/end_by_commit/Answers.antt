use Rattle.s2_state.specs.States.{history_of}
use Rattle.s2_txn.proofs.Steps.{running_open, room_to_end, commit_good}
use Rattle.s2_txn.proofs.ends.end_by_commit.Goals as goal

pub commit_writes-requires-clause-room : goal.commit_writes-requires-clause-room
commit_writes-requires-clause-room c =
    room_to_end c.args.s.now c.args.actor c.requires.actor.0 c.requires.actor.1 c.requires.good
    (running_open (history_of c.args.s.now) c.args.actor c.requires.running)

pub returns-clause-good : goal.returns-clause-good
returns-clause-good c =
    commit_good c.args.s.now c.commit_writes.new.s c.args.actor c.requires.actor.0 c.requires.actor.1 c.requires.good c.requires.running c.commit_writes.ensures
