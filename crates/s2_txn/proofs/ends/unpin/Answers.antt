use Rattle.s2_state.specs.States.{history_of}
use Rattle.s2_txn.proofs.Steps.{pinned_open, room_to_end, unpin_good}
use Rattle.s2_txn.proofs.ends.unpin.Goals as goal

pub append-requires : goal.append-requires
append-requires c =
    room_to_end c.args.s.now c.args.actor c.requires.actor.0 c.requires.actor.1 c.requires.good
    (pinned_open (history_of c.args.s.now) c.args.actor c.requires.pinned)

pub returns-clause-good : goal.returns-clause-good
returns-clause-good c =
    unpin_good c.args.s.now c.append.new.self c.args.actor c.requires.actor.0 c.requires.actor.1 c.requires.good c.requires.pinned
    c.append.ensures.parts c.append.ensures.history c.append.ensures.room
