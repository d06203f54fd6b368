use Rattle.s2_state.proofs.Shown.{shown_view}
use Rattle.s2_state.proofs.states.State.snapshot.Goals as goal

pub returns-clause-rows : goal.returns-clause-rows
returns-clause-rows c =
    shown_view c.args.self.now c.requires.good c.args.actor c.args.r c.in_ok-rows.rows c.requires.time c.in_ok-rows.ensures.rows c.in_ok-rows.ensures.rising
