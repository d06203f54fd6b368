use Rattle.s2_state.proofs.Shown.{shows_rows}
use Rattle.s2_state.proofs.laws.good_states_show_rows.Goals as goal

pub returns : goal.returns
returns c = shows_rows
