use Rattle.s2_state.proofs.Soundness.{sound}
use Rattle.s2_state.proofs.laws.good_states_are_sound.Goals as goal

pub returns : goal.returns
returns c = sound
