use Rattle.s2_segindex.proofs.Made.{made_spells}
use Rattle.s2_segindex.proofs.laws.built_blocks_are_spelled.Goals as goal

pub returns : goal.returns
returns c = made_spells
