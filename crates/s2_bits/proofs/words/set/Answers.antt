use Rattle.s2_bits.proofs.Lists.{is_set_at-set}
use Rattle.s2_bits.proofs.words.set.Goals as goal

pub returns : goal.returns
returns c = λ k. is_set_at-set c.args.words.now c.args.i k c.requires
