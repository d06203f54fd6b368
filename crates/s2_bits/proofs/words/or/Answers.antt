use Rattle.std.proofs.Common.{arith}
use Rattle.s2_bits.proofs.Lists.{is_set_at-or}
use Rattle.s2_bits.proofs.words.or.Goals as goal

pub returns : goal.returns
returns c = is_set_at-or c.args.words.now c.args.others.now c.loop-i.words c.requires (omega arith) (λ k l. c.loop-i.invariant.done k (omega arith))
