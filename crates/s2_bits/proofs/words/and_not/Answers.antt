use Rattle.std.proofs.Common.{arith}
use Rattle.s2_bits.proofs.Lists.{is_set_at-and_not}
use Rattle.s2_bits.proofs.words.and_not.Goals as goal

pub returns : goal.returns
returns c = is_set_at-and_not c.args.words.now c.args.others.now c.loop-i.words c.requires (omega arith) (λ k. omega (arith, c.type_inv.others k)) (λ k l. c.loop-i.invariant.done k (omega arith))
