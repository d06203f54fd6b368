use Rattle.std.proofs.Common.{arith, refl}
use Rattle.s2_colenc.proofs.Longest.{step}
use Rattle.s2_colenc.proofs.sizes.runs_size.Goals as goal

pub loop-left-preserved : goal.loop-left-preserved
loop-left-preserved c =
    let s = step c.loop-left.left.now c.first-item.result _ c.leading.result _ c.split_at.result.1.now c.in-len1-up.len_at_least c.first-item.is refl c.leading.ensures.count c.split_at.ensures.back in
    record { sum = omega (arith, s.size, c.loop-left.invariant.sum, c.entry_size.ensures.size); small = omega (arith, s.fewer, c.loop-left.invariant.small, c.entry_size.ensures.small) }
