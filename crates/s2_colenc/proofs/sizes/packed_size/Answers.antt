use Rattle.std.proofs.Common.{arith}
use Rattle.s2_colplain.proofs.Waiting.{least_below, greatest_above}
use Rattle.s2_colenc.proofs.sizes.packed_size.Goals as goal

pub overflow_sub-spread : goal.overflow_sub-spread
overflow_sub-spread c = omega (arith, least_below c.args.vals.now 0 c.requires.some, greatest_above c.args.vals.now 0 c.requires.some, c.least_rank.ensures, c.greatest_rank.ensures)
