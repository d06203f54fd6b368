use Rattle.std.proofs.Common.{ℕ, arith}
use Rattle.s2_segment.proofs.owned.read_rows.Goals as goal

pub returns-clause-narrow : goal.returns-clause-narrow
returns-clause-narrow c = λ i. omega (arith, c.type_inv.bytes i)
