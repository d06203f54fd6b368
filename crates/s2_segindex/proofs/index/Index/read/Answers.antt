use Rattle.std.proofs.Common.{ℕ, arith}
use Rattle.s2_colbytes.specs.Numbers.{IsBytes}
use Rattle.s2_segindex.proofs.Stands.{index_ends_at, index_trails_at}
use Rattle.s2_segindex.proofs.index.Index.read.Goals as goal

pub invariant_of-result : goal.invariant_of-result
invariant_of-result c =
    let bytes : IsBytes c.args.bytes.now = λ i. omega (arith, c.type_inv.bytes i) in
    (index_ends_at c.args.kinds.now c.args.n c.args.bytes.now c.in_ok-rest.rest.now bytes c.in_ok-rest.ensures (omega arith)).index

pub returns-in-empty : goal.returns-in-empty
returns-in-empty c =
    let bytes : IsBytes c.args.bytes.now = λ i. omega (arith, c.type_inv.bytes i) in
    (index_ends_at c.args.kinds.now c.args.n c.args.bytes.now c.in_ok-rest.rest.now bytes c.in_ok-rest.ensures (omega arith)).read

pub returns-in-len1-up : goal.returns-in-len1-up
returns-in-len1-up c = index_trails_at c.args.kinds.now c.args.n c.args.bytes.now c.in_ok-rest.rest.now c.in_ok-rest.ensures c.in-len1-up.len_at_least
