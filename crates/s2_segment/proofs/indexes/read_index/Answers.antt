use Rattle.std.proofs.Common.{arith}
use Rattle.s2_colbytes.specs.Numbers.{IsBytes}
use Rattle.s2_segment.proofs.Again.{block_judged}
use Rattle.s2_segment.proofs.Framed.{block_spelled}
use Rattle.s2_segment.proofs.Matched.{block_read}
use Rattle.s2_segment.proofs.indexes.read_index.Goals as goal

pub index_in-requires : goal.index_in-requires
index_in-requires c = λ judged. block_judged c.args.n c.args.j c.args.kinds.now c.args.bytes.now (c.in_ok-block.block.now, c.in_ok-block.rest.now) c.in_ok-block.ensures (c.requires judged)

pub invariant_of-result : goal.invariant_of-result
invariant_of-result c =
    let bytes : IsBytes c.args.bytes.now = λ i. omega (arith, c.type_inv.bytes i) in
    let block = (block_spelled c.args.bytes.now (c.in_ok-block.block.now, c.in_ok-block.rest.now) bytes c.in_ok-block.ensures).block_bytes in
    record { block = block_read c.args.kinds.now c.args.n c.in_ok-block.block.now c.in-Ok.index block c.in-Ok.ensures }
