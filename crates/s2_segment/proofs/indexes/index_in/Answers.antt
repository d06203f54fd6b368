use Rattle.std.proofs.Common.{◌≡◌, ◌∙◌, sym, ap, ℕ, arith, Ok}
use Rattle.s2_colbytes.specs.Numbers.{IsBytes}
use Rattle.s2_segment.proofs.Again.{index_again}
use Rattle.s2_segment.proofs.indexes.index_in.Goals as goal

pub again-requires : goal.again-requires
again-requires c =
    let bytes : IsBytes c.args.block.now = λ i. omega (arith, c.type_inv.block i) in
    (index_again c.args.kinds.now c.args.n c.args.block.now bytes (c.requires c.if-judged.true)).index

pub returns-then-judged : goal.returns-then-judged
returns-then-judged c =
    let bytes : IsBytes c.args.block.now = λ i. omega (arith, c.type_inv.block i) in
    (index_again c.args.kinds.now c.args.n c.args.block.now bytes (c.requires c.if-judged.true)).read ∙ ap Ok (sym c.again.ensures)
