use Rattle.std.proofs.Common.{get_or, arith}
use Rattle.std.proofs.lemmas.Nat.{ones-le}
use Rattle.std.proofs.lemmas.List.Sums.{sum_by_more}
use Rattle.std.specs.Prelude.{count_ones}
use Rattle.s2_bits.proofs.words.count.Goals as goal

pub loop-word-preserved : goal.loop-word-preserved
loop-word-preserved c =
    let i = c.loop-word.word-index in
    let few = ones-le 64 (get_or c.args.words.now i 0) (omega (arith, c.type_inv.words i)) in
    let more = sum_by_more count_ones c.args.words.now i 0 c.loop-word-test.true in
    (omega arith, omega arith)
