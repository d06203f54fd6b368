use Rattle.std.proofs.Common.{◌/◌, ◌%◌, eqb, ap, get_or}
use Rattle.std.proofs.lemmas.Nat.Bits.{shr_and_one}
use Rattle.s2_bits.specs.Bits.{is_set_at}
use Rattle.s2_bits.proofs.words.is_set.Goals as goal

pub returns : goal.returns
unfolding is_set_at
returns c =
    ap (λ n. eqb n 1) (shr_and_one (get_or c.args.words.now (c.args.i / 64) 0) (c.args.i % 64))
