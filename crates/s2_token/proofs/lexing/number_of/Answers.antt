use Rattle.s2_token.proofs.Numbers.{one_digit}
use Rattle.s2_token.proofs.lexing.number_of.Goals as goal

pub loop-digit-preserved : goal.loop-digit-preserved
loop-digit-preserved c =
    let step = one_digit c.args.digits.now c.loop-digit.digit-index c.loop-digit-test.true (c.requires c.loop-digit.digit-index c.loop-digit-test.true) in
    rw (c.saturating_add-number.ensures, c.saturating_mul.ensures, c.from.ensures, c.loop-digit.invariant) step
