use Rattle.s2_token.proofs.Numbers.{digits_pass}
use Rattle.s2_token.proofs.lexing.number.Goals as goal

pub number_of-requires : goal.number_of-requires
number_of-requires c = rw (c.split_at.ensures.front, c.digits_len.ensures.value) (digits_pass c.args.bytes.now)
