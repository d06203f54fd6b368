use Rattle.s2_token.proofs.Printed.{printed_lexed}
use Rattle.s2_token.proofs.printing.printed_tokens_are_lexed.Goals as goal

pub returns : goal.returns
returns c = printed_lexed
