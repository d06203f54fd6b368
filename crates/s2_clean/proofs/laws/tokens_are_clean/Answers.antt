-- By the bytes of each token.
use Rattle.s2_clean.proofs.Tokens.{clean}
use Rattle.s2_clean.proofs.laws.tokens_are_clean.Goals as goal

pub returns : goal.returns
returns c = clean
