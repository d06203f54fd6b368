use Rattle.s2_token.proofs.Longest.{is, only}
use Rattle.s2_token.proofs.laws.each_token_is_the_longest.Goals as goal

pub returns-clause-is : goal.returns-clause-is
returns-clause-is c = is

pub returns-clause-only : goal.returns-clause-only
returns-clause-only c = only
