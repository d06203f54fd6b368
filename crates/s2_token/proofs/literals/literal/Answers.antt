use Rattle.s2_token.proofs.LiteralLaws.{found, none, only}
use Rattle.s2_token.proofs.literals.literal.Goals as goal

pub returns-clause-found : goal.returns-clause-found
returns-clause-found c = found c.args.tokens.now c.front.result c.front.ensures

pub returns-clause-none : goal.returns-clause-none
returns-clause-none c = none c.args.tokens.now c.front.result c.front.ensures

pub returns-clause-only : goal.returns-clause-only
returns-clause-only c = only c.args.tokens.now c.front.result c.front.ensures
