use Rattle.s2_token.specs.declared.types.Symbol.TheVariants as symbol
use Rattle.s2_token.specs.declared.types.Token.TheVariants as token
use Rattle.s2_token.specs.Literals.{literal_words}
use Rattle.s2_line.specs.Words.{listed}
use Rattle.s2_script.proofs.InsertLaws.{enclosed}
use Rattle.s2_script.proofs.inserts.tuple.Goals as goal

pub returns-clause-begins : goal.returns-clause-begins
returns-clause-begins c =
    enclosed c.args.bytes.now (token.Sign symbol.Open) c.in_ok-inside.inside.now (listed literal_words c.in_ok-literals.literals) c.in_ok-literals.rest.now (token.Sign symbol.Close) c.in_ok-left.left.now
    c.in_ok-inside.ensures c.in_ok-literals.ensures.begins c.in_ok-left.ensures
