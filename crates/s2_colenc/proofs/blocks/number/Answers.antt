use Rattle.s2_colenc.proofs.Numbering.{codes_are, few_all}
use Rattle.s2_colenc.proofs.blocks.number.Goals as goal

pub returns-clause-codes : goal.returns-clause-codes
returns-clause-codes c = codes_are c.in_ok-numbered.numbered.dict c.args.vals.now c.in_ok-numbered.numbered.codes c.in_ok-numbered.ensures.dict c.in_ok-numbered.ensures.codes c.in_ok-numbered.ensures.below

pub returns-clause-few : goal.returns-clause-few
returns-clause-few c =
    let few = few_all c.args.vals.now in
    rw c.in_ok-numbered.ensures.dict few
