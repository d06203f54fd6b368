use Rattle.s2_legal.proofs.verdicts.out_of_range.Goals as goal

pub returns-in-Update-clause-first : goal.returns-in-Update-clause-first
returns-in-Update-clause-first c = rw c.in-Update.is c.first_out_of_range.ensures.first
