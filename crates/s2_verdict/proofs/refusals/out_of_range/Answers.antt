use Rattle.s2_verdict.proofs.refusals.out_of_range.Goals as goal

pub returns-in-Update : goal.returns-in-Update
returns-in-Update c = rw c.in-Update.is c.first_out_of_range.ensures
