use Rattle.std.proofs.Common.{sym, ◌∙◌}
use Rattle.s2_txn.proofs.Settled.{early_says}
use Rattle.s2_txn.proofs.writes.settle.Goals as goal

pub returns-in-Some-clause-says : goal.returns-in-Some-clause-says
returns-in-Some-clause-says c =
    early_says c.args.s.now c.args.actor c.args.stmt c.in-Some.refusal c.requires.write (sym c.writing_refusal.ensures ∙ c.in-Some.is)
