use Rattle.s2_check.proofs.Wholes.{whole_output, built_output}
use Rattle.s2_check.proofs.checking.check_outcome.Goals as goal

pub legal-requires-clause-whole : goal.legal-requires-clause-whole
legal-requires-clause-whole c = whole_output c.args.script.now c.args.run.now c.requires.text.output

pub legal-requires-clause-built : goal.legal-requires-clause-built
legal-requires-clause-built c = built_output c.args.script.now c.args.run.now c.requires.built c.requires.text.output
