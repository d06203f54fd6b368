use Rattle.s2_check.proofs.Wholes.{whole_output, built_output}
use Rattle.s2_check.proofs.laws.outputs_are_whole.Goals as goal

pub returns-clause-whole : goal.returns-clause-whole
returns-clause-whole c = whole_output

pub returns-clause-built : goal.returns-clause-built
returns-clause-built c = built_output
