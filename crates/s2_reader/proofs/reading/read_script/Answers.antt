-- Bytes have one outcome.
use Rattle.s2_reader.proofs.Once.{only_ok, never_err}
use Rattle.s2_reader.proofs.reading.read_script.Goals as goal

pub returns-clause-only : goal.returns-clause-only
returns-clause-only c = only_ok c.one_script.ensures c.args.bytes.now c.read.result c.read.ensures.found

pub returns-clause-refused : goal.returns-clause-refused
returns-clause-refused c = never_err c.one_outcome.ensures c.args.bytes.now c.read.result c.read.ensures.bad
