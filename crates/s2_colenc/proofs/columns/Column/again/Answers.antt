use Rattle.s2_colenc.proofs.Readings.{column_read}
use Rattle.s2_colenc.proofs.columns.Column.again.Goals as goal

pub invariant_of-result : goal.invariant_of-result
invariant_of-result c = (column_read c.args.kind c.args.n c.args.bytes.now c.in-Ok.body c.in-Ok.ensures).whole

pub returns-clause-count : goal.returns-clause-count
returns-clause-count c = (column_read c.args.kind c.args.n c.args.bytes.now c.in-Ok.body c.in-Ok.ensures).many
