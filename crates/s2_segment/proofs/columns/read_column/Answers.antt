use Rattle.s2_segment.proofs.Again.{column_judged}
use Rattle.s2_segment.proofs.columns.read_column.Goals as goal

pub column_in-requires : goal.column_in-requires
column_in-requires c = λ judged. column_judged c.args.n c.args.c c.args.kind c.args.bytes.now (c.in_ok-block.block.now, c.in_ok-block.rest.now) c.in_ok-block.ensures (c.requires judged)
