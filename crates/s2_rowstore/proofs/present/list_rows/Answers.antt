use Rattle.std.proofs.Common.{arith}
use Rattle.s2_rowstore.proofs.Stands.{listed_more, listed_all}
use Rattle.s2_rowstore.proofs.present.list_rows.Goals as goal

pub loop-id-preserved : goal.loop-id-preserved
loop-id-preserved g c = (
  λ n e. c.insert.ensures.kept n (c.loop-id.invariant.0 n e),
  listed_more c.args.rows.now c.loop-id.id-index _ _ _ (omega arith) c.insert.ensures.kept c.loop-id.invariant.1 c.loop-id-item.is c.in_ok-insert.ensures.added,
)

pub returns-clause-added : goal.returns-clause-added
returns-clause-added g c = listed_all c.args.rows.now _ c.loop-id.id-index (omega arith) c.loop-id.invariant.1
