use Rattle.s2_legal.proofs.Indexes.{put_none}
use Rattle.s2_legal.proofs.index.put_back.Goals as goal

pub returns-then-is_none : goal.returns-then-is_none
returns-then-is_none c = put_none c.args.index.now c.args.value c.args.ids c.requires (c.is_none.ensures c.if-is_none.true)
