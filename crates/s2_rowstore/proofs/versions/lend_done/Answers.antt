use Rattle.s2_rowstore.proofs.TakenBack.{kept_set}
use Rattle.s2_rowstore.proofs.versions.lend_done.Goals as goal

pub returns : goal.returns
returns c = kept_set c.args.h c.args.versions.now c.args.i c.lend_row.new.version c.index-versions-i.result c.requires c.lend_row.ensures.stop c.lend_row.ensures.kept
