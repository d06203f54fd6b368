use Rattle.s2_rowstore.proofs.unnoted.unnote_row.Goals as goal

pub loop-j-preserved : goal.loop-j-preserved
loop-j-preserved c i q n lt was has = c.unnote_key.ensures i q n lt (c.loop-j.invariant i q n lt was has) has
