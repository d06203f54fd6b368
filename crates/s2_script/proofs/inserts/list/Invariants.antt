use Rattle.std.proofs.Common.{length}
use Rattle.s2_script.specs.Inserts.{AreRead}
use Rattle.s2_script.proofs.inserts.list.Given as goal

abbrev pub invariant-loop-items : goal.invariant-loop-items
invariant-loop-items g l = AreRead g.I.Item.words g.I.Item.Fits l.bytes l.items.items l.left

abbrev pub decreases-loop-items : goal.decreases-loop-items
decreases-loop-items g l = length l.left
