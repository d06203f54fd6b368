use Rattle.std.proofs.Common.{◌≡◌, ◌++◌, length}
use Rattle.s2_model.specs.History.{history}
use Rattle.s2_model.specs.Held.{sessions}
use Rattle.s2_verdict.specs.Holders.{others_of}
use Rattle.s2_verdict.proofs.holders.others.Given as goal

abbrev pub invariant-loop-left : goal.invariant-loop-left
invariant-loop-left l = l.others.items ++ others_of (history l.h) l.actor l.left ≡ others_of (history l.h) l.actor sessions

abbrev pub decreases-loop-left : goal.decreases-loop-left
decreases-loop-left l = length l.left
