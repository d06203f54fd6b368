use Rattle.std.proofs.Common.{◌≡◌, take}
use Rattle.s2_model.specs.History.{history, own}
use Rattle.s2_legal.proofs.replies.is_quiet.Given as goal

abbrev pub invariant-loop-i : goal.invariant-loop-i
invariant-loop-i l = own l.k (history (take l.i l.h)) ≡ own l.k (history (take l.from l.h))
