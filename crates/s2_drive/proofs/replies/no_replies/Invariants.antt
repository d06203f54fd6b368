use Rattle.std.proofs.Common.{◌≡◌, [], replicate}
use Rattle.s2_drive.proofs.replies.no_replies.Given as goal

abbrev pub invariant-loop-i : goal.invariant-loop-i
invariant-loop-i l = l.replies.items ≡ replicate l.i []
