use Rattle.std.proofs.Common.{◌≡◌, ◌+◌, ◌++◌, length}
use Rattle.std.specs.Vec.Iter.{into_iter_items, into_iter_len}
use Rattle.s2_drive.specs.Dealt.{spoken_from}
use Rattle.s2_drive.proofs.replies.transcripts.Given as goal

abbrev pub invariant-loop-said : goal.invariant-loop-said
invariant-loop-said l = record {
  made : l.transcripts ++ spoken_from l.session (into_iter_items l.left) ≡ spoken_from 1 l.fn.replies.items;
  numbers : l.session + length (into_iter_items l.left) ≡ 1 + length l.fn.replies.items;
  count : into_iter_len l.left ≡ length (into_iter_items l.left);
}

abbrev pub decreases-loop-said : goal.decreases-loop-said
decreases-loop-said l = length (into_iter_items l.left)
