use Rattle.std.proofs.Common.{length, take}
use Rattle.s2_segindex.specs.Places.{groups_in}
use Rattle.s2_segment.proofs.Matched.{Seen}
use Rattle.s2_segment.proofs.matching.are_matched.Given as goal

abbrev pub invariant-loop-i : goal.invariant-loop-i
invariant-loop-i l = Seen l.rows l.places (take l.i (groups_in (length l.places) l.bytes)) l.left
