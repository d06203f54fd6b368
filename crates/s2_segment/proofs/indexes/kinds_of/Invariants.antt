use Rattle.std.proofs.Common.{◌≡◌, take}
use Rattle.s2_segment.specs.Parts.{kinds_of}
use Rattle.s2_segment.proofs.indexes.kinds_of.Given as goal

abbrev pub invariant-loop-place : goal.invariant-loop-place
invariant-loop-place l = l.kinds.items ≡ kinds_of l.cols (take l.place-index l.key)
