use Rattle.std.proofs.Common.{◌≡◌, length}
use Rattle.s2_segindex.specs.Reading.{rest_of}
use Rattle.s2_segindex.specs.Blocks.{key_at}
use Rattle.s2_segindex.proofs.keys.split_key.Given as goal

abbrev pub invariant-loop-kinds : goal.invariant-loop-kinds
invariant-loop-kinds l = rest_of (key_at l.kinds l.rest) ≡ rest_of (key_at l.initial.kinds l.initial.rest)

abbrev pub decreases-loop-kinds : goal.decreases-loop-kinds
decreases-loop-kinds l = length l.kinds
