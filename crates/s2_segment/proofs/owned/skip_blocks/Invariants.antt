use Rattle.std.proofs.Common.{◌≡◌}
use Rattle.s2_segment.specs.Skips.{after_blocks}
use Rattle.s2_segment.proofs.owned.skip_blocks.Given as goal

abbrev pub invariant-loop-left : goal.invariant-loop-left
invariant-loop-left l = after_blocks l.left l.rest ≡ after_blocks l.count l.initial.rest

abbrev pub decreases-loop-left : goal.decreases-loop-left
decreases-loop-left l = l.left
