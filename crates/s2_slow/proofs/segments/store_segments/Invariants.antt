use Rattle.std.proofs.Common.{◌≡◌, ◌++◌, take, drop, map}
use Rattle.std.specs.Prelude.{◌==◌, if◌then◌else◌}
use Rattle.s2_model.specs.Placement.{store_segment}
use Rattle.s2_slow.proofs.segments.store_segments.Given as goal

abbrev pub invariant-loop-segment : goal.invariant-loop-segment
invariant-loop-segment l = l.segments
    ≡ map (λ s. if s.number == l.number then store_segment s else s) (take l.segment-index l.fn.segments) ++ drop l.segment-index l.fn.segments
