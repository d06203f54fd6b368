use Rattle.std.proofs.Common.{◌≡◌, ◌++◌, take, drop}
use Rattle.s2_model.specs.Placement.{died_at}
use Rattle.s2_slow.proofs.segments.end_segments.Given as goal

abbrev pub invariant-loop-segment : goal.invariant-loop-segment
invariant-loop-segment l = l.segments ≡ died_at l.t l.numbers (take l.segment-index l.fn.segments) ++ drop l.segment-index l.fn.segments
