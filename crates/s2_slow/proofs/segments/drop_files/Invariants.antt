use Rattle.std.proofs.Common.{◌≡◌, ◌++◌, take, drop, map}
use Rattle.std.specs.Prelude.{if◌then◌else◌}
use Rattle.s2_model.specs.Placement.{contains_number, drop_file}
use Rattle.s2_slow.proofs.segments.drop_files.Given as goal

abbrev pub invariant-loop-segment : goal.invariant-loop-segment
invariant-loop-segment l = l.segments
    ≡ map (λ s. if contains_number l.numbers s.number then drop_file s else s) (take l.segment-index l.fn.segments) ++ drop l.segment-index l.fn.segments
