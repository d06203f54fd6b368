use Rattle.std.proofs.Common.{◌≡◌, ◌∙◌, ◌<◌, length, if◌then◌else◌, set, ap, arith}
use Rattle.std.proofs.lemmas.List.Edits.{map_over_more}
use Rattle.s2_model.specs.Placement.{Segment, contains_number, drop_file}
use Rattle.s2_slow.proofs.segments.drop_files.Goals as goal

pub loop-segment-preserved : goal.loop-segment-preserved
loop-segment-preserved c =
    let f = λ (s : Segment). if contains_number c.args.numbers.now s.number then drop_file s else s in
    let new : c.drop_file_if.new.segment ≡ f c.segment-item.result = cc in
    let lt : c.loop-segment.segment-index < length c.args.segments.now = omega arith in
    ap (set c.loop-segment.segments c.loop-segment.segment-index) new
    ∙ map_over_more f c.args.segments.now c.loop-segment.segments c.loop-segment.segment-index c.segment-item.result lt c.loop-segment.invariant c.segment-item.is
