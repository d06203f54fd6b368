use Rattle.std.proofs.Common.{◌≡◌, ◌∙◌, ◌<◌, length, ◌==◌, if◌then◌else◌, set, ap, arith}
use Rattle.std.proofs.lemmas.List.Edits.{map_over_more}
use Rattle.s2_model.specs.Placement.{Segment, store_segment}
use Rattle.s2_slow.proofs.segments.store_segments.Goals as goal

pub loop-segment-preserved : goal.loop-segment-preserved
loop-segment-preserved c =
    let f = λ (s : Segment). if s.number == c.args.number then store_segment s else s in
    let new : c.store_if.new.segment ≡ f c.segment-item.result = cc in
    let lt : c.loop-segment.segment-index < length c.args.segments.now = omega arith in
    ap (set c.loop-segment.segments c.loop-segment.segment-index) new
    ∙ map_over_more f c.args.segments.now c.loop-segment.segments c.loop-segment.segment-index c.segment-item.result lt c.loop-segment.invariant c.segment-item.is
