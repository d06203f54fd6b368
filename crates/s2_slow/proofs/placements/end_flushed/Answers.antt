use Rattle.std.proofs.Common.{◌≡◌, ◌∙◌, ap}
use Rattle.s2_model.specs.Placement.{Segment, contains_number, free_ids, ended}
use Rattle.s2_slow.proofs.placements.end_flushed.Goals as goal

pub returns : goal.returns
returns c =
    let spots = c.deref.ensures.value ∙ ap (λ (s : Segment). s.spots) c.segment.view_is in
    let ids : c.deref-2.result.now ≡ free_ids c.args.segment.now.spots = c.deref-2.ensures.value ∙ c.in_ok-ids.ensures ∙ ap free_ids spots in
    c.end_numbered.ensures ∙ ap (λ ns. ended c.args.t (contains_number ns) c.args.versions.now) ids
