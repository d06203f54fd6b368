use Rattle.std.proofs.Common.{◌∙◌, refl, sym, ap}
use Rattle.s2_rowstore.specs.Lines.{with_begun, are_apart}
use Rattle.s2_rowstore.proofs.Steps.{pair_done, room_left, both}
use Rattle.s2_rowstore.proofs.lines.begin_all.Goals as goal

pub loop-id-preserved : goal.loop-id-preserved
loop-id-preserved c =
    let step = c.in-Some.ensures.steps.0 in
    let apart = c.loop-id.invariant.2 in (
      tt,
      tt,
      (both _ _ (sym (ap are_apart step) ∙ apart)).1,
      room_left 1 _ _ (c.in-Some.id, c.in-Some.row) _ _ step apart c.begin_line.ensures.room c.loop-id.invariant.3,
      pair_done (with_begun c.args.time) (λ b. refl) (c.in-Some.id, c.in-Some.row) _ _ step apart _ _ _ c.begin_line.ensures.same c.loop-id.invariant.4,
    )
