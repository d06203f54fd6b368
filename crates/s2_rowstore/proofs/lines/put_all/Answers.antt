use Rattle.std.proofs.Common.{◌∙◌, refl, sym, ap}
use Rattle.s2_rowstore.specs.Lines.{with_slot, are_apart}
use Rattle.s2_rowstore.proofs.Steps.{pair_done, room_left, both}
use Rattle.s2_rowstore.proofs.TakenBack.{put_more}
use Rattle.s2_rowstore.proofs.lines.put_all.Goals as goal

pub loop-id-preserved : goal.loop-id-preserved
loop-id-preserved c =
    let step = c.in-Some.ensures.steps.0 in
    let apart = c.loop-id.invariant.2 in (
      tt,
      tt,
      (both _ _ (sym (ap are_apart step) ∙ apart)).1,
      room_left 0 _ _ (c.in-Some.id, c.in-Some.change) _ _ step apart (λ n e. c.put_line.ensures.room n) c.loop-id.invariant.3,
      pair_done (with_slot c.args.actor) (λ b. refl) (c.in-Some.id, c.in-Some.change) _ _ step apart _ _ _ c.put_line.ensures.same c.loop-id.invariant.4,
      put_more c.args.schema.now c.args.actor c.in-Some.id c.in-Some.change _ _ c.loop-id.lines.entries c.put_line.new.lines.entries _ _ _ _ c.loop-id.invariant.5 step apart c.put_line.ensures.same c.loop-id.invariant.4 c.put_line.ensures.notes,
    )
