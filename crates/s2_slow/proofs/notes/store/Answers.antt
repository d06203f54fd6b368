use Rattle.std.proofs.Common.{◌≡◌, ◌∙◌, ◌+◌, ℕ, true, false, arith}
use Rattle.std.specs.Prelude.{◌||◌}
use Rattle.std.specs.List.{list_any}
use Rattle.s2_model.specs.Placement.{lives}
use Rattle.s2_model.specs.Fits.{puts}
use Rattle.s2_slow.proofs.SlowNotes.{filter_range_kept, filter_range_dropped}
use Rattle.s2_slow.proofs.notes.store.Goals as goal
use Rattle.s2_slow.proofs.notes.store.Goals.{then-is_row_stored+in_ok-push, else-is_row_stored}

pub loop-below-preserved : goal.loop-below-preserved
loop-below-preserved c =
    let p = λ (n : ℕ). lives c.args.versions.now n || list_any (λ cs. list_any (λ d. puts d n) cs) c.args.writes.now in
    let number = c.loop-below.below + 1 in
    let at : number ≡ 1 + c.loop-below.below = omega arith in
    elim c.if-is_row_stored.branch [
      | then-is_row_stored+in_ok-push w ↦
          let holds : p number ≡ true = cc in
          let push : c.if-is_row_stored.ids.items ≡ w.push.new.self.items = rw w.ids-is in
          filter_range_kept p 1 c.loop-below.below number _ _ (push ∙ w.in_ok-push.ensures.items) c.loop-below.invariant at holds
      | else-is_row_stored w ↦
          let fails : p number ≡ false = cc in
          let same : c.if-is_row_stored.ids.items ≡ c.loop-below.ids.items = rw w.ids-is in
          same ∙ filter_range_dropped p 1 c.loop-below.below number _ c.loop-below.invariant at fails
    ]
