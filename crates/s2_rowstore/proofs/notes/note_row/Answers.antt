use Rattle.std.proofs.Common.{◌≡◌, ℕ, List, true, subst, below_more}
use Rattle.s2_value.specs.declared.values.Value.{Value}
use Rattle.s2_value.specs.Schemas.{key}
use Rattle.s2_rowstore.specs.Keys.{noted_at}
use Rattle.s2_rowstore.proofs.notes.note_row.Goals as goal

pub loop-j-preserved : goal.loop-j-preserved
loop-j-preserved c =
    let P : ℕ → Type 0 = λ i. noted_at c.note_at.new.notes i (key c.args.schema.now i c.args.row.now) c.args.id ≡ true in
    let Q : List Value → Type 0 = λ k. noted_at c.note_at.new.notes c.loop-j.j k c.args.id ≡ true in (
      λ i q n e. c.note_at.ensures.kept i q n (c.loop-j.invariant.0 i q n e),
      below_more P c.loop-j.j (λ i lt. c.note_at.ensures.kept i _ _ (c.loop-j.invariant.1 i lt)) (subst Q c.in_ok-key.ensures c.in_ok-note_at.ensures.added),
    )
