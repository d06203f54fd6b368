use Rattle.std.proofs.Common.{◌≡◌, ◌+◌, ℕ, length, IfOk, subst, add-one}
use Rattle.s2_model.specs.declared.entries.FlushNote.{FlushNote}
use Rattle.s2_model.specs.Placement.{after_flush}
use Rattle.s2_slow.proofs.placements.place_after.Goals as goal

pub returns-in-Flush : goal.returns-in-Flush
returns-in-Flush c =
    let Made : FlushNote → ℕ → Type 0 = λ f t. IfOk c.after_flush.result (λ p. p ≡ after_flush t f c.args.before) in
    let t = length c.args.h.now in
    rw c.in-Flush.is (subst (Made c.in-Flush.note) (add-one t) (subst (λ f. Made f (t + 1)) c.get.ensures c.after_flush.ensures))
