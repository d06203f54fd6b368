use Rattle.std.proofs.Common.{◌∙◌, ℕ, List, refl, subst, arith, slice_index_or, below_more}
use Rattle.s2_value.specs.declared.values.Value.{Value}
use Rattle.s2_rowstore.specs.Prepared.{IsReady}
use Rattle.s2_rowstore.proofs.Prepared.{ready_stays, same_default, above_one}
use Rattle.s2_rowstore.proofs.ready.ready_rows.Goals as goal

pub loop-id-preserved : goal.loop-id-preserved
loop-id-preserved c =
    let schema = c.args.schema.now in
    let Q : ℕ × List Value → Type 0 = λ p. IsReady schema c.ready_line.new.notes c.ready_line.new.lines.entries p in
    let P : ℕ → Type 0 = λ k. (d : ℕ × List Value) → Q (slice_index_or c.args.rows.now k d) in
    let here : Q c.loop-id-item.result = record { room = above_one _ c.in_ok-ready_line.ensures.room; noted = c.in_ok-ready_line.ensures.noted _ refl } in (
      λ n. c.ready_line.ensures.same n ∙ c.loop-id.invariant.0 n,
      λ j q n e. c.ready_line.ensures.notes j q n (c.loop-id.invariant.1 j q n e),
      below_more P c.loop-id.id-index (λ k lt d. ready_stays schema c.loop-id.notes _ c.loop-id.lines.entries _ _ c.ready_line.ensures.notes c.ready_line.ensures.kept (c.loop-id.invariant.2 k lt d))
          (λ d. subst Q (same_default c.args.rows.now c.loop-id.id-index _ d (omega arith) c.loop-id-item.is) here),
    )

pub returns-clause-ready : goal.returns-clause-ready
returns-clause-ready c k d lt = c.loop-id.invariant.2 k (omega arith) d
