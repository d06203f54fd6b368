use Rattle.std.proofs.Common.{◌∙◌, ℕ, List, Option, subst, arith, slice_index_or, below_more}
use Rattle.s2_value.specs.declared.values.Value.{Value}
use Rattle.s2_rowstore.specs.Prepared.{IsReadyChange}
use Rattle.s2_rowstore.proofs.Prepared.{change_stays, same_default, above_none}
use Rattle.s2_rowstore.proofs.ready.ready_changes.Goals as goal

pub loop-id-preserved : goal.loop-id-preserved
loop-id-preserved c =
    let schema = c.args.schema.now in
    let Q : ℕ × Option (List Value) → Type 0 = λ p. IsReadyChange schema c.ready_line.new.notes c.ready_line.new.lines.entries c.add_id.new.ids.keys p in
    let P : ℕ → Type 0 = λ k. (d : ℕ × Option (List Value)) → Q (slice_index_or c.args.changes.now k d) in
    let here : Q c.loop-id-item.result = record {
      room = above_none _ c.in_ok-ready_line.ensures.room;
      noted = λ row e. c.in_ok-ready_line.ensures.noted row (c.as_ref.ensures.value ∙ e);
      listed = c.in_ok-add_id.ensures.added;
    } in (
      λ n. c.ready_line.ensures.same n ∙ c.loop-id.invariant.0 n,
      λ j q n e. c.ready_line.ensures.notes j q n (c.loop-id.invariant.1 j q n e),
      λ n e. c.add_id.ensures.kept n (c.loop-id.invariant.2 n e),
      below_more P c.loop-id.id-index (λ k lt d. change_stays schema c.loop-id.notes _ c.loop-id.lines.entries _ c.loop-id.ids.keys _ _ c.ready_line.ensures.notes c.ready_line.ensures.kept c.add_id.ensures.kept (c.loop-id.invariant.3 k lt d))
          (λ d. subst Q (same_default c.args.changes.now c.loop-id.id-index _ d (omega arith) c.loop-id-item.is) here),
    )

pub returns-clause-ready : goal.returns-clause-ready
returns-clause-ready c k d lt = c.loop-id.invariant.3 k (omega arith) d
