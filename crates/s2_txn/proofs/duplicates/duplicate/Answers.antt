use Rattle.std.proofs.Common.{ℕ, List, Option, ◌∙◌, sym, arith}
use Rattle.s2_model.specs.declared.replies.Refusal.{Refusal}
use Rattle.s2_model.specs.Table.{apply}
use Rattle.s2_model.specs.History.{view}
use Rattle.s2_model.specs.Verdict.{first_some, duplicate_at}
use Rattle.s2_state.specs.States.{history_of}
use Rattle.s2_txn.proofs.SharedValues.{key_stays, key_absent}
use Rattle.s2_txn.proofs.duplicates.duplicate.Goals as goal

pub returns-then-is_some : goal.returns-then-is_some
returns-then-is_some c =
    let s = c.args.s.now in
    let F : ℕ → List ℕ → Option Refusal = λ i key. first_some (duplicate_at (apply (view (history_of s) c.args.actor) c.args.changes.now) i key) c.args.changes.now in
    key_stays F s.schema.uniques c.loop-j.j c.in_ok-found.found (omega (arith, c.unique_keys-count.ensures.count)) c.in_ok-found.ensures (sym c.if-is_some.ensures)
    ∙ c.loop-j.invariant.same

pub loop-j-preserved : goal.loop-j-preserved
loop-j-preserved c =
    let s = c.args.s.now in
    let F : ℕ → List ℕ → Option Refusal = λ i key. first_some (duplicate_at (apply (view (history_of s) c.args.actor) c.args.changes.now) i key) c.args.changes.now in
    record {
      within = omega arith;
      same =
          key_absent F s.schema.uniques c.loop-j.j c.in_ok-found.found (omega (arith, c.unique_keys-count.ensures.count)) c.in_ok-found.ensures (sym c.if-is_some.ensures)
          ∙ c.loop-j.invariant.same;
    }
