use Rattle.std.proofs.Common.{◌∙◌, ℕ, List, sym, ap, subst, rules, Option}
use Rattle.std.specs.BTreeMap.{BTreeMap}
use Rattle.std.proofs.lemmas.List.{take_at}
use Rattle.s2_value.specs.declared.values.Value.{Value}
use Rattle.s2_rowstore.specs.declared.chain.Slot.{Slot}
use Rattle.s2_rowstore.specs.Chains.{Body}
use Rattle.s2_rowstore.specs.Keys.{body_has}
use Rattle.s2_rowstore.specs.Lines.{body_at}
use Rattle.s2_rowstore.specs.Store.{IsKept, KeepsHad}
use Rattle.s2_rowstore.proofs.Kept.{has_kept, posted_as, listed_as}
use Rattle.s2_rowstore.proofs.Stands.{still_kept}
use Rattle.s2_rowstore.proofs.TakenBack.{posted_had}
use Rattle.s2_rowstore.proofs.store.Rowstore.cut.Goals as goal

pub invariant_of-self : goal.invariant_of-self
invariant_of-self c =
    let slot_of : Body → Option Slot = λ b. b.1 in
    let schema = c.self.inside.schema in
    let old = c.self.inside.lines.entries in
    let new = c.cut_rows.new.lines.entries in
    let notes = c.cut_rows.new.notes in
    let P : List (BTreeMap (List Value) (List ℕ)) → Type 0 = λ ns. IsKept schema ns c.self.inside.changed.items c.self.inside.present c.cut_rows.new.ends new in
    let K : List (BTreeMap (List Value) (List ℕ)) → Type 0 = λ ns. KeepsHad schema (body_at new) ns notes in
    let had = subst K c.as_mut_slice-notes.ensures.value c.cut_rows.ensures.notes in
    let kept : P notes = record {
      keys = search rules;
      actors = c.self.invariant.actors;
      posted = posted_had schema c.self.inside.notes.items notes new had (posted_as schema c.self.inside.notes.items old new (λ places q n e. has_kept places q c.args.h _ (sym (ap (body_has places q) (c.cut_rows.ensures.cut n)) ∙ e)) c.self.invariant.posted);
      listed = listed_as c.self.inside.changed.items old new (λ n. ap slot_of (c.cut_rows.ensures.cut n)) c.self.invariant.listed;
      queued = c.cut_rows.ensures.queued;
      present = still_kept c.self.inside.present old new c.args.h c.cut_rows.ensures.cut c.self.invariant.present;
    } in
    subst P (sym (take_at notes _ _ (search rules))) kept
