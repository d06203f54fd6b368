use Rattle.std.proofs.Common.{◌∙◌, ℕ, List, sym, ap, subst, rules, Option, slice_set}
use Rattle.std.specs.BTreeMap.{BTreeMap}
use Rattle.std.proofs.lemmas.List.{take_at}
use Rattle.s2_value.specs.declared.values.Value.{Value}
use Rattle.s2_rowstore.specs.declared.chain.Slot.{Slot}
use Rattle.s2_rowstore.specs.Chains.{Body}
use Rattle.s2_rowstore.specs.Keys.{body_has}
use Rattle.s2_rowstore.specs.Lines.{body_at}
use Rattle.s2_rowstore.specs.Store.{IsKept, KeepsHad}
use Rattle.s2_rowstore.proofs.Kept.{listed_here, actors_stay, has_undone, posted_as, still_listed}
use Rattle.s2_rowstore.proofs.Ended.{queued_undone}
use Rattle.s2_rowstore.proofs.Stands.{still_undone}
use Rattle.s2_rowstore.proofs.TakenBack.{posted_had}
use Rattle.s2_rowstore.proofs.store.Rowstore.undo.Goals as goal

pub undo_all-requires-clause-listed : goal.undo_all-requires-clause-listed
undo_all-requires-clause-listed c n e =
    listed_here c.self.inside.changed.items c.self.inside.lines.entries c.args.actor n _ c.index_mut-ids.ensures.value c.requires c.self.invariant.actors c.self.invariant.listed e

pub invariant_of-self : goal.invariant_of-self
invariant_of-self c =
    let slot_of : Body → Option Slot = λ b. b.1 in
    let schema = c.self.inside.schema in
    let old = c.self.inside.lines.entries in
    let new = c.undo_all.new.lines.entries in
    let notes = c.undo_all.new.notes in
    let P : List (BTreeMap (List Value) (List ℕ)) → Type 0 = λ ns. IsKept schema ns (slice_set c.self.inside.changed.items c.args.actor c.clear.new.self) c.drop_all_absent.new.ids c.self.inside.ends new in
    let K : List (BTreeMap (List Value) (List ℕ)) → Type 0 = λ ns. KeepsHad schema (body_at new) ns notes in
    let had = subst K c.as_mut_slice-notes.ensures.value c.undo_all.ensures.notes in
    let kept : P notes = record {
      keys = search rules;
      actors = actors_stay c.self.inside.changed.items c.args.actor c.clear.new.self c.self.invariant.actors;
      posted = posted_had schema c.self.inside.notes.items notes new had (posted_as schema c.self.inside.notes.items old new (λ places q n e. has_undone places q c.args.actor _ (sym (ap (body_has places q) (c.undo_all.ensures.after n)) ∙ e)) c.self.invariant.posted);
      listed = still_listed c.self.inside.changed.items c.args.actor c.clear.new.self old new (λ n. ap slot_of (c.undo_all.ensures.after n)) c.self.invariant.listed;
      queued = queued_undone c.self.inside.ends old new c.args.actor c.undo_all.ensures.after c.self.invariant.queued;
      present = c.drop_all_absent.ensures (still_undone c.self.inside.present old new c.args.actor c.undo_all.ensures.after c.self.invariant.present);
    } in
    subst P (sym (take_at notes _ _ (search rules))) kept
