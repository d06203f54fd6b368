use Rattle.std.proofs.Common.{◌≡◌, ℕ, List, Option, All, true, sym, subst, rules, slice_set}
use Rattle.std.specs.BTreeMap.{BTreeMap}
use Rattle.std.proofs.lemmas.List.{take_at}
use Rattle.s2_value.specs.declared.values.Value.{Value}
use Rattle.s2_rowstore.specs.Lines.{body_at, for_row, with_slot, have_room}
use Rattle.s2_rowstore.specs.Keys.{KeepsNotes}
use Rattle.s2_rowstore.specs.Numbers.{is_among}
use Rattle.s2_rowstore.specs.Prepared.{IsReadyChange}
use Rattle.s2_rowstore.specs.Store.{IsKept, KeepsHad}
use Rattle.s2_rowstore.proofs.Kept.{actors_stay}
use Rattle.s2_rowstore.proofs.Prepared.{room_from, change_rooms}
use Rattle.s2_rowstore.proofs.Put.{posted_more, posted_put, listed_put, listed_more, listed_same}
use Rattle.s2_rowstore.proofs.Ended.{queued_put, queued_same}
use Rattle.s2_rowstore.proofs.Stands.{still_put, still_same}
use Rattle.s2_rowstore.proofs.TakenBack.{posted_had, had_as}
use Rattle.s2_rowstore.proofs.store.Rowstore.put_slots.Goals as goal

pub put_all-requires-clause-room : goal.put_all-requires-clause-room
put_all-requires-clause-room c =
    let Q : List (ℕ × Option (List Value)) → Type 0 = λ changes. All (IsReadyChange c.self.inside.schema c.ready_changes.new.notes c.ready_changes.new.lines.entries c.ready_changes.new.ids.keys) changes in
    let R : List (ℕ × Option (List Value)) → Type 0 = λ changes. have_room 0 c.ready_changes.new.lines.entries changes ≡ true in
    subst R (sym c.in_ok-changes.ensures) (room_from 0 _ c.args.changes.items (change_rooms c.self.inside.schema c.ready_changes.new.notes _ _ _ (subst Q c.as_slice-2.ensures.value c.in_ok-ready_changes.ensures.ready)))

pub invariant_of-self-in_err-ready_changes : goal.invariant_of-self-in_err-ready_changes
invariant_of-self-in_err-ready_changes c =
    let schema = c.self.inside.schema in
    let old = c.self.inside.lines.entries in
    let mid = c.ready_changes.new.lines.entries in
    let notes = c.ready_changes.new.notes in
    let ids = c.ready_changes.new.ids in
    let present = c.list_rows.new.ids in
    let P : List (BTreeMap (List Value) (List ℕ)) → Type 0 = λ ns. IsKept schema ns (slice_set c.self.inside.changed.items c.args.actor ids) present c.list_rows.new.ends mid in
    let K : List (BTreeMap (List Value) (List ℕ)) → Type 0 = λ ns. KeepsNotes ns notes in
    let more = subst K c.as_mut_slice-notes.ensures.value c.ready_changes.ensures.notes in
    let kept : P notes = record {
      keys = search rules;
      actors = actors_stay c.self.inside.changed.items c.args.actor ids c.self.invariant.actors;
      posted = posted_more schema c.self.inside.notes.items notes old mid c.ready_changes.ensures.same more c.self.invariant.posted;
      listed = listed_more c.self.inside.changed.items c.args.actor c.index_mut-ids.result.now ids old mid c.requires.actor c.self.invariant.actors c.index_mut-ids.ensures.value c.ready_changes.ensures.ids c.ready_changes.ensures.same c.self.invariant.listed;
      queued = queued_same c.self.inside.ends c.list_rows.new.ends old mid c.list_rows.ensures.ends c.ready_changes.ensures.same c.self.invariant.queued;
      present = still_same c.self.inside.present present old mid c.list_rows.ensures.kept c.ready_changes.ensures.same c.self.invariant.present;
    } in
    subst P (sym (take_at notes _ _ (search rules))) kept

pub invariant_of-self-in_err-changes : goal.invariant_of-self-in_err-changes
invariant_of-self-in_err-changes c =
    let schema = c.self.inside.schema in
    let old = c.self.inside.lines.entries in
    let mid = c.ready_changes.new.lines.entries in
    let notes = c.ready_changes.new.notes in
    let ids = c.ready_changes.new.ids in
    let present = c.list_rows.new.ids in
    let P : List (BTreeMap (List Value) (List ℕ)) → Type 0 = λ ns. IsKept schema ns (slice_set c.self.inside.changed.items c.args.actor ids) present c.list_rows.new.ends mid in
    let K : List (BTreeMap (List Value) (List ℕ)) → Type 0 = λ ns. KeepsNotes ns notes in
    let more = subst K c.as_mut_slice-notes.ensures.value c.ready_changes.ensures.notes in
    let kept : P notes = record {
      keys = search rules;
      actors = actors_stay c.self.inside.changed.items c.args.actor ids c.self.invariant.actors;
      posted = posted_more schema c.self.inside.notes.items notes old mid c.ready_changes.ensures.same more c.self.invariant.posted;
      listed = listed_more c.self.inside.changed.items c.args.actor c.index_mut-ids.result.now ids old mid c.requires.actor c.self.invariant.actors c.index_mut-ids.ensures.value c.ready_changes.ensures.ids c.ready_changes.ensures.same c.self.invariant.listed;
      queued = queued_same c.self.inside.ends c.list_rows.new.ends old mid c.list_rows.ensures.ends c.ready_changes.ensures.same c.self.invariant.queued;
      present = still_same c.self.inside.present present old mid c.list_rows.ensures.kept c.ready_changes.ensures.same c.self.invariant.present;
    } in
    subst P (sym (take_at notes _ _ (search rules))) kept

pub invariant_of-self-2 : goal.invariant_of-self-2
invariant_of-self-2 c =
    let schema = c.self.inside.schema in
    let old = c.self.inside.lines.entries in
    let mid = c.ready_changes.new.lines.entries in
    let new = c.put_all.new.lines.entries in
    let notes = c.ready_changes.new.notes in
    let after = c.put_all.new.notes in
    let ids = c.ready_changes.new.ids in
    let present = c.list_rows.new.ids in
    let was = c.index_mut-ids.result.now in
    let P : List (BTreeMap (List Value) (List ℕ)) → Type 0 = λ ns. IsKept schema ns (slice_set c.self.inside.changed.items c.args.actor ids) present c.list_rows.new.ends new in
    let K : List (BTreeMap (List Value) (List ℕ)) → Type 0 = λ ns. KeepsNotes ns notes in
    let Q : List (ℕ × Option (List Value)) → Type 0 = λ changes. All (IsReadyChange schema notes mid ids.keys) changes in
    let ready = subst Q c.as_slice-2.ensures.value c.in_ok-ready_changes.ensures.ready in
    let N : List (ℕ × Option (List Value)) → Type 0 = λ changes. All (λ p. is_among present p.0 ≡ true) changes in
    let named = subst N c.as_slice.ensures.value c.in_ok-list_rows.ensures.added in
    let more = subst K c.as_mut_slice-notes.ensures.value c.ready_changes.ensures.notes in
    let A : List (ℕ × Option (List Value)) → Type 0 = λ changes. (n : ℕ) → body_at new n ≡ with_slot c.args.actor (for_row changes n) (body_at mid n) in
    let put = subst A c.in_ok-changes.ensures c.put_all.ensures.after in
    let H : List (ℕ × Option (List Value)) → Type 0 = λ changes. KeepsHad schema (λ n. with_slot c.args.actor (for_row changes n) (body_at mid n)) notes after in
    let had = subst H c.in_ok-changes.ensures c.put_all.ensures.notes in
    let kept : P after = record {
      keys = search rules;
      actors = actors_stay c.self.inside.changed.items c.args.actor ids c.self.invariant.actors;
      posted = posted_had schema notes after new (had_as schema _ (body_at new) notes after put had) (posted_put schema notes mid new ids.keys c.args.actor c.args.changes.items put ready (posted_more schema c.self.inside.notes.items notes old mid c.ready_changes.ensures.same more c.self.invariant.posted));
      listed = listed_put c.self.inside.changed.items c.args.actor was ids schema notes mid new c.args.changes.items c.requires.actor c.self.invariant.actors c.index_mut-ids.ensures.value c.ready_changes.ensures.ids put ready
          (listed_same c.self.inside.changed.items old mid c.ready_changes.ensures.same c.self.invariant.listed);
      queued = queued_put c.list_rows.new.ends mid new c.args.actor c.args.changes.items put (queued_same c.self.inside.ends c.list_rows.new.ends old mid c.list_rows.ensures.ends c.ready_changes.ensures.same c.self.invariant.queued);
      present = still_put present mid new c.args.actor c.args.changes.items put named (still_same c.self.inside.present present old mid c.list_rows.ensures.kept c.ready_changes.ensures.same c.self.invariant.present);
    } in
    subst P (sym (take_at after _ _ (search rules))) kept
