use Rattle.std.proofs.Common.{◌≡◌, ℕ, List, All, true, sym, subst, rules}
use Rattle.std.specs.BTreeMap.{BTreeMap}
use Rattle.std.proofs.lemmas.List.{take_at}
use Rattle.s2_value.specs.declared.values.Value.{Value}
use Rattle.s2_rowstore.specs.Keys.{KeepsNotes}
use Rattle.s2_rowstore.specs.Numbers.{is_among}
use Rattle.s2_rowstore.specs.Prepared.{IsReady}
use Rattle.s2_rowstore.specs.Store.{IsKept}
use Rattle.s2_rowstore.proofs.Prepared.{room_from, ready_rooms}
use Rattle.s2_rowstore.proofs.Put.{posted_more, posted_begun, listed_begun, listed_same}
use Rattle.s2_rowstore.proofs.Ended.{queued_begun, queued_same}
use Rattle.s2_rowstore.proofs.Stands.{still_begun, still_same}
use Rattle.s2_rowstore.proofs.store.Rowstore.place.Goals as goal

pub begin_all-requires-clause-room : goal.begin_all-requires-clause-room
begin_all-requires-clause-room c =
    let Q : List (ℕ × List Value) → Type 0 = λ rows. All (IsReady c.self.inside.schema c.ready_rows.new.notes c.ready_rows.new.lines.entries) rows in
    room_from 1 _ c.args.rows.items (ready_rooms c.self.inside.schema c.ready_rows.new.notes _ _ (subst Q c.as_slice-2.ensures.value c.in_ok-ready_rows.ensures.ready))

pub invariant_of-self-2 : goal.invariant_of-self-2
invariant_of-self-2 c =
    let schema = c.self.inside.schema in
    let old = c.self.inside.lines.entries in
    let mid = c.ready_rows.new.lines.entries in
    let new = c.begin_all.new.lines.entries in
    let notes = c.ready_rows.new.notes in
    let present = c.list_rows.new.ids in
    let P : List (BTreeMap (List Value) (List ℕ)) → Type 0 = λ ns. IsKept schema ns c.self.inside.changed.items present c.list_rows.new.ends new in
    let K : List (BTreeMap (List Value) (List ℕ)) → Type 0 = λ ns. KeepsNotes ns notes in
    let Q : List (ℕ × List Value) → Type 0 = λ rows. All (IsReady schema notes mid) rows in
    let ready = subst Q c.as_slice-2.ensures.value c.in_ok-ready_rows.ensures.ready in
    let N : List (ℕ × List Value) → Type 0 = λ rows. All (λ p. is_among present p.0 ≡ true) rows in
    let named = subst N c.as_slice.ensures.value c.in_ok-list_rows.ensures.added in
    let more = subst K c.as_mut_slice-notes.ensures.value c.ready_rows.ensures.notes in
    let kept : P notes = record {
      keys = search rules;
      actors = c.self.invariant.actors;
      posted = posted_begun schema notes mid new c.args.time c.args.rows.items c.begin_all.ensures ready (posted_more schema c.self.inside.notes.items notes old mid c.ready_rows.ensures.same more c.self.invariant.posted);
      listed = listed_begun c.self.inside.changed.items mid new c.args.time c.args.rows.items c.begin_all.ensures (listed_same c.self.inside.changed.items old mid c.ready_rows.ensures.same c.self.invariant.listed);
      queued = queued_begun c.list_rows.new.ends mid new c.args.time c.args.rows.items c.begin_all.ensures (queued_same c.self.inside.ends c.list_rows.new.ends old mid c.list_rows.ensures.ends c.ready_rows.ensures.same c.self.invariant.queued);
      present = still_begun present mid new c.args.time c.args.rows.items c.begin_all.ensures named (still_same c.self.inside.present present old mid c.list_rows.ensures.kept c.ready_rows.ensures.same c.self.invariant.present);
    } in
    subst P (sym (take_at notes _ _ (search rules))) kept
