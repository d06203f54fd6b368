-- What holds of each history whose entries fit: where its rows lie, and who holds them.
use Rattle.std.proofs.Common.{◌≡◌, ℕ, suc, ◌≤◌, true, not, ◌&&◌, nat_le, length, Option, Some, None, is_some, sym, ap, subst, ◌∙◌, ⊎_elim, arith}
use Rattle.std.proofs.lemmas.Bool.{false≢true, lt-leb, cases_lt, and_parts}
use Rattle.s2_model.specs.declared.entries.Entry.{Entry}
use Rattle.s2_model.specs.Table.{RowOf, row_at, IsTable}
use Rattle.s2_model.specs.History.{History, ◌▷◌, upto, state, greatest, is_session, pin_of}
use Rattle.s2_model.specs.Held.{holds}
use Rattle.s2_model.specs.Placement.{Version, Spot, Segment, Placement, placement, lives, is_done, is_visible, is_alive, is_unmarked, is_living, is_in_use, is_free, set_at, set_mark, end_version, end_segment}
use Rattle.s2_model.specs.Fits.{last_segment}
use Rattle.s2_model.proofs.Lists.{Each}
use Rattle.s2_model.proofs.Timestamps.{upto_all, upto_past}
use Rattle.s2_model.proofs.Histories.{upto_whole}
use Rattle.s2_model.proofs.Times.{IsBy, by_more, done_set_before, done_set_now, VersionBy, SegmentBy, PlacedBy, visible_living, alive_in_use, unmarked_free, count_at, count_now, count_at_now}

-- one where there is a row, else none
abbrev pub size : Option RowOf → ℕ
size None = 0
size (Some x) = 1

-- the row that the content has for n at r
abbrev pub row_then : History → ℕ → ℕ → Option RowOf
row_then H r n = row_at (state (upto r H)) n

-- the row is the same from b to r
abbrev pub Lasts : History → ℕ → ℕ → ℕ → Type 0
Lasts H b n r = (q : ℕ) → b ≤ q → q ≤ r → row_then H q n ≡ row_then H b n

-- the version has the content's row wherever it is visible
abbrev pub VersionTells : History → Version → Type 0
VersionTells H v = (r : ℕ) → r ≤ length H → is_visible r v ≡ true → row_then H r v.id ≡ Some v.row

-- the row at the place has been the same since the segment's base, wherever the place counts
abbrev pub SpotTells : History → Segment → Spot → Type 0
SpotTells H s x = (r : ℕ) → r ≤ length H → is_alive r s ≡ true → is_unmarked r x ≡ true → Lasts H s.base x.id r

abbrev pub SegmentTells : History → Segment → Type 0
SegmentTells H s = Each (SpotTells H s) s.spots

pub record IsPlacedWell (H : History) (P : Placement) : Type 0 where
  pub by : PlacedBy (length H) P
  pub versions_tell : Each (VersionTells H) P.versions
  pub segments_tell : Each (SegmentTells H) P.segments
  pub numbers : (r n : ℕ) → P.horizon ≤ r → r ≤ length H → count_at r n P ≡ size (row_then H r n)
  pub horizon_by : P.horizon ≤ length H
  pub named : Each (λ s. s.number ≤ last_segment H) P.segments

pub record IsHeldWell (H : History) (P : Placement) : Type 0 where
  pub live : (k n : ℕ) → holds H k n ≡ true → is_some (row_at (state H) n) ≡ true → lives P.versions n ≡ true
  pub apart : (j k n : ℕ) → holds H j n ≡ true → holds H k n ≡ true → j ≡ k
  pub below : (k n : ℕ) → holds H k n ≡ true → n ≤ greatest H
  pub sessions : (k n : ℕ) → holds H k n ≡ true → is_session k ≡ true
  pub rows_below : (n : ℕ) → is_some (row_at (state H) n) ≡ true → n ≤ greatest H
  pub rising : IsTable (state H)
  pub above : (k n : ℕ) → holds H k n ≡ true → 1 ≤ n

pub record IsSound (H : History) : Type 0 where
  pub held : IsHeldWell H (placement H)
  pub placed : IsPlacedWell H (placement H)
  pub pinned : (k u : ℕ) → is_session k ≡ true → pin_of H k ≡ Some u → (placement H).horizon ≤ u

-- the content after an entry, at a timestamp before it and at its own

pub row_then_old : (H : History) (e : Entry) (r n : ℕ) → r ≤ length H → row_then (H ▷ e) r n ≡ row_then H r n
row_then_old H e r n le = ap (λ G. row_at (state G) n) (upto_past r H e le)

pub row_then_now : (H : History) (n : ℕ) → row_then H (length H) n ≡ row_at (state H) n
row_then_now H n = ap (λ G. row_at (state G) n) (upto_whole H)

-- the number of a row is placed once after all entries where there is a row, else never
pub now_from_numbers : (H : History) (P : Placement) → IsPlacedWell H P → (n : ℕ) → count_now n P ≡ size (row_at (state H) n)
now_from_numbers H P w n =
    sym (count_at_now (length H) (length H) n (omega arith) P w.by)
    ∙ w.numbers (length H) n w.horizon_by (omega arith)
    ∙ ap size (row_then_now H n)

-- a timestamp of the longer history is one before the entry, or the entry's own
pub old_or_new : (H : History) (e : Entry) (r : ℕ) → r ≤ length (H ▷ e) → (P : Type 0) → (r ≤ length H → P) → (r ≡ suc (length H) → P) → P
old_or_new H e r le P old new = ⊎_elim (λ lt. new (omega arith)) old (cases_lt (length H) r)

-- a version that stays, where the row of its number is the same as before if it is living
pub version_tells_kept : (H : History) (e : Entry) (v : Version) → VersionBy (length H) v
    → (is_living v ≡ true → row_at (state (H ▷ e)) v.id ≡ row_at (state H) v.id)
    → VersionTells H v → VersionTells (H ▷ e) v
version_tells_kept H e v by same tells r le seen =
    old_or_new H e r le (row_then (H ▷ e) r v.id ≡ Some v.row)
    (λ old. row_then_old H e r v.id old ∙ tells r old seen)
    (λ new.
    let living : is_living v ≡ true = sym (visible_living (length H) r v by (omega arith)) ∙ seen in
    let counted : is_visible (length H) v ≡ true = visible_living (length H) (length H) v by (omega arith) ∙ living in
    ap (λ G. row_at (state G) v.id) (upto_all r (H ▷ e) (omega arith))
    ∙ same living ∙ sym (row_then_now H v.id) ∙ tells (length H) (omega arith) counted)

-- a version that the entry ends
pub version_tells_ended : (H : History) (e : Entry) (v : Version) → VersionBy (length H) v
    → VersionTells H v → VersionTells (H ▷ e) (end_version (suc (length H)) v)
version_tells_ended H e v by tells r le seen =
    old_or_new H e r le (row_then (H ▷ e) r v.id ≡ Some v.row)
    (λ old.
    let before : is_visible r v ≡ true =
    sym (ap (λ d. nat_le v.begin r && not d) (done_set_before r (suc (length H)) v.stop (omega arith))) ∙ seen in
    row_then_old H e r v.id old ∙ tells r old before)
    (λ new.
    let over : is_done r (set_at (suc (length H)) v.stop) ≡ true =
    ap (λ q. is_done q (set_at (suc (length H)) v.stop)) new
    ∙ done_set_now (suc (length H)) v.stop (by_more (length H) (suc (length H)) v.stop (omega arith) by.stop) in
    let both = and_parts (nat_le v.begin r) (not (is_done r (set_at (suc (length H)) v.stop))) seen in
    absurd (false≢true (sym (ap not over) ∙ both.1)))

-- a version that the entry begins
pub version_tells_new : (H : History) (e : Entry) (v : Version) → v.begin ≡ suc (length H)
    → row_at (state (H ▷ e)) v.id ≡ Some v.row → VersionTells (H ▷ e) v
version_tells_new H e v at has r le seen =
    old_or_new H e r le (row_then (H ▷ e) r v.id ≡ Some v.row)
    (λ old.
    let both = and_parts (nat_le v.begin r) (not (is_done r v.stop)) seen in
    absurd (false≢true (sym (lt-leb v.begin r (omega (arith, at))) ∙ both.0)))
    (λ new. ap (λ G. row_at (state G) v.id) (upto_all r (H ▷ e) (omega arith)) ∙ has)

lasts_old : (H : History) (e : Entry) (b n r : ℕ) → r ≤ length H → Lasts H b n r → Lasts (H ▷ e) b n r
lasts_old H e b n r le lasts q from to =
    row_then_old H e q n (omega arith) ∙ lasts q from to ∙ sym (row_then_old H e b n (omega arith))

-- a row that the entry leaves lasts until after it
pub lasts_new : (H : History) (e : Entry) (b n : ℕ) → b ≤ length H → row_at (state (H ▷ e)) n ≡ row_at (state H) n
    → Lasts H b n (length H) → Lasts (H ▷ e) b n (suc (length H))
lasts_new H e b n le same lasts q from to =
    old_or_new H e q to (row_then (H ▷ e) q n ≡ row_then (H ▷ e) b n)
    (λ old. row_then_old H e q n old ∙ lasts q from old ∙ sym (row_then_old H e b n le))
    (λ new.
    ap (λ G. row_at (state G) n) (upto_all q (H ▷ e) (omega arith))
    ∙ same ∙ sym (row_then_now H n) ∙ lasts (length H) le (omega arith) ∙ sym (row_then_old H e b n le))

-- a place that stays, where the row of its number is the same as before if it still counts
pub spot_tells_kept : (H : History) (e : Entry) (s : Segment) (x : Spot) → SegmentBy (length H) s → IsBy (length H) x.mark
    → (is_in_use s ≡ true → is_free x ≡ true → row_at (state (H ▷ e)) x.id ≡ row_at (state H) x.id)
    → SpotTells H s x → SpotTells (H ▷ e) s x
spot_tells_kept H e s x by mark same tells r le alive unmarked =
    old_or_new H e r le (Lasts (H ▷ e) s.base x.id r)
    (λ old. lasts_old H e s.base x.id r old (tells r old alive unmarked))
    (λ new.
    let used : is_in_use s ≡ true = sym (alive_in_use (length H) r s by (omega arith)) ∙ alive in
    let free : is_free x ≡ true = sym (unmarked_free (length H) r x mark (omega arith)) ∙ unmarked in
    let counted = tells (length H) (omega arith)
    (alive_in_use (length H) (length H) s by (omega arith) ∙ used)
    (unmarked_free (length H) (length H) x mark (omega arith) ∙ free) in
    subst (λ q. Lasts (H ▷ e) s.base x.id q) (sym new)
    (lasts_new H e s.base x.id (omega (arith, by.base, by.born)) (same used free) counted))

-- a place that the entry marks
pub spot_tells_marked : (H : History) (e : Entry) (s : Segment) (x : Spot) → IsBy (length H) x.mark
    → SpotTells H s x → SpotTells (H ▷ e) s (set_mark (suc (length H)) x)
spot_tells_marked H e s x mark tells r le alive unmarked =
    old_or_new H e r le (Lasts (H ▷ e) s.base x.id r)
    (λ old. lasts_old H e s.base x.id r old
    (tells r old alive (sym (ap not (done_set_before r (suc (length H)) x.mark (omega arith))) ∙ unmarked)))
    (λ new.
    let over : is_done r (set_at (suc (length H)) x.mark) ≡ true =
    ap (λ q. is_done q (set_at (suc (length H)) x.mark)) new
    ∙ done_set_now (suc (length H)) x.mark (by_more (length H) (suc (length H)) x.mark (omega arith) mark) in
    absurd (false≢true (sym (ap not over) ∙ unmarked)))

-- a place in a segment that the entry lets die
pub spot_tells_died : (H : History) (e : Entry) (s : Segment) (x : Spot) → SegmentBy (length H) s
    → SpotTells H s x → SpotTells (H ▷ e) (end_segment (suc (length H)) s) x
spot_tells_died H e s x by tells r le alive unmarked =
    old_or_new H e r le (Lasts (H ▷ e) s.base x.id r)
    (λ old. lasts_old H e s.base x.id r old
    (tells r old
    (sym (ap (λ d. nat_le s.born r && not d) (done_set_before r (suc (length H)) s.died (omega arith))) ∙ alive)
    unmarked))
    (λ new.
    let over : is_done r (set_at (suc (length H)) s.died) ≡ true =
    ap (λ q. is_done q (set_at (suc (length H)) s.died)) new
    ∙ done_set_now (suc (length H)) s.died (by_more (length H) (suc (length H)) s.died (omega arith) by.died) in
    let both = and_parts (nat_le s.born r) (not (is_done r (set_at (suc (length H)) s.died))) alive in
    absurd (false≢true (sym (ap not over) ∙ both.1)))

-- a place in a segment that the entry bears
pub spot_tells_new : (H : History) (e : Entry) (s : Segment) (x : Spot) → s.born ≡ suc (length H)
    → (is_free x ≡ true → Lasts (H ▷ e) s.base x.id (suc (length H))) → IsBy (suc (length H)) x.mark
    → SpotTells (H ▷ e) s x
spot_tells_new H e s x born lasts mark r le alive unmarked =
    old_or_new H e r le (Lasts (H ▷ e) s.base x.id r)
    (λ old.
    let both = and_parts (nat_le s.born r) (not (is_done r s.died)) alive in
    absurd (false≢true (sym (lt-leb s.born r (omega (arith, born))) ∙ both.0)))
    (λ new.
    subst (λ q. Lasts (H ▷ e) s.base x.id q) (sym new)
    (lasts (sym (unmarked_free (suc (length H)) r x mark (omega arith)) ∙ unmarked)))

-- an entry after which the placement is P': what is to be shown of it
pub record StepOf (H : History) (e : Entry) (P P' : Placement) : Type 0 where
  pub by : PlacedBy (suc (length H)) P'
  pub versions_tell : Each (VersionTells (H ▷ e)) P'.versions
  pub segments_tell : Each (SegmentTells (H ▷ e)) P'.segments
  pub old : (r n : ℕ) → P'.horizon ≤ r → r ≤ length H → count_at r n P' ≡ count_at r n P
  pub now : (n : ℕ) → count_now n P' ≡ size (row_at (state (H ▷ e)) n)
  pub horizon_rises : P.horizon ≤ P'.horizon
  pub horizon_by : P'.horizon ≤ suc (length H)
  pub named : Each (λ s. s.number ≤ last_segment (H ▷ e)) P'.segments

pub placed_step : (H : History) (e : Entry) (P P' : Placement) → IsPlacedWell H P → StepOf H e P P' → IsPlacedWell (H ▷ e) P'
placed_step H e P P' w step = record {
  by = step.by;
  versions_tell = step.versions_tell;
  segments_tell = step.segments_tell;
  numbers = λ r n from to. old_or_new H e r to (count_at r n P' ≡ size (row_then (H ▷ e) r n))
      (λ old. step.old r n from old ∙ w.numbers r n (omega (arith, step.horizon_rises)) old ∙ ap size (sym (row_then_old H e r n old)))
      (λ new. count_at_now (suc (length H)) r n (omega arith) P' step.by ∙ step.now n
      ∙ ap (λ G. size (row_at (state G) n)) (sym (upto_all r (H ▷ e) (omega arith))));
  horizon_by = step.horizon_by;
  named = step.named;
}
