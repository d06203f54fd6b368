-- UPLOAD, EVICT and VACUUM: no row moves.
use Rattle.std.proofs.Common.{◌≡◌, ℕ, suc, ◌+◌, ◌≤◌, min, Bool, true, false, not, ◌&&◌, ◌||◌, cond, ◌==◌, nat_le, List, [], ◌∷◌, map, filter, fold, length, Option, Some, None, is_some, refl, sym, ap, ap₂, subst, ◌∙◌, arith}
use Rattle.std.proofs.lemmas.Bool.Decides.{nat_tests}
use Rattle.std.proofs.lemmas.Bool.{false≢true, eqb-true, eq-eqb}
use Rattle.s2_model.specs.declared.entries.Entry.{Entry}
use Rattle.s2_model.specs.declared.entries.What.TheVariants.{Upload, Evict, Vacuum}
use Rattle.s2_model.specs.History.{History, ◌▷◌, pin_of, is_session}
use Rattle.s2_model.specs.Held.{sessions}
use Rattle.s2_model.specs.Placement.{Version, Segment, Placement, placement, is_living, is_in_use, is_free, is_done, is_visible, is_alive, is_unmarked, contains_number, store_segment, drop_file, after_upload, after_evict, after_vacuum}
use Rattle.s2_model.specs.Fits.{last_segment, least_needed, least_pin, VacuumFits}
use Rattle.s2_model.proofs.Lists.{bit, Each, total-map, total_same, total-filter, each-map, each-filter, each_all, any_counts, counts_any}
use Rattle.s2_model.proofs.Times.{VersionBy, SegmentBy, PlacedBy, placed_by_more, segment_by_more, count_at, count_now, count_versions, count_spots}
use Rattle.s2_model.proofs.Invariant.{size, VersionTells, SegmentTells, IsPlacedWell, IsSound, placed_step, now_from_numbers}
use Rattle.s2_model.proofs.Holders.{some_session}
use Rattle.s2_model.proofs.Kept.{entry_of, SameRows, versions_kept, segments_kept, held_kept, shrinks_from, pinned_kept, pin_of_other}

-- segments of which only the flags change

abbrev flagged : (Segment → Bool) → (Segment → Bool) → Segment → Segment
flagged stored here s = record s { stored = stored s; here = here s }

-- a placement with other flags
abbrev with_flags : (Segment → Bool) → (Segment → Bool) → Placement → Placement
with_flags stored here P = record P { segments = map (flagged stored here) P.segments }

flagged_placed : (H : History) (e : Entry) (stored here : Segment → Bool) (P : Placement) → IsPlacedWell H P → SameRows H e → last_segment (H ▷ e) ≡ last_segment H
    → IsPlacedWell (H ▷ e) (with_flags stored here P)
flagged_placed H e stored here P w same last = placed_step H e P (with_flags stored here P) w (record {
  by = record {
    versions = (placed_by_more (length H) (suc (length H)) (omega arith) P w.by).versions;
    segments = each-map (SegmentBy (length H)) (SegmentBy (suc (length H))) (flagged stored here)
        (λ s b. let c = segment_by_more (length H) (suc (length H)) (omega arith) s b in
        record { base = c.base; born = c.born; died = c.died; marks = c.marks })
        P.segments w.by.segments;
  };
  versions_tell = versions_kept H e same P.versions w.by.versions w.versions_tell;
  segments_tell = each-map (SegmentTells (H ▷ e)) (SegmentTells (H ▷ e)) (flagged stored here) (λ s t. t) P.segments
      (segments_kept H e same P.segments w.by.segments w.segments_tell);
  old = λ r n from to. ap (λ m. count_versions (is_visible r) n P.versions + m)
      (total-map (λ s. cond (is_alive r s) (count_spots (is_unmarked r) n s.spots) 0) (flagged stored here) P.segments);
  now = λ n.
      ap (λ m. count_versions is_living n P.versions + m)
      (total-map (λ s. cond (is_in_use s) (count_spots is_free n s.spots) 0) (flagged stored here) P.segments)
      ∙ now_from_numbers H P w n ∙ ap size (sym (same n));
  horizon_rises = omega arith;
  horizon_by = omega (arith, w.horizon_by);
  named = each-map (λ s. s.number ≤ last_segment H) (λ s. s.number ≤ last_segment (H ▷ e)) (flagged stored here) (λ s le. omega arith) P.segments w.named;
})

map_same : (f g : Segment → Segment) → ((s : Segment) → f s ≡ g s) → (segments : List Segment) → map f segments ≡ map g segments
map_same f g same [] = refl
map_same f g same (s ∷ segments) = ap₂ ◌∷◌ (same s) (map_same f g same segments)

-- the UPLOAD

upload_flags : (number : ℕ) (P : Placement) → after_upload number P ≡ with_flags (λ s. cond (s.number == number) true s.stored) (λ s. s.here) P
upload_flags number P =
    ap (λ segments. record P { segments = segments })
    (map_same (λ s. cond (s.number == number) (store_segment s) s) (flagged (λ s. cond (s.number == number) true s.stored) (λ s. s.here)) (λ s. go s (s.number == number)) P.segments)
  where
    go : (s : Segment) (b : Bool) → cond b (store_segment s) s ≡ record s { stored = cond b true s.stored; here = s.here }
    go s true = refl
    go s false = refl

pub upload_sound : (H : History) (k number : ℕ) → IsSound H → IsSound (H ▷ entry_of k (Upload number))
upload_sound H k number s = record {
  held = held_kept H (entry_of k (Upload number)) (placement H) (after_upload number (placement H)) s.held refl refl
      (shrinks_from H k (Upload number) (λ j n e. e)) (λ j n held e. e);
  placed = subst (IsPlacedWell (H ▷ entry_of k (Upload number))) (sym (upload_flags number (placement H)))
      (flagged_placed H (entry_of k (Upload number)) _ _ (placement H) s.placed (λ n. refl) refl);
  pinned = pinned_kept H k (Upload number) (placement H) (λ o t. refl) s.pinned;
}

-- the EVICT

evict_flags : (numbers : List ℕ) (P : Placement) → after_evict numbers P ≡ with_flags (λ s. s.stored) (λ s. cond (contains_number numbers s.number) false s.here) P
evict_flags numbers P =
    ap (λ segments. record P { segments = segments })
    (map_same (λ s. cond (contains_number numbers s.number) (drop_file s) s) (flagged (λ s. s.stored) (λ s. cond (contains_number numbers s.number) false s.here)) (λ s. go s (contains_number numbers s.number)) P.segments)
  where
    go : (s : Segment) (b : Bool) → cond b (drop_file s) s ≡ record s { stored = s.stored; here = cond b false s.here }
    go s true = refl
    go s false = refl

pub evict_sound : (H : History) (k : ℕ) (numbers : List ℕ) → IsSound H → IsSound (H ▷ entry_of k (Evict numbers))
evict_sound H k numbers s = record {
  held = held_kept H (entry_of k (Evict numbers)) (placement H) (after_evict numbers (placement H)) s.held refl refl
      (shrinks_from H k (Evict numbers) (λ j n e. e)) (λ j n held e. e);
  placed = subst (IsPlacedWell (H ▷ entry_of k (Evict numbers))) (sym (evict_flags numbers (placement H)))
      (flagged_placed H (entry_of k (Evict numbers)) _ _ (placement H) s.placed (λ n. refl) refl);
  pinned = pinned_kept H k (Evict numbers) (placement H) (λ o t. refl) s.pinned;
}

-- the VACUUM

-- what it removes isn't seen from the new horizon on

version_removed : (h r n : ℕ) → h ≤ r → (v : Version) → cond (not (is_done h v.stop)) (bit (v.id == n && is_visible r v)) 0 ≡ bit (v.id == n && is_visible r v)
version_removed h r n le v = go v.stop
  where
    go : (o : Option ℕ) → cond (not (is_done h o)) (bit (v.id == n && (nat_le v.begin r && not (is_done r o)))) 0 ≡ bit (v.id == n && (nat_le v.begin r && not (is_done r o)))
    go None = refl
    go (Some u) = grind (arith, nat_tests)

version_left : (h n : ℕ) (v : Version) → cond (not (is_done h v.stop)) (bit (v.id == n && is_living v)) 0 ≡ bit (v.id == n && is_living v)
version_left h n v = go v.stop
  where
    go : (o : Option ℕ) → cond (not (is_done h o)) (bit (v.id == n && not (is_some o))) 0 ≡ bit (v.id == n && not (is_some o))
    go None = refl
    go (Some u) = grind arith

segment_removed : (h r m : ℕ) → h ≤ r → (s : Segment) → cond (not (is_done h s.died)) (cond (is_alive r s) m 0) 0 ≡ cond (is_alive r s) m 0
segment_removed h r m le s = go s.died
  where
    go : (o : Option ℕ) → cond (not (is_done h o)) (cond (nat_le s.born r && not (is_done r o)) m 0) 0 ≡ cond (nat_le s.born r && not (is_done r o)) m 0
    go None = refl
    go (Some u) = grind (arith, nat_tests)

segment_left : (h m : ℕ) (s : Segment) → cond (not (is_done h s.died)) (cond (is_in_use s) m 0) 0 ≡ cond (is_in_use s) m 0
segment_left h m s = go s.died
  where
    go : (o : Option ℕ) → cond (not (is_done h o)) (cond (not (is_some o)) m 0) 0 ≡ cond (not (is_some o)) m 0
    go None = refl
    go (Some u) = grind arith

versions_left : (h n : ℕ) (versions : List Version) → count_versions is_living n (filter (λ v. not (is_done h v.stop)) versions) ≡ count_versions is_living n versions
versions_left h n versions =
    total-filter (λ v. bit (v.id == n && is_living v)) (λ v. not (is_done h v.stop)) versions
    ∙ total_same _ _ versions (each_all _ (version_left h n) versions)

vacuum_old : (h r n : ℕ) (P : Placement) → h ≤ r → count_at r n (after_vacuum h P) ≡ count_at r n P
vacuum_old h r n P le =
    ap₂ ◌+◌
    (total-filter (λ v. bit (v.id == n && is_visible r v)) (λ v. not (is_done h v.stop)) P.versions
    ∙ total_same _ _ P.versions (each_all _ (version_removed h r n le) P.versions))
    (total-filter (λ s. cond (is_alive r s) (count_spots (is_unmarked r) n s.spots) 0) (λ s. not (is_done h s.died)) P.segments
    ∙ total_same _ _ P.segments (each_all _ (λ s. segment_removed h r (count_spots (is_unmarked r) n s.spots) le s) P.segments))

vacuum_now : (h n : ℕ) (P : Placement) → count_now n (after_vacuum h P) ≡ count_now n P
vacuum_now h n P =
    ap₂ ◌+◌ (versions_left h n P.versions)
    (total-filter (λ s. cond (is_in_use s) (count_spots is_free n s.spots) 0) (λ s. not (is_done h s.died)) P.segments
    ∙ total_same _ _ P.segments (each_all _ (λ s. segment_left h (count_spots is_free n s.spots) s) P.segments))

-- the new horizon

least_at_most : (H : History) (ks : List ℕ) (h : ℕ) → fold (λ m k. least_pin m (pin_of H k)) h ks ≤ h
least_at_most H [] h = omega arith
least_at_most H (k ∷ ks) h = omega (arith, least_at_most H ks (least_pin h (pin_of H k)), step (pin_of H k))
  where
    step : (o : Option ℕ) → least_pin h o ≤ h
    step None = omega arith
    step (Some t) = omega arith

least_no_less : (H : History) (low : ℕ) → ((k u : ℕ) → is_session k ≡ true → pin_of H k ≡ Some u → low ≤ u)
    → (ks : List ℕ) → Each (λ k. is_session k ≡ true) ks → (h : ℕ) → low ≤ h → low ≤ fold (λ m k. least_pin m (pin_of H k)) h ks
least_no_less H low pins [] each h le = le
least_no_less H low pins (k ∷ ks) each h le = least_no_less H low pins ks each.1 (least_pin h (pin_of H k)) (step (pin_of H k) refl)
  where
    step : (o : Option ℕ) → pin_of H k ≡ o → low ≤ least_pin h o
    step None e = le
    step (Some t) e = omega (arith, pins k t each.0 e)

least_below : (H : History) (ks : List ℕ) (h j u : ℕ) → contains_number ks j ≡ true → pin_of H j ≡ Some u → fold (λ m k. least_pin m (pin_of H k)) h ks ≤ u
least_below H [] h j u c e = absurd (false≢true c)
least_below H (k ∷ ks) h j u c e = go (k == j) refl (λ d. least_below H ks (least_pin h (pin_of H k)) j u d e) c
  where
    go : (b : Bool) → (k == j) ≡ b → (contains_number ks j ≡ true → fold (λ m i. least_pin m (pin_of H i)) (least_pin h (pin_of H k)) ks ≤ u)
        → (b || contains_number ks j) ≡ true → fold (λ m i. least_pin m (pin_of H i)) (least_pin h (pin_of H k)) ks ≤ u
    go true f rest d =
        let pin : least_pin h (pin_of H k) ≡ min h u = ap (λ i. least_pin h (pin_of H i)) (eqb-true k j f) ∙ ap (least_pin h) e in
        omega (arith, pin, least_at_most H ks (least_pin h (pin_of H k)))
    go false f rest d = rest d

each_session : Each (λ k. is_session k ≡ true) sessions
unfolding sessions
each_session = (refl, (refl, (refl, (refl, (refl, (refl, (refl, (refl, (refl, (refl, (refl, (refl, (refl, (refl, (refl, (refl, tt))))))))))))))))

-- VACUUM's horizon is at most the length and each open pin, and no less than what is

least_by : (H : History) → least_needed H ≤ length H
unfolding least_needed
least_by H = least_at_most H sessions (length H)

least_pinned : (H : History) (k u : ℕ) → is_session k ≡ true → pin_of H k ≡ Some u → least_needed H ≤ u
unfolding least_needed
least_pinned H k u session e =
    least_below H sessions (length H) k u (some_session (λ m. m == k) k session (eq-eqb k k refl)) e

pub least_rises : (H : History) (low : ℕ) → low ≤ length H → ((k u : ℕ) → is_session k ≡ true → pin_of H k ≡ Some u → low ≤ u) → low ≤ least_needed H
unfolding least_needed
least_rises H low le pins = least_no_less H low pins sessions each_session (length H) le

vacuum_placed : (H : History) (k h : ℕ) → IsSound H → h ≡ least_needed H → IsPlacedWell (H ▷ entry_of k (Vacuum h)) (after_vacuum h (placement H))
vacuum_placed H k h s at = placed_step H (entry_of k (Vacuum h)) (placement H) (after_vacuum h (placement H)) s.placed (record {
  by = record {
    versions = each-filter (VersionBy (suc (length H))) (λ v. not (is_done h v.stop)) (placement H).versions more.versions;
    segments = each-filter (SegmentBy (suc (length H))) (λ s. not (is_done h s.died)) (placement H).segments more.segments;
  };
  versions_tell = each-filter (VersionTells (H ▷ entry_of k (Vacuum h))) (λ v. not (is_done h v.stop)) (placement H).versions
      (versions_kept H (entry_of k (Vacuum h)) (λ n. refl) (placement H).versions s.placed.by.versions s.placed.versions_tell);
  segments_tell = each-filter (SegmentTells (H ▷ entry_of k (Vacuum h))) (λ s. not (is_done h s.died)) (placement H).segments
      (segments_kept H (entry_of k (Vacuum h)) (λ n. refl) (placement H).segments s.placed.by.segments s.placed.segments_tell);
  old = λ r n from to. vacuum_old h r n (placement H) from;
  now = λ n. vacuum_now h n (placement H) ∙ now_from_numbers H (placement H) s.placed n;
  horizon_rises = omega (arith, at, least_rises H (placement H).horizon s.placed.horizon_by s.pinned);
  horizon_by = omega (arith, at, least_by H);
  named = each-filter (λ g. g.number ≤ last_segment H) (λ g. not (is_done h g.died)) (placement H).segments s.placed.named;
})
  where
    more : PlacedBy (suc (length H)) (placement H)
    more = placed_by_more (length H) (suc (length H)) (omega arith) (placement H) s.placed.by

pub vacuum_sound : (H : History) (k h : ℕ) → IsSound H → VacuumFits H k h → IsSound (H ▷ entry_of k (Vacuum h))
vacuum_sound H k h s f = record {
  held = held_kept H (entry_of k (Vacuum h)) (placement H) (after_vacuum h (placement H)) s.held refl refl
      (shrinks_from H k (Vacuum h) (λ j n e. e))
      (λ j n held e.
      counts_any (λ v. v.id == n && is_living v) (after_vacuum h (placement H)).versions
      (omega (arith, versions_left h n (placement H).versions, any_counts (λ v. v.id == n && is_living v) (placement H).versions e)));
  placed = vacuum_placed H k h s f.least;
  pinned = λ j u session pin.
      omega (arith, f.least, least_pinned H j u session (sym (pin_of_other H k (Vacuum h) (λ o t. refl) j) ∙ pin));
}
