-- A MOVE: each row at its places gets a version, and the places are marked.
use Rattle.std.proofs.Common.{◌≡◌, ℕ, suc, ◌+◌, ◌<◌, ◌≤◌, Bool, true, false, not, ◌&&◌, cond, ◌==◌, nat_le, List, [], ◌∷◌, length, option_map, Option, Some, None, is_some, refl, sym, ap, ap₂, subst, ◌∙◌, arith}
use Rattle.std.specs.List.{cons_option}
use Rattle.std.proofs.lemmas.List.Folds.{list_any-append}
use Rattle.std.proofs.lemmas.Bool.{eqb-true, or_left, lt-leb}
use Rattle.s2_model.specs.declared.entries.What.TheVariants.{Move}
use Rattle.s2_model.specs.Table.{Table, RowOf, row_at}
use Rattle.s2_model.specs.History.{History, ◌▷◌, state}
use Rattle.s2_model.specs.Placement.{Version, Spot, Segment, Placement, placement, is_living, is_in_use, is_free, is_visible, is_alive, is_unmarked, copied, new_version, set_mark, mark_spots, mark_segment, marked, free_ids_at, moved_ids, contains_place, after_move}
use Rattle.s2_model.specs.Fits.{last_segment}
use Rattle.s2_model.proofs.Lists.{bit, total, Each, total-append, total-map, total_same, total_zero, total_part, each-append, each-map, each_all, each_weaker, each_both}
use Rattle.s2_model.proofs.Times.{IsBy, by_set, by_more, some_set, done_set_before, VersionBy, SegmentBy, version_by_more, count_now, count_versions, count_segments, count_spots}
use Rattle.s2_model.proofs.Invariant.{size, VersionTells, SpotTells, SegmentTells, IsPlacedWell, IsSound, placed_step, now_from_numbers, version_tells_new, spot_tells_kept, spot_tells_marked}
use Rattle.s2_model.proofs.Kept.{entry_of, versions_kept, held_kept, shrinks_from, pinned_kept}

-- how often a number stands in a list
abbrev pub count_ids : ℕ → List ℕ → ℕ
count_ids n ids = total (λ m. bit (m == n)) ids

-- marks

each-mark_spots : (P Q : Spot → Type 0) (t : ℕ) (test : ℕ → Bool) → ((x : Spot) → P x → Q x) → ((x : Spot) → P x → Q (set_mark t x))
    → (o : ℕ) (spots : List Spot) → Each P spots → Each Q (mark_spots t test o spots)
each-mark_spots P Q t test keep set o [] a = tt
each-mark_spots P Q t test keep set o (x ∷ spots) a =
    (go (test o), each-mark_spots P Q t test keep set (o + 1) spots a.1)
  where
    go : (b : Bool) → Q (cond b (set_mark t x) x)
    go true = set x a.0
    go false = keep x a.0

marks_before : (t r n : ℕ) (test : ℕ → Bool) → r < t → (o : ℕ) (spots : List Spot)
    → count_spots (is_unmarked r) n (mark_spots t test o spots) ≡ count_spots (is_unmarked r) n spots
marks_before t r n test lt o [] = refl
marks_before t r n test lt o (x ∷ spots) = ap₂ ◌+◌ (go (test o)) (marks_before t r n test lt (o + 1) spots)
  where
    go : (b : Bool) → bit ((cond b (set_mark t x) x).id == n && is_unmarked r (cond b (set_mark t x) x)) ≡ bit (x.id == n && is_unmarked r x)
    go true = ap (λ d. bit (x.id == n && not d)) (done_set_before r t x.mark lt)
    go false = refl

-- what is marked was counted once before
marks_now : (t n : ℕ) (test : ℕ → Bool) (o : ℕ) (spots : List Spot)
    → count_spots is_free n (mark_spots t test o spots) + count_ids n (free_ids_at test o spots) ≡ count_spots is_free n spots
marks_now t n test o [] = refl
marks_now t n test o (x ∷ spots) =
    omega (
      arith,
      marks_now t n test (o + 1) spots,
      total-append (λ m. bit (m == n)) (cond (test o && is_free x) (x.id ∷ []) []) (free_ids_at test (o + 1) spots),
      go (test o) (is_free x) refl,
    )
  where
    go : (b c : Bool) → is_free x ≡ c
        → bit ((cond b (set_mark t x) x).id == n && is_free (cond b (set_mark t x) x)) + count_ids n (cond (b && c) (x.id ∷ []) []) ≡ bit (x.id == n && c)
    go true true e = omega (arith, ap (λ s. bit (x.id == n && not s)) (some_set t x.mark), at (x.id == n))
      where
        at : (d : Bool) → bit (d && false) + (bit d + 0) ≡ bit (d && true)
        at true = refl
        at false = refl
    go true false e = omega (arith, ap (λ s. bit (x.id == n && not s)) (some_set t x.mark))
    go false true e = omega (arith, ap (λ s. bit (x.id == n && s)) e)
    go false false e = omega (arith, ap (λ s. bit (x.id == n && s)) e)

segment_marks : (t n : ℕ) (places : List (ℕ × ℕ)) (s : Segment)
    → cond (is_in_use s) (count_spots is_free n s.spots) 0
    ≡ cond (is_in_use s) (count_spots is_free n (mark_segment t places s).spots) 0
    + count_ids n (cond (is_in_use s) (free_ids_at (contains_place places s.number) 0 s.spots) [])
segment_marks t n places s = go (is_in_use s)
  where
    go : (b : Bool) → cond b (count_spots is_free n s.spots) 0
        ≡ cond b (count_spots is_free n (mark_segment t places s).spots) 0 + count_ids n (cond b (free_ids_at (contains_place places s.number) 0 s.spots) [])
    go true = sym (marks_now t n (contains_place places s.number) 0 s.spots)
    go false = refl

moved_counts : (n : ℕ) (places : List (ℕ × ℕ)) (segments : List Segment)
    → count_ids n (moved_ids places segments)
    ≡ total (λ s. count_ids n (cond (is_in_use s) (free_ids_at (contains_place places s.number) 0 s.spots) [])) segments
moved_counts n places [] = refl
moved_counts n places (s ∷ segments) =
    total-append (λ m. bit (m == n)) (cond (is_in_use s) (free_ids_at (contains_place places s.number) 0 s.spots) []) (moved_ids places segments)
    ∙ ap (λ m. count_ids n (cond (is_in_use s) (free_ids_at (contains_place places s.number) 0 s.spots) []) + m) (moved_counts n places segments)

segments_mark : (t n : ℕ) (places : List (ℕ × ℕ)) (segments : List Segment)
    → count_segments is_in_use is_free n (marked t places segments) + count_ids n (moved_ids places segments)
    ≡ count_segments is_in_use is_free n segments
segments_mark t n places segments =
    ap₂ ◌+◌ (total-map (λ s. cond (is_in_use s) (count_spots is_free n s.spots) 0) (mark_segment t places) segments) (moved_counts n places segments)
    ∙ sym (total_part (λ s. cond (is_in_use s) (count_spots is_free n s.spots) 0)
    (λ s. cond (is_in_use s) (count_spots is_free n (mark_segment t places s).spots) 0)
    (λ s. count_ids n (cond (is_in_use s) (free_ids_at (contains_place places s.number) 0 s.spots) []))
    segments (each_all _ (segment_marks t n places) segments))

segments_before : (t r n : ℕ) (places : List (ℕ × ℕ)) → r < t → (segments : List Segment)
    → count_segments (is_alive r) (is_unmarked r) n (marked t places segments) ≡ count_segments (is_alive r) (is_unmarked r) n segments
segments_before t r n places lt segments =
    total-map (λ s. cond (is_alive r s) (count_spots (is_unmarked r) n s.spots) 0) (mark_segment t places) segments
    ∙ total_same (λ s. cond (is_alive r s) (count_spots (is_unmarked r) n (mark_segment t places s).spots) 0)
    (λ s. cond (is_alive r s) (count_spots (is_unmarked r) n s.spots) 0) segments
    (each_all _ (λ s. ap (λ m. cond (is_alive r s) m 0) (marks_before t r n (contains_place places s.number) lt 0 s.spots)) segments)

-- versions of rows of the content

pub record IsCopy (t : ℕ) (rows : Table) (v : Version) : Type 0 where
  pub begin : v.begin ≡ t
  pub stop : v.stop ≡ None
  pub row : row_at rows v.id ≡ Some v.row

copied_are : (t : ℕ) (rows : Table) (ids : List ℕ) → Each (IsCopy t rows) (copied t rows ids)
copied_are t rows [] = tt
copied_are t rows (n ∷ ids) = go (row_at rows n) refl (copied_are t rows ids)
  where
    go : (o : Option RowOf) → row_at rows n ≡ o → Each (IsCopy t rows) (copied t rows ids)
        → Each (IsCopy t rows) (cons_option (option_map (new_version t n) o) (copied t rows ids))
    go None e later = later
    go (Some x) e later = (record { begin = refl; stop = refl; row = e }, later)

copied_count : (t n : ℕ) (rows : Table) (ids : List ℕ)
    → count_versions is_living n (copied t rows ids) ≡ cond (is_some (row_at rows n)) (count_ids n ids) 0
copied_count t n rows [] = go (is_some (row_at rows n))
  where
    go : (b : Bool) → count_ids n [] ≡ cond b (count_ids n []) 0
    go true = refl
    go false = refl
copied_count t n rows (m ∷ ids) = go (m == n) refl (row_at rows m) refl (row_at rows n) refl (copied_count t n rows ids)
  where
    go : (a : Bool) → (m == n) ≡ a → (o : Option RowOf) → row_at rows m ≡ o → (p : Option RowOf) → row_at rows n ≡ p
        → count_versions is_living n (copied t rows ids) ≡ cond (is_some (row_at rows n)) (count_ids n ids) 0
        → count_versions is_living n (cons_option (option_map (new_version t m) o) (copied t rows ids)) ≡ cond (is_some p) (bit a + count_ids n ids) 0
    go true e None f None g ih = ih ∙ ap (λ q. cond (is_some q) (count_ids n ids) 0) g
    go true e None f (Some y) g ih = absurd (cc (ap (row_at rows) (eqb-true m n e)))
    go true e (Some x) f None g ih = absurd (cc (ap (row_at rows) (eqb-true m n e)))
    go true e (Some x) f (Some y) g ih =
        omega (arith, ap (λ d. bit (d && true)) e, ih ∙ ap (λ q. cond (is_some q) (count_ids n ids) 0) g)
    go false e None f None g ih = ih ∙ ap (λ q. cond (is_some q) (count_ids n ids) 0) g
    go false e None f (Some y) g ih = omega (arith, ih ∙ ap (λ q. cond (is_some q) (count_ids n ids) 0) g)
    go false e (Some x) f None g ih =
        omega (arith, ap (λ d. bit (d && true)) e, ih ∙ ap (λ q. cond (is_some q) (count_ids n ids) 0) g)
    go false e (Some x) f (Some y) g ih =
        omega (arith, ap (λ d. bit (d && true)) e, ih ∙ ap (λ q. cond (is_some q) (count_ids n ids) 0) g)

pub new_unseen : (t r n : ℕ) → r < t → (versions : List Version) → Each (λ v. v.begin ≡ t) versions → count_versions (is_visible r) n versions ≡ 0
new_unseen t r n lt versions each =
    total_zero (λ v. bit (v.id == n && is_visible r v)) versions
    (each_weaker (λ v. v.begin ≡ t) (λ v. bit (v.id == n && is_visible r v) ≡ 0)
    (λ v e. unseen v (lt-leb v.begin r (omega arith))) versions each)
  where
    unseen : (v : Version) → nat_le v.begin r ≡ false → bit (v.id == n && is_visible r v) ≡ 0
    unseen v e = grind arith

-- the MOVE

abbrev moved : History → ℕ → List (ℕ × ℕ) → History
moved H k places = H ▷ entry_of k (Move places)

abbrev moved_place : History → List (ℕ × ℕ) → Placement
moved_place H places = after_move (suc (length H)) places (state H) (placement H)

move_now : (H : History) (k : ℕ) (places : List (ℕ × ℕ)) → IsSound H → (n : ℕ) → count_now n (moved_place H places) ≡ size (row_at (state H) n)
move_now H k places s n = go (row_at (state H) n) refl
  where
    go : (o : Option RowOf) → row_at (state H) n ≡ o → count_now n (moved_place H places) ≡ size (row_at (state H) n)
    go None e =
        omega (
          arith,
          total-append (λ v. bit (v.id == n && is_living v)) (placement H).versions (copied (suc (length H)) (state H) (moved_ids places (placement H).segments)),
          copied_count (suc (length H)) n (state H) (moved_ids places (placement H).segments)
              ∙ ap (λ q. cond (is_some q) (count_ids n (moved_ids places (placement H).segments)) 0) e,
          segments_mark (suc (length H)) n places (placement H).segments,
          now_from_numbers H (placement H) s.placed n,
          ap size e,
        )
    go (Some x) e =
        omega (
          arith,
          total-append (λ v. bit (v.id == n && is_living v)) (placement H).versions (copied (suc (length H)) (state H) (moved_ids places (placement H).segments)),
          copied_count (suc (length H)) n (state H) (moved_ids places (placement H).segments)
              ∙ ap (λ q. cond (is_some q) (count_ids n (moved_ids places (placement H).segments)) 0) e,
          segments_mark (suc (length H)) n places (placement H).segments,
          now_from_numbers H (placement H) s.placed n,
        )

move_by : (H : History) (places : List (ℕ × ℕ)) (s : Segment) → SegmentBy (length H) s → SegmentBy (suc (length H)) (mark_segment (suc (length H)) places s)
move_by H places s b = record {
  base = b.base;
  born = omega (arith, b.born);
  died = by_more (length H) (suc (length H)) s.died (omega arith) b.died;
  marks = each-mark_spots (λ x. IsBy (length H) x.mark) (λ x. IsBy (suc (length H)) x.mark) (suc (length H)) (contains_place places s.number)
      (λ x m. by_more (length H) (suc (length H)) x.mark (omega arith) m)
      (λ x m. by_set (length H) (suc (length H)) x.mark (omega arith) m) 0 s.spots b.marks;
}

move_tells : (H : History) (k : ℕ) (places : List (ℕ × ℕ)) (s : Segment) → SegmentBy (length H) s → SegmentTells H s
    → SegmentTells (moved H k places) (mark_segment (suc (length H)) places s)
move_tells H k places s b tells =
    each-mark_spots (λ x. IsBy (length H) x.mark × SpotTells H s x) (SpotTells (moved H k places) s) (suc (length H)) (contains_place places s.number)
    (λ x m. spot_tells_kept H (entry_of k (Move places)) s x b m.0 (λ used free. refl) m.1)
    (λ x m. spot_tells_marked H (entry_of k (Move places)) s x m.0 m.1) 0 s.spots
    (each_both (λ x. IsBy (length H) x.mark) (SpotTells H s) (λ x. IsBy (length H) x.mark × SpotTells H s x) (λ x m t. (m, t)) s.spots b.marks tells)

move_placed : (H : History) (k : ℕ) (places : List (ℕ × ℕ)) → IsSound H → IsPlacedWell (moved H k places) (moved_place H places)
move_placed H k places s =
    placed_step H (entry_of k (Move places)) (placement H) (moved_place H places) s.placed (record {
      by = record {
        versions = each-append (VersionBy (suc (length H))) (placement H).versions (copied (suc (length H)) (state H) ids)
            (each_weaker (VersionBy (length H)) (VersionBy (suc (length H))) (version_by_more (length H) (suc (length H)) (omega arith)) (placement H).versions s.placed.by.versions)
            (each_weaker (IsCopy (suc (length H)) (state H)) (VersionBy (suc (length H)))
            (λ v c. record { begin = omega (arith, c.begin); stop = subst (IsBy (suc (length H))) (sym c.stop) tt })
            (copied (suc (length H)) (state H) ids) (copied_are (suc (length H)) (state H) ids));
        segments = each-map (SegmentBy (length H)) (SegmentBy (suc (length H))) (mark_segment (suc (length H)) places) (move_by H places) (placement H).segments s.placed.by.segments;
      };
      versions_tell = each-append (VersionTells (moved H k places)) (placement H).versions (copied (suc (length H)) (state H) ids)
          (versions_kept H (entry_of k (Move places)) (λ n. refl) (placement H).versions s.placed.by.versions s.placed.versions_tell)
          (each_weaker (IsCopy (suc (length H)) (state H)) (VersionTells (moved H k places))
          (λ v c. version_tells_new H (entry_of k (Move places)) v c.begin c.row)
          (copied (suc (length H)) (state H) ids) (copied_are (suc (length H)) (state H) ids));
      segments_tell =
          each-map (λ g. SegmentBy (length H) g × SegmentTells H g) (SegmentTells (moved H k places)) (mark_segment (suc (length H)) places)
          (λ g b. move_tells H k places g b.0 b.1) (placement H).segments
          (each_both (SegmentBy (length H)) (SegmentTells H) (λ g. SegmentBy (length H) g × SegmentTells H g) (λ g b t. (b, t))
          (placement H).segments s.placed.by.segments s.placed.segments_tell);
      old = λ r n from to.
          omega (
            arith,
            total-append (λ v. bit (v.id == n && is_visible r v)) (placement H).versions (copied (suc (length H)) (state H) ids),
            new_unseen (suc (length H)) r n (omega arith) (copied (suc (length H)) (state H) ids)
                (each_weaker (IsCopy (suc (length H)) (state H)) (λ v. v.begin ≡ suc (length H)) (λ v c. c.begin)
                (copied (suc (length H)) (state H) ids) (copied_are (suc (length H)) (state H) ids)),
            segments_before (suc (length H)) r n places (omega arith) (placement H).segments,
          );
      now = move_now H k places s;
      horizon_rises = omega arith;
      horizon_by = omega (arith, s.placed.horizon_by);
      named = each-map (λ g. g.number ≤ last_segment H) (λ g. g.number ≤ last_segment H) (mark_segment (suc (length H)) places) (λ g le. le) (placement H).segments s.placed.named;
    })
  where
    ids : List ℕ
    ids = moved_ids places (placement H).segments

pub move_sound : (H : History) (k : ℕ) (places : List (ℕ × ℕ)) → IsSound H → IsSound (moved H k places)
move_sound H k places s = record {
  held = held_kept H (entry_of k (Move places)) (placement H) (moved_place H places) s.held refl refl (shrinks_from H k (Move places) (λ j n e. e))
      (λ j n held e.
      list_any-append (λ v. v.id == n && is_living v) (placement H).versions (copied (suc (length H)) (state H) (moved_ids places (placement H).segments))
      ∙ or_left _ _ e);
  placed = move_placed H k places s;
  pinned = pinned_kept H k (Move places) (placement H) (λ o t. refl) s.pinned;
}
