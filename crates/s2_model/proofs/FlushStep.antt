-- A FLUSH: its rows that can still be taken lie in the new segment from then on, and no more in the row store.
use Rattle.std.proofs.Common.{◌≡◌, ℕ, zero, suc, ◌+◌, ◌≤◌, Bool, true, false, not, ◌&&◌, cond, ◌==◌, nat_le, List, [], ◌∷◌, ◌++◌, map, filter, take, length, Option, Some, None, is_some, refl, sym, ap, subst, ◌∙◌, arith}
use Rattle.std.proofs.lemmas.Bool.{false≢true, both_ways, and_parts, and_from, eqb-true, leb-true, le-leb, lt-leb, not-true, not_from_false, cond-true, cond-false, false_from_ne_true}
use Rattle.s2_value.specs.declared.schemas.Schema.{Schema}
use Rattle.s2_model.specs.declared.entries.FlushNote.{FlushNote}
use Rattle.s2_model.specs.declared.entries.What.TheVariants.{Flush}
use Rattle.s2_model.specs.declared.scripts.Options.{Options}
use Rattle.s2_model.specs.Table.{row_at}
use Rattle.s2_model.specs.History.{History, ◌▷◌, upto, state}
use Rattle.s2_model.specs.Held.{holds, is_held}
use Rattle.s2_model.specs.Placement.{Version, Spot, placement, lives, is_living, is_in_use, is_free, is_done, is_alive, is_unmarked, contains_number, ended, new_spots, flushed_segment, free_ids, after_flush}
use Rattle.s2_model.specs.Plan.{can_take, lives_since, is_takeable, takes}
use Rattle.s2_model.specs.Fits.{last_segment, FlushFits}
use Rattle.s2_model.proofs.Lists.{bit, Each, total-append, each-append, each-map, each_all, each_weaker, each_any, any_counts, counts_any, any_weaker}
use Rattle.s2_model.proofs.Timestamps.{upto_all}
use Rattle.s2_model.proofs.Times.{IsBy, SegmentBy, segment_by_more, count_now, count_versions, count_segments, count_spots}
use Rattle.s2_model.proofs.Invariant.{size, row_then, row_then_old, row_then_now, Lasts, VersionTells, SpotTells, SegmentTells, IsPlacedWell, IsSound, placed_step, now_from_numbers, old_or_new, spot_tells_new}
use Rattle.s2_model.proofs.Holders.{held_by_session}
use Rattle.s2_model.proofs.Kept.{entry_of, segments_kept, held_kept, shrinks_from, pinned_kept}
use Rattle.s2_model.proofs.WriteStep.{size_le}
use Rattle.s2_model.proofs.CommitStep.{ended_before, ended_now, ended_by, ended_tell}
use Rattle.s2_model.proofs.MoveStep.{count_ids}
use Rattle.s2_model.proofs.Chosen.{count_rows, count_row_ids, total-file_order, rising_count, count_rows-filter, total-take-le, spot_of, spots_where, count_new_spots, free_ids_count}

abbrev flushed : History → ℕ → FlushNote → History
flushed H k f = H ▷ entry_of k (Flush f)

-- the rows that can't be taken any more
abbrev gone : History → FlushNote → ℕ → Bool
gone H f n = not (can_take f.base H n)

abbrev spots_of : History → FlushNote → List Spot
spots_of H f = new_spots (suc (length H)) (contains_number f.marked) 0 f.rows

abbrev taken : History → FlushNote → ℕ → Bool
taken H f n = contains_number (free_ids (spots_of H f)) n

module _ (schema : Schema) (options : Options) (H : History) (k : ℕ) (f : FlushNote) (sounds : (r : ℕ) → IsSound (upto r H)) (s : IsSound H)
    (fits : FlushFits schema options H k f) where
  spots_are : spots_of H f ≡ map (spot_of (suc (length H)) (gone H f)) f.rows
  spots_are = ap (λ m. new_spots (suc (length H)) (contains_number m) 0 f.rows) fits.marks ∙ spots_where (suc (length H)) (gone H f) f.rows

  free_count : (n : ℕ) → count_spots is_free n (spots_of H f) ≡ cond (gone H f n) 0 (count_ids n f.rows)
  free_count n = ap (count_spots is_free n) spots_are ∙ count_new_spots (suc (length H)) n (gone H f) f.rows

  -- a row is taken once at most
  once : (n : ℕ) → count_ids n f.rows ≤ 1
  once n =
      omega (
        arith,
        ap (count_ids n) fits.rows,
        count_row_ids n (takes schema options (upto f.base H)),
        total-file_order (λ p. bit (p.0 == n)) schema (take options.segment_rows (filter (λ p. is_takeable (upto f.base H) p.0) (state (upto f.base H)))),
        total-take-le (λ p. bit (p.0 == n)) options.segment_rows (filter (λ p. is_takeable (upto f.base H) p.0) (state (upto f.base H))),
        count_rows-filter n (is_takeable (upto f.base H)) (state (upto f.base H)),
        part (is_takeable (upto f.base H) n) (count_rows n (state (upto f.base H))),
        rising_count 0 n (state (upto f.base H)) (sounds f.base).held.rising,
        size_le (row_at (state (upto f.base H)) n),
      )
    where
      part : (b : Bool) (m : ℕ) → cond b m 0 ≤ m
      part true m = omega arith
      part false m = omega arith

  taken_count : (n : ℕ) → taken H f n ≡ true → count_spots is_free n (spots_of H f) ≡ 1
  taken_count n e = omega (arith, any_counts (λ m. m == n) (free_ids (spots_of H f)) e, free_ids_count n (spots_of H f), free_count n, once n, part (gone H f n) (count_ids n f.rows))
    where
      part : (b : Bool) (m : ℕ) → cond b 0 m ≤ m
      part true m = omega arith
      part false m = omega arith

  left_count : (n : ℕ) → taken H f n ≡ false → count_spots is_free n (spots_of H f) ≡ 0
  left_count n e = go (count_spots is_free n (spots_of H f)) refl
    where
      go : (m : ℕ) → count_spots is_free n (spots_of H f) ≡ m → m ≡ 0
      go zero g = refl
      go (suc m) g = absurd (both_ways _ e (counts_any (λ i. i == n) (free_ids (spots_of H f)) (omega (arith, free_ids_count n (spots_of H f)))))

  taken_can : (n : ℕ) → taken H f n ≡ true → can_take f.base H n ≡ true
  taken_can n e = go (can_take f.base H n) refl
    where
      go : (b : Bool) → can_take f.base H n ≡ b → b ≡ true
      go true g = refl
      go false g =
          absurd (omega (arith, taken_count n e, free_count n ∙ cond-true (gone H f n) 0 (count_ids n f.rows) (not_from_false _ g)))

  -- the living version of a row that can be taken

  taken_lives : (n : ℕ) → can_take f.base H n ≡ true → 1 ≤ count_versions is_living n (placement H).versions
  taken_lives n e =
      any_counts (λ v. v.id == n && is_living v) (placement H).versions
      (any_weaker (λ v. v.id == n && is_living v && nat_le v.begin f.base) (λ v. v.id == n && is_living v)
      (λ v g. (and_parts _ _ g).0) (placement H).versions (and_parts _ _ e).0)

  taken_lasts : (n : ℕ) → can_take f.base H n ≡ true → Lasts (flushed H k f) f.base n (suc (length H))
  taken_lasts n e =
      each_any (VersionTells H) (λ v. v.id == n && is_living v && nat_le v.begin f.base) (Lasts (flushed H k f) f.base n (suc (length H)))
      (λ v tells g. lasts v tells (eqb-true v.id n (and_parts _ _ (and_parts _ _ g).0).0) (and_parts _ _ (and_parts _ _ g).0).1 (leb-true v.begin f.base (and_parts _ _ g).1))
      (placement H).versions s.placed.versions_tell (and_parts _ _ e).0
    where
      seen : (v : Version) (o : Option ℕ) (q : ℕ) → not (is_some o) ≡ true → v.begin ≤ q → (nat_le v.begin q && not (is_done q o)) ≡ true
      seen v None q living le = and_from _ _ (le-leb v.begin q le) refl
      seen v (Some u) q living le = absurd (false≢true living)

      row : (v : Version) → VersionTells H v → v.id ≡ n → is_living v ≡ true → v.begin ≤ f.base → (q : ℕ) → f.base ≤ q → q ≤ length H → row_then H q n ≡ Some v.row
      row v tells at living le q from to =
          ap (row_then H q) (sym at) ∙ tells q to (seen v v.stop q living (omega arith))

      lasts : (v : Version) → VersionTells H v → v.id ≡ n → is_living v ≡ true → v.begin ≤ f.base → Lasts (flushed H k f) f.base n (suc (length H))
      lasts v tells at living le q from to =
          let base = row_then_old H (entry_of k (Flush f)) f.base n fits.base ∙ row v tells at living le f.base (omega arith) fits.base in
          old_or_new H (entry_of k (Flush f)) q to (row_then (flushed H k f) q n ≡ row_then (flushed H k f) f.base n)
          (λ old. row_then_old H (entry_of k (Flush f)) q n old ∙ row v tells at living le q from old ∙ sym base)
          (λ new.
          ap (λ G. row_at (state G) n) (upto_all q (flushed H k f) (omega arith))
          ∙ sym (row_then_now H n) ∙ row v tells at living le (length H) fits.base (omega arith) ∙ sym base)

  -- the step

  flush_now : (n : ℕ) → count_now n (after_flush (suc (length H)) f (placement H)) ≡ size (row_at (state H) n)
  flush_now n = go (taken H f n) refl
    where
      segs : count_segments is_in_use is_free n ((placement H).segments ++ flushed_segment (suc (length H)) f ∷ [])
          ≡ count_segments is_in_use is_free n (placement H).segments + (count_spots is_free n (spots_of H f) + 0)
      segs = total-append (λ g. cond (is_in_use g) (count_spots is_free n g.spots) 0) (placement H).segments (flushed_segment (suc (length H)) f ∷ [])

      go : (b : Bool) → taken H f n ≡ b → count_now n (after_flush (suc (length H)) f (placement H)) ≡ size (row_at (state H) n)
      go true e =
          omega (
            arith,
            segs,
            taken_count n e,
            taken_lives n (taken_can n e),
            ended_now (suc (length H)) n (taken H f) (placement H).versions ∙ cond-true (taken H f n) 0 (count_versions is_living n (placement H).versions) e,
            now_from_numbers H (placement H) s.placed n,
            size_le (row_at (state H) n),
          )
      go false e =
          omega (
            arith,
            segs,
            left_count n e,
            ended_now (suc (length H)) n (taken H f) (placement H).versions ∙ cond-false (taken H f n) 0 (count_versions is_living n (placement H).versions) e,
            now_from_numbers H (placement H) s.placed n,
          )

  new_spots_by : Each (λ x. IsBy (suc (length H)) x.mark) (spots_of H f)
  new_spots_by =
      subst (Each (λ x. IsBy (suc (length H)) x.mark)) (sym spots_are)
      (each-map (λ n. Unit {0}) (λ x. IsBy (suc (length H)) x.mark) (spot_of (suc (length H)) (gone H f)) (λ n u. go (gone H f n)) f.rows (each_all (λ n. Unit {0}) (λ n. tt) f.rows))
    where
      go : (b : Bool) → IsBy (suc (length H)) (cond b (Some (suc (length H))) None)
      go true = omega arith
      go false = tt

  new_spots_tell : SegmentTells (flushed H k f) (flushed_segment (suc (length H)) f)
  new_spots_tell =
      subst (Each (SpotTells (flushed H k f) (flushed_segment (suc (length H)) f))) (sym spots_are)
      (each-map (λ n. Unit {0}) (SpotTells (flushed H k f) (flushed_segment (suc (length H)) f)) (spot_of (suc (length H)) (gone H f))
      (λ n u. spot_tells_new H (entry_of k (Flush f)) (flushed_segment (suc (length H)) f) (spot_of (suc (length H)) (gone H f) n) refl
      (λ free. taken_lasts n (can n free)) (by (gone H f n)))
      f.rows (each_all (λ n. Unit {0}) (λ n. tt) f.rows))
    where
      by : (b : Bool) → IsBy (suc (length H)) (cond b (Some (suc (length H))) None)
      by true = omega arith
      by false = tt

      can : (n : ℕ) → is_free (spot_of (suc (length H)) (gone H f) n) ≡ true → can_take f.base H n ≡ true
      can n free = go (can_take f.base H n) free
        where
          go : (b : Bool) → not (is_some (cond (not b) (Some (suc (length H))) None)) ≡ true → b ≡ true
          go true e = refl
          go false e = absurd (false≢true e)

  flush_placed : IsPlacedWell (flushed H k f) (after_flush (suc (length H)) f (placement H))
  flush_placed = placed_step H (entry_of k (Flush f)) (placement H) (after_flush (suc (length H)) f (placement H)) s.placed (record {
    by = record {
      versions = ended_by H (taken H f) (placement H).versions s.placed.by.versions;
      segments = each-append (SegmentBy (suc (length H))) (placement H).segments (flushed_segment (suc (length H)) f ∷ [])
          (each_weaker (SegmentBy (length H)) (SegmentBy (suc (length H))) (segment_by_more (length H) (suc (length H)) (omega arith)) (placement H).segments s.placed.by.segments)
          (record { base = omega (arith, fits.base); born = omega arith; died = tt; marks = new_spots_by }, tt);
    };
    versions_tell = ended_tell H (entry_of k (Flush f)) (taken H f) (λ n other. refl) (placement H).versions s.placed.by.versions s.placed.versions_tell;
    segments_tell = each-append (SegmentTells (flushed H k f)) (placement H).segments (flushed_segment (suc (length H)) f ∷ [])
        (segments_kept H (entry_of k (Flush f)) (λ n. refl) (placement H).segments s.placed.by.segments s.placed.segments_tell)
        (new_spots_tell, tt);
    old = λ r n from to.
        omega (
          arith,
          ended_before (suc (length H)) r n (taken H f) (omega arith) (placement H).versions,
          total-append (λ g. cond (is_alive r g) (count_spots (is_unmarked r) n g.spots) 0) (placement H).segments (flushed_segment (suc (length H)) f ∷ []),
          unborn r (count_spots (is_unmarked r) n (spots_of H f)) (omega arith),
        );
    now = flush_now;
    horizon_rises = omega arith;
    horizon_by = omega (arith, s.placed.horizon_by);
    named = each-append (λ g. g.number ≤ f.seg) (placement H).segments (flushed_segment (suc (length H)) f ∷ [])
        (each_weaker (λ g. g.number ≤ last_segment H) (λ g. g.number ≤ f.seg) (λ g le. omega (arith, fits.number)) (placement H).segments s.placed.named)
        (omega arith, tt);
  })
    where
      unborn : (r m : ℕ) → r ≤ length H → cond (is_alive r (flushed_segment (suc (length H)) f)) m 0 ≡ 0
      unborn r m le = ap (λ b. cond (b && true) m 0) (lt-leb (suc (length H)) r (omega arith))

  flush_keeps : (j n : ℕ) → holds H j n ≡ true → lives (placement H).versions n ≡ true → lives (after_flush (suc (length H)) f (placement H)).versions n ≡ true
  flush_keeps j n held e =
      counts_any (λ v. v.id == n && is_living v) (ended (suc (length H)) (taken H f) (placement H).versions)
      (omega (
        arith,
        ended_now (suc (length H)) n (taken H f) (placement H).versions ∙ cond-false (taken H f n) 0 (count_versions is_living n (placement H).versions) (left),
        any_counts (λ v. v.id == n && is_living v) (placement H).versions e,
      ))
    where
      left : taken H f n ≡ false
      left = false_from_ne_true (taken H f n) (λ t.
          both_ways (is_held H n)
          (not-true (is_held H n) (and_parts (lives_since f.base (placement H).versions n) (not (is_held H n)) (taken_can n t)).1)
          (held_by_session H j n (s.held.sessions j n held) held))

  pub flush_sound : IsSound (flushed H k f)
  flush_sound = record {
    held = held_kept H (entry_of k (Flush f)) (placement H) (after_flush (suc (length H)) f (placement H)) s.held refl refl
        (shrinks_from H k (Flush f) (λ j n e. e)) flush_keeps;
    placed = flush_placed;
    pinned = pinned_kept H k (Flush f) (placement H) (λ o t. refl) s.pinned;
  }
