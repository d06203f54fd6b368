-- A MERGE: the rows that rest in its inputs lie in its outputs from then on, each once.
use Rattle.std.proofs.Common.{◌≡◌, ℕ, suc, ◌+◌, ◌<◌, ◌≤◌, Bool, true, false, not, ◌&&◌, cond, ◌==◌, nat_le, List, ◌++◌, map, filter, length, Option, Some, None, is_some, refl, sym, ap, subst, ◌∙◌, arith}
use Rattle.std.proofs.lemmas.Bool.{false≢true, and_parts, eqb-true, leb-true, lt-leb, cond-true, cond-false}
use Rattle.s2_value.specs.declared.schemas.Schema.{Schema}
use Rattle.s2_model.specs.declared.entries.MergeNote.{MergeNote}
use Rattle.s2_model.specs.declared.entries.What.TheVariants.{Merge}
use Rattle.s2_model.specs.declared.scripts.Options.{Options}
use Rattle.s2_model.specs.Table.{row_at}
use Rattle.s2_model.specs.History.{History, ◌▷◌, upto, state}
use Rattle.s2_model.specs.Placement.{Spot, Segment, placement, is_in_use, is_free, is_visible, is_alive, is_unmarked, contains_number, contains_place, new_spots, new_segment, merged_segments, end_segment, died_at, after_merge}
use Rattle.s2_model.specs.Plan.{rests_in, writes, row_ids, cut, numbered}
use Rattle.s2_model.specs.Fits.{last_segment, last_number, next_segment, MergeFits, AllFit}
use Rattle.s2_model.proofs.Lists.{bit, Each, total-append, total-map, total_same, total_zero, each-append, each-map, each_all, each_weaker, each_both, each_any}
use Rattle.s2_model.proofs.Times.{IsBy, by_set, done_set_before, SegmentBy, placed_by_more, segment_by_more, alive_in_use, unmarked_free, count_now, count_versions, count_segments, count_spots}
use Rattle.s2_model.proofs.Invariant.{size, Lasts, SpotTells, SegmentTells, IsPlacedWell, IsSound, placed_step, now_from_numbers, lasts_new, spot_tells_died, spot_tells_new}
use Rattle.s2_model.proofs.Kept.{entry_of, versions_kept, segment_kept, held_kept, shrinks_from, pinned_kept}
use Rattle.s2_model.proofs.WriteStep.{size_le}
use Rattle.s2_model.proofs.MoveStep.{count_ids}
use Rattle.s2_model.proofs.Chosen.{count_rows, count_row_ids, total-file_order, rising_count, count_rows-filter, spot_of}
use Rattle.s2_model.proofs.OldRows.{has_free, rests_at, SinceBase, since_base, plan_by, last_rises, last_numbered, numbered_to}
use Rattle.s2_model.proofs.Merged.{carried_in, merged_as, merged_are, merged_count, cut_count, count_old, rests_counts, rests_none, died_count}

abbrev merged : History → ℕ → MergeNote → History
merged H k m = H ▷ entry_of k (Merge m)

-- the rows whose places are marked from their birth
abbrev carried : History → MergeNote → ℕ → Bool
carried H m n = not (rests_in m.olds (placement H).segments n)

abbrev written_ids : Schema → History → MergeNote → List ℕ
written_ids schema H m = row_ids (writes schema m.olds (upto m.base H))

abbrev pieces_of : Schema → Options → History → MergeNote → List (List ℕ)
pieces_of schema options H m = cut options.segment_rows (written_ids schema H m)

abbrev dead : ℕ → MergeNote → Segment → Segment
dead t m s = cond (contains_number m.olds s.number) (end_segment t s) s

pub some_rows : (options : Options) → 0 < options.segment_rows
some_rows options =
    leb-true 1 options.segment_rows (and_parts _ _ (and_parts _ _ (and_parts _ _ (and_parts _ _ options.within).0).0).0).0

spot_by : (t : ℕ) (b : Bool) → IsBy t (cond b (Some t) None)
spot_by t true = omega arith
spot_by t false = tt

free_rests : (t : ℕ) (b : Bool) → not (is_some (cond {A = Option ℕ} (not b) (Some t) None)) ≡ true → b ≡ true
free_rests t true e = refl
free_rests t false e = absurd (false≢true e)

module _ (schema : Schema) (options : Options) (H : History) (k : ℕ) (m : MergeNote) (fit : AllFit schema options H) (sounds : (r : ℕ) → IsSound (upto r H))
    (s : IsSound H) (fits : MergeFits schema options H k m) where
  merged_is : merged_segments (suc (length H)) m
      ≡ map (merged_as (suc (length H)) m.base (carried H m)) (numbered (next_segment H) (pieces_of schema options H m))
  merged_is =
      ap (λ marks. map (λ new. new_segment (suc (length H)) new.0 m.base (new_spots (suc (length H)) (contains_place marks new.0) 0 new.1)) m.news) fits.marks
      ∙ ap (λ news. map (λ new. new_segment (suc (length H)) new.0 m.base (new_spots (suc (length H)) (contains_place (carried_in (carried H m) news) new.0) 0 new.1)) news) fits.news
      ∙ merged_are (suc (length H)) m.base (carried H m) (next_segment H) (pieces_of schema options H m)

  since : SinceBase (contains_number m.olds) m.base H
  since = since_base schema options (contains_number m.olds) m.base H fit fits.base
      (plan_by options (upto m.base H) (sounds m.base) m.olds fits.olds) (sounds m.base)

  -- a row that rests in the inputs is written once

  base_once : (n : ℕ) → rests_in m.olds (placement (upto m.base H)).segments n ≡ true → size (row_at (state (upto m.base H)) n) ≡ 1
  base_once n e =
      omega (
        arith,
        rests_counts m.olds n (placement (upto m.base H)).segments e,
        died_count (suc (length H)) m.olds n (placement (upto m.base H)).segments,
        now_from_numbers (upto m.base H) (placement (upto m.base H)) (sounds m.base).placed n,
        size_le (row_at (state (upto m.base H)) n),
      )

  written_once : (n : ℕ) → rests_in m.olds (placement H).segments n ≡ true → count_ids n (written_ids schema H m) ≡ 1
  written_once n e =
      let then' : rests_in m.olds (placement (upto m.base H)).segments n ≡ true = since.rests n e in
      count_row_ids n (writes schema m.olds (upto m.base H))
      ∙ total-file_order (λ p. bit (p.0 == n)) schema (filter (λ p. rests_in m.olds (placement (upto m.base H)).segments p.0) (state (upto m.base H)))
      ∙ count_rows-filter n (rests_in m.olds (placement (upto m.base H)).segments) (state (upto m.base H))
      ∙ cond-true (rests_in m.olds (placement (upto m.base H)).segments n) (count_rows n (state (upto m.base H))) 0 then'
      ∙ rising_count 0 n (state (upto m.base H)) (sounds m.base).held.rising
      ∙ base_once n then'

  -- as many in the new segments as in the old ones
  new_count : (n : ℕ) → count_segments is_in_use is_free n (merged_segments (suc (length H)) m) ≡ count_old (contains_number m.olds) n (placement H).segments
  new_count n =
      ap (count_segments is_in_use is_free n) merged_is
      ∙ merged_count (suc (length H)) m.base n (carried H m) (next_segment H) (pieces_of schema options H m)
      ∙ ap (λ c. cond (carried H m n) 0 c) (cut_count n options.segment_rows (written_ids schema H m) (some_rows options))
      ∙ go (rests_in m.olds (placement H).segments n) refl
    where
      go : (b : Bool) → rests_in m.olds (placement H).segments n ≡ b
          → cond (not (rests_in m.olds (placement H).segments n)) 0 (count_ids n (written_ids schema H m)) ≡ count_old (contains_number m.olds) n (placement H).segments
      go true e =
          cond-false (carried H m n) 0 (count_ids n (written_ids schema H m)) (ap not e)
          ∙ omega (
            arith,
            written_once n e,
            rests_counts m.olds n (placement H).segments e,
            died_count (suc (length H)) m.olds n (placement H).segments,
            now_from_numbers H (placement H) s.placed n,
            size_le (row_at (state H) n),
          )
      go false e =
          cond-true (carried H m n) 0 (count_ids n (written_ids schema H m)) (ap not e)
          ∙ sym (rests_none m.olds n (placement H).segments e)

  merge_now : (n : ℕ) → count_now n (after_merge (suc (length H)) m (placement H)) ≡ size (row_at (state H) n)
  merge_now n =
      omega (
        arith,
        total-append (λ g. cond (is_in_use g) (count_spots is_free n g.spots) 0) (died_at (suc (length H)) m.olds (placement H).segments) (merged_segments (suc (length H)) m),
        new_count n,
        died_count (suc (length H)) m.olds n (placement H).segments,
        now_from_numbers H (placement H) s.placed n,
      )

  -- a row that rests in the inputs has been the same since the base

  spot_lasts : (g : Segment) → SegmentBy (length H) g → g.base ≤ m.base → is_in_use g ≡ true → (x : Spot) → IsBy (length H) x.mark → SpotTells H g x
      → is_free x ≡ true → Lasts (merged H k m) m.base x.id (suc (length H))
  spot_lasts g by le used x mark tells free =
      lasts_new H (entry_of k (Merge m)) m.base x.id fits.base refl
      (λ q from to. since_base_of q (omega arith) to ∙ sym (since_base_of m.base le fits.base))
    where
      since_base_of : Lasts H g.base x.id (length H)
      since_base_of = tells (length H) (omega arith)
          (alive_in_use (length H) (length H) g by (omega arith) ∙ used)
          (unmarked_free (length H) (length H) x mark (omega arith) ∙ free)

  rest_lasts : (n : ℕ) → rests_in m.olds (placement H).segments n ≡ true → Lasts (merged H k m) m.base n (suc (length H))
  rest_lasts n e =
      each_any (λ g. (SegmentBy (length H) g × SegmentTells H g) × (contains_number m.olds g.number ≡ true → g.base ≤ m.base))
      (rests_at (contains_number m.olds) n) (Lasts (merged H k m) m.base n (suc (length H)))
      (λ g b r. in_segment g b.0.0 b.0.1 (b.1 (and_parts _ _ (and_parts _ _ r).0).0) (and_parts _ _ (and_parts _ _ r).0).1 (and_parts _ _ r).1)
      (placement H).segments
      (each_both (λ g. SegmentBy (length H) g × SegmentTells H g) (λ g. contains_number m.olds g.number ≡ true → g.base ≤ m.base)
      (λ g. (SegmentBy (length H) g × SegmentTells H g) × (contains_number m.olds g.number ≡ true → g.base ≤ m.base)) (λ g a b. (a, b))
      (placement H).segments
      (each_both (SegmentBy (length H)) (SegmentTells H) (λ g. SegmentBy (length H) g × SegmentTells H g) (λ g a b. (a, b))
      (placement H).segments s.placed.by.segments s.placed.segments_tell)
      since.bases)
      e
    where
      in_segment : (g : Segment) → SegmentBy (length H) g → SegmentTells H g → g.base ≤ m.base → is_in_use g ≡ true → has_free n g.spots ≡ true
          → Lasts (merged H k m) m.base n (suc (length H))
      in_segment g by tells le used has =
          each_any (λ x. IsBy (length H) x.mark × SpotTells H g x) (λ x. x.id == n && is_free x) (Lasts (merged H k m) m.base n (suc (length H)))
          (λ x b r. subst (λ i. Lasts (merged H k m) m.base i (suc (length H))) (eqb-true x.id n (and_parts (x.id == n) (is_free x) r).0)
          (spot_lasts g by le used x b.0 b.1 (and_parts (x.id == n) (is_free x) r).1))
          g.spots
          (each_both (λ x. IsBy (length H) x.mark) (SpotTells H g) (λ x. IsBy (length H) x.mark × SpotTells H g x) (λ x a b. (a, b)) g.spots by.marks tells)
          has

  -- the step

  old_by : (g : Segment) → SegmentBy (length H) g → SegmentBy (suc (length H)) (dead (suc (length H)) m g)
  old_by g b = go (contains_number m.olds g.number)
    where
      more : SegmentBy (suc (length H)) g
      more = segment_by_more (length H) (suc (length H)) (omega arith) g b

      go : (c : Bool) → SegmentBy (suc (length H)) (cond c (end_segment (suc (length H)) g) g)
      go true = record { base = more.base; born = more.born; died = by_set (length H) (suc (length H)) g.died (omega arith) b.died; marks = more.marks }
      go false = more

  old_tells : (g : Segment) → SegmentBy (length H) g → SegmentTells H g → SegmentTells (merged H k m) (dead (suc (length H)) m g)
  old_tells g b tells = go (contains_number m.olds g.number)
    where
      go : (c : Bool) → SegmentTells (merged H k m) (cond c (end_segment (suc (length H)) g) g)
      go true = each_weaker (SpotTells H g) (SpotTells (merged H k m) (end_segment (suc (length H)) g)) (λ x t. spot_tells_died H (entry_of k (Merge m)) g x b t) g.spots tells
      go false = segment_kept H (entry_of k (Merge m)) (λ n. refl) g b tells

  new_by : (new : ℕ × List ℕ) → SegmentBy (suc (length H)) (merged_as (suc (length H)) m.base (carried H m) new)
  new_by new = record {
    base = omega (arith, fits.base);
    born = omega arith;
    died = tt;
    marks = each-map (λ n. Unit {0}) (λ x. IsBy (suc (length H)) x.mark) (spot_of (suc (length H)) (carried H m)) (λ n u. spot_by (suc (length H)) (carried H m n)) new.1 (each_all (λ n. Unit {0}) (λ n. tt) new.1);
  }

  new_tells : (new : ℕ × List ℕ) → SegmentTells (merged H k m) (merged_as (suc (length H)) m.base (carried H m) new)
  new_tells new =
      each-map (λ n. Unit {0}) (SpotTells (merged H k m) (merged_as (suc (length H)) m.base (carried H m) new)) (spot_of (suc (length H)) (carried H m))
      (λ n u. spot_tells_new H (entry_of k (Merge m)) (merged_as (suc (length H)) m.base (carried H m) new) (spot_of (suc (length H)) (carried H m) n) refl
      (λ free. rest_lasts n (free_rests (suc (length H)) (rests_in m.olds (placement H).segments n) free))
      (spot_by (suc (length H)) (carried H m n)))
      new.1 (each_all (λ n. Unit {0}) (λ n. tt) new.1)

  each_new : (Q : Segment → Type 0) → ((new : ℕ × List ℕ) → Q (merged_as (suc (length H)) m.base (carried H m) new)) → Each Q (merged_segments (suc (length H)) m)
  each_new Q all =
      subst (Each Q) (sym merged_is)
      (each-map (λ new. Unit {0}) Q (merged_as (suc (length H)) m.base (carried H m)) (λ new u. all new)
      (numbered (next_segment H) (pieces_of schema options H m)) (each_all (λ new. Unit {0}) (λ new. tt) (numbered (next_segment H) (pieces_of schema options H m))))

  merge_old : (r n : ℕ) → r ≤ length H → count_segments (is_alive r) (is_unmarked r) n (died_at (suc (length H)) m.olds (placement H).segments ++ merged_segments (suc (length H)) m)
      ≡ count_segments (is_alive r) (is_unmarked r) n (placement H).segments
  merge_old r n le =
      omega (
        arith,
        total-append (λ g. cond (is_alive r g) (count_spots (is_unmarked r) n g.spots) 0) (died_at (suc (length H)) m.olds (placement H).segments) (merged_segments (suc (length H)) m),
        total-map (λ g. cond (is_alive r g) (count_spots (is_unmarked r) n g.spots) 0) (dead (suc (length H)) m) (placement H).segments
            ∙ total_same (λ g. cond (is_alive r (dead (suc (length H)) m g)) (count_spots (is_unmarked r) n (dead (suc (length H)) m g).spots) 0)
            (λ g. cond (is_alive r g) (count_spots (is_unmarked r) n g.spots) 0) (placement H).segments
            (each_all _ (λ g. same g (contains_number m.olds g.number)) (placement H).segments),
        total_zero (λ g. cond (is_alive r g) (count_spots (is_unmarked r) n g.spots) 0) (merged_segments (suc (length H)) m)
            (each_new (λ g. cond (is_alive r g) (count_spots (is_unmarked r) n g.spots) 0 ≡ 0) unborn),
      )
    where
      same : (g : Segment) (c : Bool)
          → cond (is_alive r (cond c (end_segment (suc (length H)) g) g)) (count_spots (is_unmarked r) n (cond c (end_segment (suc (length H)) g) g).spots) 0
          ≡ cond (is_alive r g) (count_spots (is_unmarked r) n g.spots) 0
      same g true = ap (λ d. cond (nat_le g.born r && not d) (count_spots (is_unmarked r) n g.spots) 0) (done_set_before r (suc (length H)) g.died (omega arith))
      same g false = refl

      unborn : (new : ℕ × List ℕ) → cond (is_alive r (merged_as (suc (length H)) m.base (carried H m) new)) (count_spots (is_unmarked r) n (merged_as (suc (length H)) m.base (carried H m) new).spots) 0 ≡ 0
      unborn new = ap (λ b. cond (b && true) (count_spots (is_unmarked r) n (merged_as (suc (length H)) m.base (carried H m) new).spots) 0) (lt-leb (suc (length H)) r (omega arith))

  merge_named : Each (λ g. g.number ≤ last_number m.news (last_segment H)) (died_at (suc (length H)) m.olds (placement H).segments ++ merged_segments (suc (length H)) m)
  merge_named =
      each-append (λ g. g.number ≤ last_number m.news (last_segment H)) (died_at (suc (length H)) m.olds (placement H).segments) (merged_segments (suc (length H)) m)
      (each-map (λ g. g.number ≤ last_segment H) (λ g. g.number ≤ last_number m.news (last_segment H)) (dead (suc (length H)) m)
      (λ g le. old g (contains_number m.olds g.number) (omega (arith, last_rises schema options H k (Merge m) fits))) (placement H).segments s.placed.named)
      (each-map (λ new. new.0 ≤ last_number m.news (last_segment H)) (λ g. g.number ≤ last_number m.news (last_segment H))
      (λ new. new_segment (suc (length H)) new.0 m.base (new_spots (suc (length H)) (contains_place m.marked new.0) 0 new.1)) (λ new le. le) m.news
      (subst (λ news. Each (λ new. new.0 ≤ last_number news (last_segment H)) news) (sym fits.news)
      (each_weaker (λ new. new.0 ≤ last_segment H + length (pieces_of schema options H m))
      (λ new. new.0 ≤ last_number (numbered (next_segment H) (pieces_of schema options H m)) (last_segment H))
      (λ new le. omega (arith, last_numbered (last_segment H) (pieces_of schema options H m)))
      (numbered (next_segment H) (pieces_of schema options H m)) (numbered_to (last_segment H) (pieces_of schema options H m)))))
    where
      old : (g : Segment) (c : Bool) → g.number ≤ last_number m.news (last_segment H) → (cond c (end_segment (suc (length H)) g) g).number ≤ last_number m.news (last_segment H)
      old g true le = le
      old g false le = le

  merge_placed : IsPlacedWell (merged H k m) (after_merge (suc (length H)) m (placement H))
  merge_placed = placed_step H (entry_of k (Merge m)) (placement H) (after_merge (suc (length H)) m (placement H)) s.placed (record {
    by = record {
      versions = (placed_by_more (length H) (suc (length H)) (omega arith) (placement H) s.placed.by).versions;
      segments = each-append (SegmentBy (suc (length H))) (died_at (suc (length H)) m.olds (placement H).segments) (merged_segments (suc (length H)) m)
          (each-map (SegmentBy (length H)) (SegmentBy (suc (length H))) (dead (suc (length H)) m) old_by (placement H).segments s.placed.by.segments)
          (each_new (SegmentBy (suc (length H))) new_by);
    };
    versions_tell = versions_kept H (entry_of k (Merge m)) (λ n. refl) (placement H).versions s.placed.by.versions s.placed.versions_tell;
    segments_tell = each-append (SegmentTells (merged H k m)) (died_at (suc (length H)) m.olds (placement H).segments) (merged_segments (suc (length H)) m)
        (each-map (λ g. SegmentBy (length H) g × SegmentTells H g) (SegmentTells (merged H k m)) (dead (suc (length H)) m) (λ g b. old_tells g b.0 b.1) (placement H).segments
        (each_both (SegmentBy (length H)) (SegmentTells H) (λ g. SegmentBy (length H) g × SegmentTells H g) (λ g a b. (a, b))
        (placement H).segments s.placed.by.segments s.placed.segments_tell))
        (each_new (SegmentTells (merged H k m)) new_tells);
    old = λ r n from to. ap (λ c. count_versions (is_visible r) n (placement H).versions + c) (merge_old r n to);
    now = merge_now;
    horizon_rises = omega arith;
    horizon_by = omega (arith, s.placed.horizon_by);
    named = merge_named;
  })

  pub merge_sound : IsSound (merged H k m)
  merge_sound = record {
    held = held_kept H (entry_of k (Merge m)) (placement H) (after_merge (suc (length H)) m (placement H)) s.held refl refl
        (shrinks_from H k (Merge m) (λ j n e. e)) (λ j n held e. e);
    placed = merge_placed;
    pinned = pinned_kept H k (Merge m) (placement H) (λ o t. refl) s.pinned;
  }
