-- Further laws on histories whose entries fit.
use Rattle.std.proofs.Common.{◌≡◌, ℕ, ◌+◌, ◌≤◌, Bool, true, false, ◌&&◌, cond, ◌==◌, List, [], ◌∷◌, length, sum_by, Option, Some, None, is_some, refl, sym, ap, ap₂, ◌∙◌, ⊎_elim, arith}
use Rattle.std.specs.List.{list_any}
use Rattle.std.proofs.lemmas.List.Sums.{sum_by-cons}
use Rattle.std.proofs.lemmas.Bool.{false≢true, true≢false, and_parts, or_cases, cond-true}
use Rattle.s2_model.specs.declared.entries.What.{What}
use Rattle.s2_model.specs.declared.entries.What.TheVariants.{Commit, Vacuum}
use Rattle.s2_model.specs.Table.{RowOf, row_at}
use Rattle.s2_model.specs.History.{History, ◌▷◌, state}
use Rattle.s2_model.specs.Held.{holds}
use Rattle.s2_model.specs.Placement.{Segment, Placement, placement, is_living, is_in_use, is_free, is_visible, is_alive, is_unmarked}
use Rattle.s2_model.specs.Fits.{FitsAs}
use Rattle.s2_model.specs.Laws.{times_in_segment, times_placed, PlacedRowsAreRows, RestingRowsAreRows, lies_in, RowNumbersAreRight, HorizonsArePinned, is_physical, PhysicalEntriesChangeNoRow, is_commit, OnlyCommitsChange}
use Rattle.s2_model.proofs.Timestamps.{upto_past}
use Rattle.s2_model.proofs.Lists.{bit, total, total_same, each_all, each_weaker, each_both, any_counts}
use Rattle.s2_model.proofs.Tables.{above_low}
use Rattle.s2_model.proofs.Times.{VersionBy, SegmentBy, visible_living, count_at, count_at_now, count_segments, count_spots}
use Rattle.s2_model.proofs.Invariant.{size, row_then, row_then_now, VersionTells, IsSound, now_from_numbers}
use Rattle.s2_model.proofs.WriteStep.{some_from_size, size_le}
use Rattle.s2_model.proofs.CommitStep.{held_lies_nowhere}
use Rattle.s2_model.proofs.UpkeepSteps.{least_rises}
use Rattle.s2_model.proofs.Merged.{rests_counts, died_count}
use Rattle.s2_model.proofs.Whole.{sound, sound_at, placed_is_state}

-- totals in std's words

sum_is : {X : Type 0} (f : X → ℕ) (xs : List X) → sum_by f xs ≡ total f xs
sum_is f [] = refl
sum_is f (x ∷ xs) = sum_by-cons f x xs ∙ ap (λ n. f x + n) (sum_is f xs)

times_are : (r n : ℕ) (P : Placement) → times_placed r n P ≡ count_at r n P
times_are r n P =
    ap₂ ◌+◌ (sum_is (λ v. bit (v.id == n && is_visible r v)) P.versions)
    (sum_is (times_in_segment r n) P.segments
    ∙ total_same (times_in_segment r n) (λ s. cond (is_alive r s) (count_spots (is_unmarked r) n s.spots) 0) P.segments
    (each_all _ (λ s. ap (λ m. cond (is_alive r s) m 0) (sum_is (λ x. bit (x.id == n && is_unmarked r x)) s.spots)) P.segments))

size_is : (o : Option RowOf) → size o ≡ cond (is_some o) 1 0
size_is None = refl
size_is (Some x) = refl

pub places_are_rows : PlacedRowsAreRows
places_are_rows schema options H fit = record {
  versions = s.placed.versions_tell;
  places = s.placed.segments_tell;
  times = λ r n from to. times_are r n (placement H) ∙ s.placed.numbers r n from to ∙ size_is (row_then H r n);
  living = each_both (VersionBy (length H)) (VersionTells H) (λ v. is_living v ≡ true → row_at (state H) v.id ≡ Some v.row)
      (λ v by tells living. sym (row_then_now H v.id) ∙ tells (length H) (omega arith) (visible_living (length H) (length H) v by (omega arith) ∙ living))
      (placement H).versions s.placed.by.versions s.placed.versions_tell;
  bases = each_weaker (SegmentBy (length H)) (λ g. g.base ≤ g.born) (λ g by. by.base) (placement H).segments s.placed.by.segments;
  births = each_weaker (SegmentBy (length H)) (λ g. g.born ≤ length H) (λ g by. by.born) (placement H).segments s.placed.by.segments;
}
  where
    s : IsSound H
    s = sound schema options H fit

pub resting_rows_are_rows : RestingRowsAreRows
resting_rows_are_rows schema options H fit numbers n e =
    some_from_size (row_at (state H) n)
    (omega (
      arith,
      rests_counts numbers n (placement H).segments e,
      died_count 0 numbers n (placement H).segments,
      now_from_numbers H (placement H) (sound schema options H fit).placed n,
    ))

lies_counts : (n : ℕ) (segments : List Segment) → lies_in segments n ≡ true → 1 ≤ count_segments is_in_use is_free n segments
lies_counts n [] e = absurd (false≢true e)
lies_counts n (s ∷ segments) e =
    ⊎_elim
    (λ (here : (is_in_use s && list_any (λ x. x.id == n && is_free x) s.spots) ≡ true).
    let both = and_parts (is_in_use s) (list_any (λ x. x.id == n && is_free x) s.spots) here in
    omega (arith, any_counts (λ x. x.id == n && is_free x) s.spots both.1, cond-true (is_in_use s) (count_spots is_free n s.spots) 0 both.0))
    (λ there. omega (arith, lies_counts n segments there))
    (or_cases _ _ e)

times_now : (H : History) → IsSound H → (n : ℕ) → times_placed (length H) n (placement H) ≡ size (row_at (state H) n)
times_now H s n =
    times_are (length H) n (placement H) ∙ count_at_now (length H) (length H) n (omega arith) (placement H) s.placed.by ∙ now_from_numbers H (placement H) s.placed n

placed_row : (H : History) → IsSound H → (n : ℕ) → 1 ≤ times_placed (length H) n (placement H) → is_some (row_at (state H) n) ≡ true
placed_row H s n le = some_from_size (row_at (state H) n) (omega (arith, times_now H s n))

pub row_numbers_are_right : RowNumbersAreRight
row_numbers_are_right schema options H fit = record {
  once = λ n. omega (arith, times_now H s n, size_le (row_at (state H) n));
  rows_from = λ n has. above_low 0 (state H) n s.held.rising has;
  rows_below = λ n has. omega (arith, s.held.rows_below n has);
  placed_from = λ n le. above_low 0 (state H) n s.held.rising (placed_row H s n le);
  placed_below = λ n le. omega (arith, s.held.rows_below n (placed_row H s n le));
  held_from = s.held.above;
  held_below = λ k n held. omega (arith, s.held.below k n held);
  held_lies = λ k n held. nowhere k n held (lies_in (placement H).segments n) refl;
  one_holder = s.held.apart;
  by_session = s.held.sessions;
}
  where
    s : IsSound H
    s = sound schema options H fit

    nowhere : (k n : ℕ) → holds H k n ≡ true → (b : Bool) → lies_in (placement H).segments n ≡ b → b ≡ false
    nowhere k n held true e = absurd (omega (arith, lies_counts n (placement H).segments e, held_lies_nowhere H s k n held))
    nowhere k n held false e = refl

pub horizons_are_pinned : HorizonsArePinned
horizons_are_pinned schema options H fit = record {
  by = (sound schema options H fit).placed.horizon_by;
  pins = (sound schema options H fit).pinned;
}

pub only_commits_change : OnlyCommitsChange
only_commits_change H e other = go e.what other
  where
    go : (w : What) → is_commit w ≡ false → state (H ▷ record { actor = e.actor; what = w }) ≡ state H
    go Commit f = absurd (true≢false f)
    go _ f = refl

pub physical_entries_change_no_row : PhysicalEntriesChangeNoRow
physical_entries_change_no_row schema options H e fit physical = record {
  content = content e.what physical;
  horizon = rises e.what fit.1;
  placed = λ r from to.
      (placed_is_state (H ▷ e) (sound_at schema options (H ▷ e) fit) (sound schema options (H ▷ e) fit)).rows r from (omega arith)
      ∙ ap state (upto_past r H e to)
      ∙ sym ((placed_is_state H (sound_at schema options H fit.0) (sound schema options H fit.0)).rows r (omega (arith, rises e.what fit.1)) to);
}
  where
    content : (w : What) → is_physical w ≡ true → state (H ▷ record { actor = e.actor; what = w }) ≡ state H
    content Commit f = absurd (false≢true f)
    content _ f = refl

    rises : (w : What) → FitsAs schema options H e.actor w → (placement H).horizon ≤ (placement (H ▷ record { actor = e.actor; what = w })).horizon
    rises (Vacuum h) f = omega (arith, f.least, least_rises H (placement H).horizon (sound schema options H fit.0).placed.horizon_by (sound schema options H fit.0).pinned)
    rises _ f = omega arith
