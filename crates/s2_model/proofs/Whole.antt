-- The law on histories: the placed rows are the content.
use Rattle.std.proofs.Common.{◌≡◌, ℕ, ◌+◌, ◌<◌, ◌≤◌, Bool, true, false, not, ◌&&◌, cond, ◌==◌, nat_lt, nat_le, List, [], ◌∷◌, filter, flat_map, option_map, length, Option, Some, None, is_some, refl, sym, ap, ap₂, subst, ◌∙◌, ⊎_elim, arith}
use Rattle.std.specs.List.{cons_option}
use Rattle.std.proofs.lemmas.Bool.Decides.{nat_tests}
use Rattle.std.proofs.lemmas.Bool.{false≢true, ne_eqb, and_parts, eqb-true, eqb-false, eq-eqb, leb-true, cond-false, cases_lt, cases_order}
use Rattle.s2_value.specs.declared.schemas.Schema.{Schema}
use Rattle.s2_model.specs.declared.entries.What.{What}
use Rattle.s2_model.specs.declared.entries.What.TheVariants.{Begin, Write, Commit, Rollback, Pin, Unpin, Move, Flush, Merge, Upload, Evict, Vacuum}
use Rattle.s2_model.specs.declared.scripts.Options.{Options}
use Rattle.s2_model.specs.Table.{Table, RowOf, row_at, rises_above}
use Rattle.s2_model.specs.History.{History, ◌▷◌, upto, state}
use Rattle.s2_model.specs.Placement.{Version, Spot, Segment, placement, is_visible, is_alive, is_unmarked, is_done, rows_at_base, visible_rows, segment_rows, placed_rows}
use Rattle.s2_model.specs.Fits.{FitsAs, AllFit}
use Rattle.s2_model.specs.Laws.{into_order, by_number, PlacedIsState, HistoriesArePlaced}
use Rattle.s2_model.proofs.Timestamps.{upto_all, upto_past}
use Rattle.s2_model.proofs.Histories.{upto_whole}
use Rattle.s2_model.proofs.Lists.{bit, Each, total-append, total-map, total_same, total-filter, each-append, each-map, each_all, each_weaker, each_both}
use Rattle.s2_model.proofs.Tables.{above_low}
use Rattle.s2_model.proofs.Times.{SegmentBy, count_versions, count_segments, count_spots}
use Rattle.s2_model.proofs.Invariant.{size, row_then, Lasts, VersionTells, SpotTells, SegmentTells, IsSound}
use Rattle.s2_model.proofs.Kept.{entry_of, begin_sound, rollback_sound, pin_sound, unpin_sound}
use Rattle.s2_model.proofs.WriteStep.{write_sound, some_from_size}
use Rattle.s2_model.proofs.CommitStep.{commit_sound, places_counted}
use Rattle.s2_model.proofs.MoveStep.{move_sound}
use Rattle.s2_model.proofs.FlushStep.{flush_sound}
use Rattle.s2_model.proofs.MergeStep.{merge_sound}
use Rattle.s2_model.proofs.UpkeepSteps.{upload_sound, evict_sound, vacuum_sound}
use Rattle.s2_model.proofs.Chosen.{count_rows, rising_count}

-- each history whose entries fit is sound at each timestamp

empty_sound : IsSound []
empty_sound = record {
  held = record {
    live = λ k n held has. absurd (false≢true held);
    apart = λ j k n a b. absurd (false≢true a);
    below = λ k n held. absurd (false≢true held);
    sessions = λ k n held. absurd (false≢true held);
    rows_below = λ n has. absurd (false≢true has);
    rising = refl;
    above = λ k n held. absurd (false≢true held);
  };
  placed = record {
    by = record { versions = tt; segments = tt };
    versions_tell = tt;
    segments_tell = tt;
    numbers = λ r n from to. refl;
    horizon_by = omega arith;
    named = tt;
  };
  pinned = λ k u session pin. absurd (cc);
}

sound_step : (schema : Schema) (options : Options) (H : History) (k : ℕ) (w : What) → AllFit schema options H → ((r : ℕ) → IsSound (upto r H)) → IsSound H
    → FitsAs schema options H k w → IsSound (H ▷ entry_of k w)
sound_step schema options H k Begin fit sounds s f = begin_sound H k s
sound_step schema options H k (Write changes) fit sounds s f = write_sound schema H k changes s f
sound_step schema options H k Commit fit sounds s f = commit_sound H k s
sound_step schema options H k Rollback fit sounds s f = rollback_sound H k s
sound_step schema options H k Pin fit sounds s f = pin_sound H k s
sound_step schema options H k Unpin fit sounds s f = unpin_sound H k s
sound_step schema options H k (Move places) fit sounds s f = move_sound H k places s
sound_step schema options H k (Flush n) fit sounds s f = flush_sound schema options H k n sounds s f
sound_step schema options H k (Merge m) fit sounds s f = merge_sound schema options H k m fit sounds s f
sound_step schema options H k (Upload number) fit sounds s f = upload_sound H k number s
sound_step schema options H k (Evict numbers) fit sounds s f = evict_sound H k numbers s
sound_step schema options H k (Vacuum h) fit sounds s f = vacuum_sound H k h s f

pub sound_at : (schema : Schema) (options : Options) (H : History) → AllFit schema options H → (r : ℕ) → IsSound (upto r H)
sound_at schema options [] fit r = empty_sound
sound_at schema options (H ▷ e) fit r =
    ⊎_elim
    (λ lt. subst IsSound (sym (upto_all r (H ▷ e) lt))
    (sound_step schema options H e.actor e.what fit.0 (sound_at schema options H fit.0)
    (subst IsSound (upto_whole H) (sound_at schema options H fit.0 (length H))) fit.1))
    (λ past. subst IsSound (sym (upto_past r H e past)) (sound_at schema options H fit.0 r))
    (cases_lt (length H) r)

pub sound : (schema : Schema) (options : Options) (H : History) → AllFit schema options H → IsSound H
sound schema options H fit = subst IsSound (upto_whole H) (sound_at schema options H fit (length H))

-- the placed rows have the content's values

filter_with : {X : Type 0} (p : X → Bool) (Q : X → Type 0) (xs : List X) → Each (λ x. p x ≡ true → Q x) xs → Each Q (filter p xs)
filter_with p Q [] a = tt
filter_with p Q (x ∷ xs) a = go (p x) refl (filter_with p Q xs a.1)
  where
    go : (b : Bool) → p x ≡ b → Each Q (filter p xs) → Each Q (cond b (x ∷ filter p xs) (filter p xs))
    go true e later = (a.0 e, later)
    go false e later = later

each_flat : {X Y : Type 0} (Q : Y → Type 0) (f : X → List Y) (xs : List X) → Each (λ x. Each Q (f x)) xs → Each Q (flat_map f xs)
each_flat Q f [] a = tt
each_flat Q f (x ∷ xs) a = each-append Q (f x) (flat_map f xs) a.0 (each_flat Q f xs a.1)

-- the row is that of the content at r
abbrev HasRow : History → ℕ → ℕ × RowOf → Type 0
HasRow H r p = row_then H r p.0 ≡ Some p.1

base_rows : (H : History) (b r : ℕ) → b ≤ r → (spots : List Spot) → Each (λ x. Lasts H b x.id r) spots → Each (HasRow H r) (rows_at_base H b spots)
base_rows H b r le [] a = tt
base_rows H b r le (x ∷ spots) a = go (row_then H b x.id) (a.0 r le (omega arith)) (base_rows H b r le spots a.1)
  where
    go : (o : Option RowOf) → row_then H r x.id ≡ o → Each (HasRow H r) (rows_at_base H b spots)
        → Each (HasRow H r) (cons_option (option_map (λ row. (x.id, row)) o) (rows_at_base H b spots))
    go None e later = later
    go (Some row) e later = (e, later)

placed_have : (H : History) → IsSound H → (r : ℕ) → r ≤ length H → Each (HasRow H r) (placed_rows r H)
placed_have H s r le =
    each-append (HasRow H r) (visible_rows r (placement H).versions) (segment_rows r H (placement H).segments)
    (each-map (λ v. row_then H r v.id ≡ Some v.row) (HasRow H r) (λ v. (v.id, v.row)) (λ v e. e) (filter (is_visible r) (placement H).versions)
    (filter_with (is_visible r) (λ v. row_then H r v.id ≡ Some v.row) (placement H).versions
    (each_weaker (VersionTells H) (λ v. is_visible r v ≡ true → row_then H r v.id ≡ Some v.row) (λ v tells seen. tells r le seen) (placement H).versions s.placed.versions_tell)))
    (each_flat (HasRow H r) (λ g. rows_at_base H g.base (filter (is_unmarked r) g.spots)) (filter (is_alive r) (placement H).segments)
    (filter_with (is_alive r) (λ g. Each (HasRow H r) (rows_at_base H g.base (filter (is_unmarked r) g.spots))) (placement H).segments
    (each_both (SegmentBy (length H)) (SegmentTells H) (λ g. is_alive r g ≡ true → Each (HasRow H r) (rows_at_base H g.base (filter (is_unmarked r) g.spots)))
    (λ g by tells alive.
    base_rows H g.base r (omega (arith, by.base, leb-true g.born r (and_parts (nat_le g.born r) (not (is_done r g.died)) alive).0))
    (filter (is_unmarked r) g.spots)
    (filter_with (is_unmarked r) (λ x. Lasts H g.base x.id r) g.spots
    (each_weaker (SpotTells H g) (λ x. is_unmarked r x ≡ true → Lasts H g.base x.id r) (λ x t unmarked. t r le alive unmarked) g.spots tells)))
    (placement H).segments s.placed.by.segments s.placed.segments_tell)))

-- and each number is placed as often as the content has it

versions_count : (r n : ℕ) (versions : List Version) → count_rows n (visible_rows r versions) ≡ count_versions (is_visible r) n versions
versions_count r n versions =
    total-map (λ p. bit (p.0 == n)) (λ v. (v.id, v.row)) (filter (is_visible r) versions)
    ∙ total-filter (λ v. bit (v.id == n)) (is_visible r) versions
    ∙ total_same (λ v. cond (is_visible r v) (bit (v.id == n)) 0) (λ v. bit (v.id == n && is_visible r v)) versions
    (each_all _ (λ v. go (is_visible r v) (v.id == n)) versions)
  where
    go : (b c : Bool) → cond b (bit c) 0 ≡ bit (c && b)
    go true true = refl
    go true false = refl
    go false true = refl
    go false false = refl

-- each place that counts has a row
abbrev SpotHas : History → ℕ → ℕ → Spot → Type 0
SpotHas H b r x = is_unmarked r x ≡ true → is_some (row_then H b x.id) ≡ true

spots_count : (H : History) (b r n : ℕ) (spots : List Spot) → Each (SpotHas H b r) spots
    → count_rows n (rows_at_base H b (filter (is_unmarked r) spots)) ≡ count_spots (is_unmarked r) n spots
spots_count H b r n [] a = refl
spots_count H b r n (x ∷ spots) a = go (is_unmarked r x) refl (spots_count H b r n spots a.1)
  where
    with_row : (o : Option RowOf) → is_some o ≡ true → count_rows n (rows_at_base H b (filter (is_unmarked r) spots)) ≡ count_spots (is_unmarked r) n spots
        → count_rows n (cons_option (option_map (λ row. (x.id, row)) o) (rows_at_base H b (filter (is_unmarked r) spots))) ≡ bit (x.id == n && true) + count_spots (is_unmarked r) n spots
    with_row None has ih = absurd (false≢true has)
    with_row (Some row) has ih = ap₂ ◌+◌ (at (x.id == n)) ih
      where
        at : (c : Bool) → bit c ≡ bit (c && true)
        at true = refl
        at false = refl

    go : (c : Bool) → is_unmarked r x ≡ c → count_rows n (rows_at_base H b (filter (is_unmarked r) spots)) ≡ count_spots (is_unmarked r) n spots
        → count_rows n (rows_at_base H b (cond c (x ∷ filter (is_unmarked r) spots) (filter (is_unmarked r) spots))) ≡ bit (x.id == n && c) + count_spots (is_unmarked r) n spots
    go true e ih = with_row (row_then H b x.id) (a.0 e) ih
    go false e ih = omega (arith, ih, at (x.id == n))
      where
        at : (c : Bool) → bit (c && false) ≡ 0
        at true = refl
        at false = refl

segments_count : (H : History) (r n : ℕ) (segments : List Segment) → Each (λ g. is_alive r g ≡ true → Each (SpotHas H g.base r) g.spots) segments
    → count_rows n (segment_rows r H segments) ≡ count_segments (is_alive r) (is_unmarked r) n segments
segments_count H r n [] a = refl
segments_count H r n (g ∷ segments) a = go (is_alive r g) refl (segments_count H r n segments a.1)
  where
    go : (c : Bool) → is_alive r g ≡ c → count_rows n (segment_rows r H segments) ≡ count_segments (is_alive r) (is_unmarked r) n segments
        → count_rows n (flat_map (λ s. rows_at_base H s.base (filter (is_unmarked r) s.spots)) (cond c (g ∷ filter (is_alive r) segments) (filter (is_alive r) segments)))
        ≡ cond c (count_spots (is_unmarked r) n g.spots) 0 + count_segments (is_alive r) (is_unmarked r) n segments
    go true e ih =
        total-append (λ p. bit (p.0 == n)) (rows_at_base H g.base (filter (is_unmarked r) g.spots)) (segment_rows r H segments)
        ∙ ap₂ ◌+◌ (spots_count H g.base r n g.spots (a.0 e)) ih
    go false e ih = omega (arith, ih)

spots_have : (H : History) → IsSound H → (r : ℕ) → (placement H).horizon ≤ r → r ≤ length H
    → Each (λ g. is_alive r g ≡ true → Each (SpotHas H g.base r) g.spots) (placement H).segments
spots_have H s r from to =
    each_both (λ g. SegmentBy (length H) g × SegmentTells H g)
    (λ g. Each (λ x. is_alive r g ≡ true → is_unmarked r x ≡ true → 1 ≤ count_segments (is_alive r) (is_unmarked r) x.id (placement H).segments) g.spots)
    (λ g. is_alive r g ≡ true → Each (SpotHas H g.base r) g.spots)
    (λ g b counts alive.
    each_both (SpotTells H g) (λ x. is_alive r g ≡ true → is_unmarked r x ≡ true → 1 ≤ count_segments (is_alive r) (is_unmarked r) x.id (placement H).segments) (SpotHas H g.base r)
    (λ x tells count unmarked.
    ap is_some (sym (tells r to alive unmarked r (omega (arith, b.0.base, leb-true g.born r (and_parts (nat_le g.born r) (not (is_done r g.died)) alive).0)) (omega arith)))
    ∙ some_from_size (row_then H r x.id) (omega (arith, count alive unmarked, s.placed.numbers r x.id from to)))
    g.spots b.1 counts)
    (placement H).segments
    (each_both (SegmentBy (length H)) (SegmentTells H) (λ g. SegmentBy (length H) g × SegmentTells H g) (λ g a b. (a, b)) (placement H).segments s.placed.by.segments s.placed.segments_tell)
    (places_counted (is_alive r) (is_unmarked r) (placement H).segments)

placed_count : (H : History) → IsSound H → (r n : ℕ) → (placement H).horizon ≤ r → r ≤ length H → count_rows n (placed_rows r H) ≡ size (row_then H r n)
placed_count H s r n from to =
    total-append (λ p. bit (p.0 == n)) (visible_rows r (placement H).versions) (segment_rows r H (placement H).segments)
    ∙ ap₂ ◌+◌ (versions_count r n (placement H).versions) (segments_count H r n (placement H).segments (spots_have H s r from to))
    ∙ s.placed.numbers r n from to

-- rows in order

abbrev from_low : ℕ → Table → Bool
from_low low [] = true
from_low low (p ∷ rows) = nat_le low p.0 && from_low p.0 rows

low_lower : (low high : ℕ) (rows : Table) → low ≤ high → from_low high rows ≡ true → from_low low rows ≡ true
low_lower low high [] le e = refl
low_lower low high (p ∷ rows) le e = grind (arith, nat_tests)

low_into : (low : ℕ) (p : ℕ × RowOf) (rows : Table) → low ≤ p.0 → from_low low rows ≡ true → from_low low (into_order p rows) ≡ true
low_into low p [] le e = grind (arith, nat_tests)
low_into low p (q ∷ rows) le e = grind (arith, nat_tests, low_into q.0 p rows)

low_ordered : (rows : Table) → from_low 0 (by_number rows) ≡ true
low_ordered [] = refl
low_ordered (p ∷ rows) = low_into 0 p (by_number rows) (omega arith) (low_ordered rows)

into_count : (n : ℕ) (p : ℕ × RowOf) (rows : Table) → count_rows n (into_order p rows) ≡ bit (p.0 == n) + count_rows n rows
into_count n p [] = refl
into_count n p (q ∷ rows) =
    elim (nat_le p.0 q.0) as (λ b. count_rows n (cond b (p ∷ q ∷ rows) (q ∷ into_order p rows)) ≡ bit (p.0 == n) + (bit (q.0 == n) + count_rows n rows)) [
      | true ↦ refl
      | false ↦ omega (arith, into_count n p rows)
    ]

ordered_count : (n : ℕ) (rows : Table) → count_rows n (by_number rows) ≡ count_rows n rows
ordered_count n [] = refl
ordered_count n (p ∷ rows) = into_count n p (by_number rows) ∙ ap (λ m. bit (p.0 == n) + m) (ordered_count n rows)

into_each : (Q : ℕ × RowOf → Type 0) (p : ℕ × RowOf) (rows : Table) → Q p → Each Q rows → Each Q (into_order p rows)
into_each Q p [] here a = (here, tt)
into_each Q p (q ∷ rows) here a =
    elim (nat_le p.0 q.0) as (λ b. Each Q (cond b (p ∷ q ∷ rows) (q ∷ into_order p rows))) [
      | true ↦ (here, (a.0, a.1))
      | false ↦ (a.0, into_each Q p rows here a.1)
    ]

ordered_each : (Q : ℕ × RowOf → Type 0) (rows : Table) → Each Q rows → Each Q (by_number rows)
ordered_each Q [] a = tt
ordered_each Q (p ∷ rows) a = into_each Q p (by_number rows) a.0 (ordered_each Q rows a.1)

-- below the least number there is none

none_below : (n low : ℕ) (rows : Table) → n < low → from_low low rows ≡ true → count_rows n rows ≡ 0
none_below n low [] lt e = refl
none_below n low (p ∷ rows) lt e =
    let both = and_parts (nat_le low p.0) (from_low p.0 rows) e in
    let le : low ≤ p.0 = leb-true low p.0 both.0 in
    omega (arith, none_below n p.0 rows (omega arith) both.1, other (p.0 == n) refl le)
  where
    other : (b : Bool) → (p.0 == n) ≡ b → low ≤ p.0 → bit b ≡ 0
    other true f le = absurd (omega (arith, eqb-true p.0 n f))
    other false f le = refl

none_at_low : (n low : ℕ) (rows : Table) → n ≤ low → rises_above low rows ≡ true → count_rows n rows ≡ 0
none_at_low n low rows le up = rising_count low n rows up ∙ go (row_at rows n) (above_low low rows n up)
  where
    go : (o : Option RowOf) → (is_some o ≡ true → low < n) → size o ≡ 0
    go None f = refl
    go (Some x) f = absurd (omega (arith, f refl))

others : (n : ℕ) (rows : Table) → count_rows n rows ≡ 0 → Each (λ p. (p.0 == n) ≡ false) rows
others n [] e = tt
others n (p ∷ rows) e = (go (p.0 == n) refl, others n rows (omega arith))
  where
    go : (b : Bool) → (p.0 == n) ≡ b → b ≡ false
    go true f = absurd (omega (arith, ap bit f))
    go false f = refl

-- rows in order that have a table's numbers and values are the table

bit_same : (n : ℕ) → bit (n == n) ≡ 1
bit_same n = ap bit (eq-eqb n n refl)

bit_other : (m n : ℕ) → (m ≡ n → ⊥) → bit (m == n) ≡ 0
bit_other m n other = ap bit (ne_eqb m n other)

same_first : (p q : ℕ × RowOf) (rows table : Table) → from_low p.0 rows ≡ true → rises_above q.0 table ≡ true
    → ((n : ℕ) → count_rows n (p ∷ rows) ≡ count_rows n (q ∷ table)) → p.0 ≡ q.0
same_first p q rows table low up counts =
    ⊎_elim (λ same. same)
    (λ other. ⊎_elim
    (λ less. absurd (omega (arith, counts p.0, bit_same p.0, bit_other q.0 p.0 (λ e. omega arith), none_at_low p.0 q.0 table (omega arith) up)))
    (λ more. absurd (omega (arith, counts q.0, bit_same q.0, bit_other p.0 q.0 (λ e. omega arith), none_below q.0 p.0 rows more low)))
    other)
    (cases_order p.0 q.0)

ordered_is : (rows table : Table) (a b : ℕ) → from_low a rows ≡ true → rises_above b table ≡ true
    → ((n : ℕ) → count_rows n rows ≡ count_rows n table) → Each (λ p. row_at table p.0 ≡ Some p.1) rows → rows ≡ table
ordered_is [] [] a b low up counts each = refl
ordered_is [] (q ∷ table) a b low up counts each = absurd (omega (arith, counts q.0, bit_same q.0))
ordered_is (p ∷ rows) [] a b low up counts each = absurd (omega (arith, counts p.0, bit_same p.0))
ordered_is (p ∷ rows) (q ∷ table) a b low up counts each =
    let lower = and_parts (nat_le a p.0) (from_low p.0 rows) low in
    let upper : rises_above q.0 table ≡ true = rest (nat_lt b q.0) (rises_above q.0 table) up in
    let at : p.0 ≡ q.0 = same_first p q rows table lower.1 upper counts in
    let row : q.1 ≡ p.1 = value (q.0 == p.0) (eq-eqb q.0 p.0 (sym at)) each.0 in
    ap₂ ◌∷◌ (ap₂ (λ n x. (n, x)) at (sym row))
    (ordered_is rows table p.0 q.0 lower.1 upper (λ n. omega (arith, counts n, ap (λ m. bit (m == n)) at))
    (each_both (λ r. row_at (q ∷ table) r.0 ≡ Some r.1) (λ r. (r.0 == q.0) ≡ false) (λ r. row_at table r.0 ≡ Some r.1)
    (λ r e other. sym (cond-false (q.0 == r.0) (Some q.1) (row_at table r.0) (ne_eqb q.0 r.0 (λ f. eqb-false r.0 q.0 other (sym f)))) ∙ e)
    rows each.1
    (others q.0 rows (omega (arith, counts q.0, bit_same q.0, ap (λ m. bit (m == q.0)) at, none_at_low q.0 q.0 table (omega arith) upper)))))
  where
    rest : (c d : Bool) → cond c d false ≡ true → d ≡ true
    rest true d e = e
    rest false d e = absurd (false≢true e)

    value : (c : Bool) → c ≡ true → cond c (Some q.1) (row_at table p.0) ≡ Some p.1 → q.1 ≡ p.1
    value true f e = cc
    value false f e = absurd (false≢true f)

-- the law

pub placed_is_state : (H : History) → ((r : ℕ) → IsSound (upto r H)) → IsSound H → PlacedIsState H
placed_is_state H sounds s = record {
  rows = λ r from to.
      ordered_is (by_number (placed_rows r H)) (state (upto r H)) 0 0 (low_ordered (placed_rows r H)) (sounds r).held.rising
      (λ n. ordered_count n (placed_rows r H) ∙ placed_count H s r n from to ∙ sym (rising_count 0 n (state (upto r H)) (sounds r).held.rising))
      (ordered_each (HasRow H r) (placed_rows r H) (placed_have H s r to));
  once = λ r. (sounds r).held.rising;
}

pub histories_are_placed : HistoriesArePlaced
histories_are_placed schema options H fit = record {
  placed = placed_is_state H (sound_at schema options H fit) (sound schema options H fit);
  stored = (sound schema options H fit).held.live;
}
