-- The segments that a merge writes: their marks, and how often a row is in them.
use Rattle.std.proofs.Common.{◌≡◌, ℕ, zero, suc, ◌+◌, ◌<◌, ◌≤◌, Bool, true, false, not, ◌&&◌, ◌||◌, cond, ◌==◌, List, [], ◌∷◌, map, flat_map, drop, length, refl, sym, ap, ap₂, ◌∙◌, ⊎_elim, arith}
use Rattle.std.proofs.lemmas.List.Folds.{list_any-append}
use Rattle.std.proofs.lemmas.Bool.{false≢true, both_ways, and_parts, or_cases, eq-eqb, ne_eqb, cond-true}
use Rattle.s2_model.specs.Placement.{Spot, Segment, is_in_use, is_free, contains_number, contains_place, new_spots, new_segment, end_segment, died_at}
use Rattle.s2_model.specs.Plan.{cut, cut_times, numbered, rests_in}
use Rattle.s2_model.specs.Fits.{offsets_where}
use Rattle.s2_model.proofs.Lists.{bit, total, total-map, total_part, each_all, any_counts, counts_any}
use Rattle.s2_model.proofs.Times.{some_set, count_spots, count_segments}
use Rattle.s2_model.proofs.MoveStep.{count_ids}
use Rattle.s2_model.proofs.Chosen.{spot_of, spots_where, new_spots_same, count_new_spots, total-take-drop}
use Rattle.s2_model.proofs.OldRows.{has_free}

-- the marked places of new segments

abbrev places_at : ℕ → List ℕ → List (ℕ × ℕ)
places_at s offsets = map (λ o. (s, o)) offsets

abbrev pub carried_in : (ℕ → Bool) → List (ℕ × List ℕ) → List (ℕ × ℕ)
carried_in test news = flat_map (λ new. places_at new.0 (offsets_where test new.1)) news

places_here : (s o : ℕ) (offsets : List ℕ) → contains_place (places_at s offsets) s o ≡ contains_number offsets o
places_here s o [] = refl
places_here s o (p ∷ offsets) =
    ap₂ ◌||◌ (ap (λ b. b && (p == o)) (eq-eqb s s refl)) (places_here s o offsets)

places_elsewhere : (s m o : ℕ) → (s == m) ≡ false → (offsets : List ℕ) → contains_place (places_at s offsets) m o ≡ false
places_elsewhere s m o other [] = refl
places_elsewhere s m o other (p ∷ offsets) =
    ap (λ b. (b && (p == o)) || contains_place (places_at s offsets) m o) other ∙ places_elsewhere s m o other offsets

carried_none : (test : ℕ → Bool) (s m o : ℕ) → m < s → (pieces : List (List ℕ)) → contains_place (carried_in test (numbered s pieces)) m o ≡ false
carried_none test s m o lt [] = refl
carried_none test s m o lt (ids ∷ pieces) =
    list_any-append (λ p. p.0 == m && p.1 == o) (places_at s (offsets_where test ids)) (carried_in test (numbered (suc s) pieces))
    ∙ ap₂ ◌||◌ (places_elsewhere s m o (ne_eqb s m (λ e. omega arith)) (offsets_where test ids)) (carried_none test (suc s) m o (omega arith) pieces)

carried_here : (test : ℕ → Bool) (s o : ℕ) (ids : List ℕ) (pieces : List (List ℕ))
    → contains_place (carried_in test (numbered s (ids ∷ pieces))) s o ≡ contains_number (offsets_where test ids) o
carried_here test s o ids pieces =
    list_any-append (λ p. p.0 == s && p.1 == o) (places_at s (offsets_where test ids)) (carried_in test (numbered (suc s) pieces))
    ∙ ap₂ ◌||◌ (places_here s o (offsets_where test ids)) (carried_none test (suc s) s o (omega arith) pieces)
    ∙ last (contains_number (offsets_where test ids) o)
  where
    last : (b : Bool) → (b || false) ≡ b
    last true = refl
    last false = refl

carried_later : (test : ℕ → Bool) (s m o : ℕ) → s < m → (ids : List ℕ) (pieces : List (List ℕ))
    → contains_place (carried_in test (numbered s (ids ∷ pieces))) m o ≡ contains_place (carried_in test (numbered (suc s) pieces)) m o
carried_later test s m o lt ids pieces =
    list_any-append (λ p. p.0 == m && p.1 == o) (places_at s (offsets_where test ids)) (carried_in test (numbered (suc s) pieces))
    ∙ ap (λ b. b || contains_place (carried_in test (numbered (suc s) pieces)) m o)
    (places_elsewhere s m o (ne_eqb s m (λ e. omega arith)) (offsets_where test ids))

-- a new segment, with marks on the rows that pass
abbrev pub merged_as : ℕ → ℕ → (ℕ → Bool) → ℕ × List ℕ → Segment
merged_as t b test new = new_segment t new.0 b (map (spot_of t test) new.1)

merged_from : (t b : ℕ) (test : ℕ → Bool) (places : List (ℕ × ℕ)) (s : ℕ) (pieces : List (List ℕ))
    → ((m o : ℕ) → s ≤ m → contains_place places m o ≡ contains_place (carried_in test (numbered s pieces)) m o)
    → map (λ new. new_segment t new.0 b (new_spots t (contains_place places new.0) 0 new.1)) (numbered s pieces) ≡ map (merged_as t b test) (numbered s pieces)
merged_from t b test places s [] same = refl
merged_from t b test places s (ids ∷ pieces) same =
    ap₂ ◌∷◌
    (ap (new_segment t s b)
    (new_spots_same t (contains_place places s) (contains_number (offsets_where test ids)) 0
    (λ o le. same s o (omega arith) ∙ carried_here test s o ids pieces) ids
    ∙ spots_where t test ids))
    (merged_from t b test places (suc s) pieces (λ m o le. same m o (omega arith) ∙ carried_later test s m o le ids pieces))

pub merged_are : (t b : ℕ) (test : ℕ → Bool) (s : ℕ) (pieces : List (List ℕ))
    → map (λ new. new_segment t new.0 b (new_spots t (contains_place (carried_in test (numbered s pieces)) new.0) 0 new.1)) (numbered s pieces)
    ≡ map (merged_as t b test) (numbered s pieces)
merged_are t b test s pieces = merged_from t b test (carried_in test (numbered s pieces)) s pieces (λ m o le. refl)

-- how often a row is free in them

pub merged_count : (t b n : ℕ) (test : ℕ → Bool) (s : ℕ) (pieces : List (List ℕ))
    → count_segments is_in_use is_free n (map (merged_as t b test) (numbered s pieces)) ≡ cond (test n) 0 (total (count_ids n) pieces)
merged_count t b n test s [] = go (test n)
  where
    go : (c : Bool) → total (count_ids n) [] ≡ cond c 0 (total (count_ids n) [])
    go true = refl
    go false = refl
merged_count t b n test s (ids ∷ pieces) = go (test n) (count_new_spots t n test ids) (merged_count t b n test (suc s) pieces)
  where
    go : (c : Bool) → count_spots is_free n (map (spot_of t test) ids) ≡ cond c 0 (count_ids n ids)
        → count_segments is_in_use is_free n (map (merged_as t b test) (numbered (suc s) pieces)) ≡ cond c 0 (total (count_ids n) pieces)
        → count_spots is_free n (map (spot_of t test) ids) + count_segments is_in_use is_free n (map (merged_as t b test) (numbered (suc s) pieces))
        ≡ cond c 0 (count_ids n ids + total (count_ids n) pieces)
    go true e ih = omega arith
    go false e ih = omega arith

cut_counts : (n times size : ℕ) (ids : List ℕ) → 0 < size → length ids ≤ times → total (count_ids n) (cut_times times size ids) ≡ count_ids n ids
cut_counts n times size [] pos le = refl
cut_counts n zero size (i ∷ ids) pos le = absurd (omega arith)
cut_counts n (suc times) size (i ∷ ids) pos le =
    omega (
      arith,
      total-take-drop (λ m. bit (m == n)) size (i ∷ ids),
      cut_counts n times size (drop size (i ∷ ids)) pos (shorter size pos),
    )
  where
    rest : (k : ℕ) (xs : List ℕ) → length (drop k xs) ≤ length xs
    rest zero [] = omega arith
    rest zero (x ∷ xs) = omega arith
    rest (suc k) [] = omega arith
    rest (suc k) (x ∷ xs) = omega (arith, rest k xs)

    shorter : (k : ℕ) → 0 < k → length (drop k (i ∷ ids)) ≤ times
    shorter zero p = absurd (omega arith)
    shorter (suc k) p = omega (arith, rest k ids)

pub cut_count : (n size : ℕ) (ids : List ℕ) → 0 < size → total (count_ids n) (cut size ids) ≡ count_ids n ids
cut_count n size ids pos = cut_counts n (length ids) size ids pos (omega arith)

-- how often a row is free in segments of some numbers

abbrev pub count_old : (ℕ → Bool) → ℕ → List Segment → ℕ
count_old old n segments = total (λ s. cond (old s.number) (cond (is_in_use s) (count_spots is_free n s.spots) 0) 0) segments

free_counts : (n : ℕ) (spots : List Spot) → has_free n spots ≡ true → 1 ≤ count_spots is_free n spots
free_counts n spots e = any_counts (λ x. x.id == n && is_free x) spots e

pub rests_counts : (olds : List ℕ) (n : ℕ) (segments : List Segment) → rests_in olds segments n ≡ true → 1 ≤ count_old (contains_number olds) n segments
rests_counts olds n [] e = absurd (false≢true e)
rests_counts olds n (s ∷ segments) e =
    ⊎_elim
    (λ (here : (contains_number olds s.number && is_in_use s && has_free n s.spots) ≡ true).
    let outer = and_parts (contains_number olds s.number && is_in_use s) (has_free n s.spots) here in
    let inner = and_parts (contains_number olds s.number) (is_in_use s) outer.0 in
    omega (
      arith,
      free_counts n s.spots outer.1,
      cond-true (contains_number olds s.number) (cond (is_in_use s) (count_spots is_free n s.spots) 0) 0 inner.0,
      cond-true (is_in_use s) (count_spots is_free n s.spots) 0 inner.1,
    ))
    (λ there. omega (arith, rests_counts olds n segments there))
    (or_cases _ _ e)

pub rests_none : (olds : List ℕ) (n : ℕ) (segments : List Segment) → rests_in olds segments n ≡ false → count_old (contains_number olds) n segments ≡ 0
rests_none olds n [] e = refl
rests_none olds n (s ∷ segments) e = go (contains_number olds s.number) (is_in_use s) (has_free n s.spots) refl e (rests_none olds n segments)
  where
    none : has_free n s.spots ≡ false → count_spots is_free n s.spots ≡ 0
    none f = least (count_spots is_free n s.spots) refl
      where
        least : (m : ℕ) → count_spots is_free n s.spots ≡ m → m ≡ 0
        least zero g = refl
        least (suc m) g = absurd (both_ways (has_free n s.spots) f (counts_any (λ x. x.id == n && is_free x) s.spots (omega arith)))

    go : (a b c : Bool) → has_free n s.spots ≡ c → ((a && b && c) || rests_in olds segments n) ≡ false
        → (rests_in olds segments n ≡ false → count_old (contains_number olds) n segments ≡ 0)
        → cond a (cond b (count_spots is_free n s.spots) 0) 0 + count_old (contains_number olds) n segments ≡ 0
    go true true true g f ih = absurd (false≢true (sym f))
    go true true false g f ih = omega (arith, none g, ih f)
    go true false c g f ih = omega (arith, ih f)
    go false true c g f ih = omega (arith, ih f)
    go false false c g f ih = omega (arith, ih f)

-- those that die are no longer counted
pub died_count : (t : ℕ) (olds : List ℕ) (n : ℕ) (segments : List Segment)
    → count_segments is_in_use is_free n segments
    ≡ count_segments is_in_use is_free n (died_at t olds segments) + count_old (contains_number olds) n segments
died_count t olds n segments =
    total_part (λ s. cond (is_in_use s) (count_spots is_free n s.spots) 0)
    (λ s. cond (is_in_use (dead s)) (count_spots is_free n (dead s).spots) 0)
    (λ s. cond (contains_number olds s.number) (cond (is_in_use s) (count_spots is_free n s.spots) 0) 0) segments
    (each_all _ (λ s. go s (contains_number olds s.number)) segments)
    ∙ ap (λ m. m + count_old (contains_number olds) n segments) (sym (total-map (λ s. cond (is_in_use s) (count_spots is_free n s.spots) 0) dead segments))
  where
    dead : Segment → Segment
    dead s = cond (contains_number olds s.number) (end_segment t s) s

    go : (s : Segment) (b : Bool)
        → cond (is_in_use s) (count_spots is_free n s.spots) 0
        ≡ cond (is_in_use (cond b (end_segment t s) s)) (count_spots is_free n (cond b (end_segment t s) s).spots) 0
        + cond b (cond (is_in_use s) (count_spots is_free n s.spots) 0) 0
    go s true = omega (arith, ap (λ d. cond (not d) (count_spots is_free n s.spots) 0) (some_set t s.died))
    go s false = omega arith
