-- The rows that a flush takes or a merge writes: each at most once, and the marks on their new places.
use Rattle.std.proofs.Common.{◌≡◌, ℕ, zero, suc, ◌+◌, ◌<◌, ◌≤◌, Bool, true, false, not, ◌&&◌, ◌||◌, cond, ◌==◌, nat_lt, List, [], ◌∷◌, map, filter, take, drop, Option, Some, None, is_some, refl, sym, ap, ap₂, ◌∙◌, arith}
use Rattle.std.specs.List.{enumerate_from}
use Rattle.std.proofs.lemmas.Bool.{false≢true, both_ways, eqb-true, eq-eqb, ne_eqb, cond-true, cond-false, or_left}
use Rattle.s2_value.specs.declared.schemas.Schema.{Schema}
use Rattle.s2_model.specs.Table.{Table, RowOf, row_at, rises_above}
use Rattle.s2_model.specs.Placement.{Spot, is_free, contains_number, new_spots, free_ids}
use Rattle.s2_model.specs.Plan.{file_order, into_file_order, stands_before, row_ids}
use Rattle.s2_model.specs.Fits.{offsets_where}
use Rattle.s2_model.proofs.Lists.{bit, total, total-map, total_same, each_all}
use Rattle.s2_model.proofs.Tables.{above_low}
use Rattle.s2_model.proofs.Times.{count_spots}
use Rattle.s2_model.proofs.Invariant.{size}
use Rattle.s2_model.proofs.MoveStep.{count_ids}

-- how often a number is that of a row
abbrev pub count_rows : ℕ → Table → ℕ
count_rows n rows = total (λ p. bit (p.0 == n)) rows

pub count_row_ids : (n : ℕ) (rows : Table) → count_ids n (row_ids rows) ≡ count_rows n rows
count_row_ids n rows = total-map (λ m. bit (m == n)) (λ p. p.0) rows

-- file order only moves rows

total-into : (f : ℕ × RowOf → ℕ) (schema : Schema) (p : ℕ × RowOf) (rows : Table) → total f (into_file_order schema p rows) ≡ f p + total f rows
total-into f schema p [] = refl
total-into f schema p (q ∷ rows) =
    elim (stands_before schema p q) as (λ b. total f (cond b (p ∷ q ∷ rows) (q ∷ into_file_order schema p rows)) ≡ f p + (f q + total f rows)) [
      | true ↦ refl
      | false ↦ omega (arith, total-into f schema p rows)
    ]

pub total-file_order : (f : ℕ × RowOf → ℕ) (schema : Schema) (rows : Table) → total f (file_order schema rows) ≡ total f rows
unfolding file_order
total-file_order f schema [] = refl
total-file_order f schema (p ∷ rows) =
    total-into f schema p (file_order schema rows) ∙ ap (λ m. f p + m) (total-file_order f schema rows)

-- in a table each number stands once

pub rising_count : (low n : ℕ) (rows : Table) → rises_above low rows ≡ true → count_rows n rows ≡ size (row_at rows n)
rising_count low n [] up = refl
rising_count low n (p ∷ rows) up =
    let later : rises_above p.0 rows ≡ true = rest (nat_lt low p.0) (rises_above p.0 rows) up in
    go (p.0 == n) refl (rising_count p.0 n rows later) (above_low p.0 rows n later)
  where
    rest : (a b : Bool) → cond a b false ≡ true → b ≡ true
    rest true b e = e
    rest false b e = absurd (false≢true e)

    none : (o : Option RowOf) → (is_some o ≡ true → ⊥) → size o ≡ 0
    none None f = refl
    none (Some x) f = absurd (f refl)

    go : (b : Bool) → (p.0 == n) ≡ b → count_rows n rows ≡ size (row_at rows n) → (is_some (row_at rows n) ≡ true → p.0 < n)
        → bit b + count_rows n rows ≡ size (cond b (Some p.1) (row_at rows n))
    go true e ih above = omega (arith, ih, none (row_at rows n) (λ has. omega (arith, above has, eqb-true p.0 n e)))
    go false e ih above = omega (arith, ih)

pub count_rows-filter : (n : ℕ) (q : ℕ → Bool) (rows : Table) → count_rows n (filter (λ p. q p.0) rows) ≡ cond (q n) (count_rows n rows) 0
count_rows-filter n q [] = go (q n)
  where
    go : (b : Bool) → count_rows n [] ≡ cond b (count_rows n []) 0
    go true = refl
    go false = refl
count_rows-filter n q (p ∷ rows) = go (q p.0) refl (q n) refl (p.0 == n) refl (count_rows-filter n q rows)
  where
    go : (a : Bool) → q p.0 ≡ a → (b : Bool) → q n ≡ b → (c : Bool) → (p.0 == n) ≡ c
        → count_rows n (filter (λ r. q r.0) rows) ≡ cond (q n) (count_rows n rows) 0
        → count_rows n (cond a (p ∷ filter (λ r. q r.0) rows) (filter (λ r. q r.0) rows)) ≡ cond b (bit c + count_rows n rows) 0
    go true e true f true g ih = omega (arith, ih ∙ cond-true (q n) (count_rows n rows) 0 f, ap bit g)
    go true e true f false g ih = omega (arith, ih ∙ cond-true (q n) (count_rows n rows) 0 f, ap bit g)
    go true e false f true g ih = absurd (both_ways _ f (ap q (sym (eqb-true p.0 n g)) ∙ e))
    go true e false f false g ih = omega (arith, ih ∙ cond-false (q n) (count_rows n rows) 0 f, ap bit g)
    go false e true f true g ih = absurd (both_ways _ e (ap q (eqb-true p.0 n g) ∙ f))
    go false e true f false g ih = omega (arith, ih ∙ cond-true (q n) (count_rows n rows) 0 f)
    go false e false f true g ih = ih ∙ cond-false (q n) (count_rows n rows) 0 f
    go false e false f false g ih = ih ∙ cond-false (q n) (count_rows n rows) 0 f

pub total-take-le : {X : Type 0} (f : X → ℕ) (k : ℕ) (xs : List X) → total f (take k xs) ≤ total f xs
total-take-le f zero [] = omega arith
total-take-le f (suc k) [] = omega arith
total-take-le f zero (x ∷ xs) = omega arith
total-take-le f (suc k) (x ∷ xs) = omega (arith, total-take-le f k xs)

pub total-take-drop : {X : Type 0} (f : X → ℕ) (k : ℕ) (xs : List X) → total f (take k xs) + total f (drop k xs) ≡ total f xs
total-take-drop f zero [] = omega arith
total-take-drop f (suc k) [] = omega arith
total-take-drop f zero (x ∷ xs) = omega arith
total-take-drop f (suc k) (x ∷ xs) = omega (arith, total-take-drop f k xs)

-- the place of a new row, marked from its birth where it passes the test
abbrev pub spot_of : ℕ → (ℕ → Bool) → ℕ → Spot
spot_of t test n = record { id = n; mark = cond (test n) (Some t) None }

abbrev offsets_from : ℕ → (ℕ → Bool) → List ℕ → List ℕ
offsets_from o test ids = map (λ p. p.0) (filter (λ p. test p.1) (enumerate_from o ids))

-- offsets before the first stand nowhere
offset_later : (o m : ℕ) (test : ℕ → Bool) (ids : List ℕ) → m < o → contains_number (offsets_from o test ids) m ≡ false
offset_later o m test [] lt = refl
offset_later o m test (n ∷ ids) lt = go (test n) (offset_later (o + 1) m test ids (omega arith))
  where
    other : (o == m) ≡ false
    other = ne_eqb o m (λ e. omega arith)

    go : (b : Bool) → contains_number (offsets_from (o + 1) test ids) m ≡ false
        → contains_number (map (λ p. p.0) (cond b ((o, n) ∷ filter (λ p. test p.1) (enumerate_from (o + 1) ids)) (filter (λ p. test p.1) (enumerate_from (o + 1) ids)))) m ≡ false
    go true ih = ap (λ c. c || contains_number (offsets_from (o + 1) test ids) m) other ∙ ih
    go false ih = ih

pub new_spots_same : (t : ℕ) (f g : ℕ → Bool) (o : ℕ) → ((p : ℕ) → o ≤ p → f p ≡ g p) → (ids : List ℕ) → new_spots t f o ids ≡ new_spots t g o ids
new_spots_same t f g o same [] = refl
new_spots_same t f g o same (n ∷ ids) =
    ap₂ ◌∷◌ (ap (λ b. record { id = n; mark = cond b (Some t) None }) (same o (omega arith)))
    (new_spots_same t f g (o + 1) (λ p le. same p (omega arith)) ids)

spots_from : (t o : ℕ) (test : ℕ → Bool) (ids : List ℕ) → new_spots t (contains_number (offsets_from o test ids)) o ids ≡ map (spot_of t test) ids
spots_from t o test [] = refl
spots_from t o test (n ∷ ids) = go (test n) refl (spots_from t (o + 1) test ids)
  where
    offs : Bool → List ℕ
    offs b = map (λ p. p.0) (cond b ((o, n) ∷ filter (λ p. test p.1) (enumerate_from (o + 1) ids)) (filter (λ p. test p.1) (enumerate_from (o + 1) ids)))

    spot : Bool → Spot
    spot b = record { id = n; mark = cond b (Some t) None }

    go : (b : Bool) → test n ≡ b → new_spots t (contains_number (offsets_from (o + 1) test ids)) (o + 1) ids ≡ map (spot_of t test) ids
        → spot (contains_number (offs b) o) ∷ new_spots t (contains_number (offs b)) (o + 1) ids ≡ spot_of t test n ∷ map (spot_of t test) ids
    go true e ih =
        ap₂ ◌∷◌ (ap spot (or_left (o == o) _ (eq-eqb o o refl) ∙ sym e))
        (new_spots_same t (contains_number (offs true)) (contains_number (offsets_from (o + 1) test ids)) (o + 1)
        (λ p le. ap (λ c. c || contains_number (offsets_from (o + 1) test ids) p) (ne_eqb o p (λ same. omega arith))) ids ∙ ih)
    go false e ih =
        ap₂ ◌∷◌ (ap spot (offset_later (o + 1) o test ids (omega arith) ∙ sym e)) ih

-- the places of new rows, where the marked offsets are those of the numbers that pass
pub spots_where : (t : ℕ) (test : ℕ → Bool) (ids : List ℕ) → new_spots t (contains_number (offsets_where test ids)) 0 ids ≡ map (spot_of t test) ids
spots_where t test ids = spots_from t 0 test ids

free_spot : (t n : ℕ) (test : ℕ → Bool) (m : ℕ) → bit (m == n && is_free (spot_of t test m)) ≡ cond (test n) 0 (bit (m == n))
free_spot t n test m = go (m == n) refl (test m) refl (test n) refl
  where
    go : (a : Bool) → (m == n) ≡ a → (b : Bool) → test m ≡ b → (c : Bool) → test n ≡ c
        → bit (a && not (is_some (cond b (Some t) None))) ≡ cond c 0 (bit a)
    go true e true f true g = refl
    go true e true f false g = absurd (both_ways _ g (ap test (sym (eqb-true m n e)) ∙ f))
    go true e false f true g = absurd (both_ways _ f (ap test (eqb-true m n e) ∙ g))
    go true e false f false g = refl
    go false e b f true g = refl
    go false e b f false g = refl

-- of the new places those of the numbers that don't pass are free
pub count_new_spots : (t n : ℕ) (test : ℕ → Bool) (ids : List ℕ) → count_spots is_free n (map (spot_of t test) ids) ≡ cond (test n) 0 (count_ids n ids)
count_new_spots t n test ids =
    total-map (λ x. bit (x.id == n && is_free x)) (spot_of t test) ids
    ∙ total_same (λ m. bit (m == n && is_free (spot_of t test m))) (λ m. cond (test n) 0 (bit (m == n))) ids (each_all _ (free_spot t n test) ids)
    ∙ out (test n) ids
  where
    out : (b : Bool) (ids : List ℕ) → total (λ m. cond b 0 (bit (m == n))) ids ≡ cond b 0 (count_ids n ids)
    out true [] = refl
    out false [] = refl
    out true (m ∷ ids) = omega (arith, out true ids)
    out false (m ∷ ids) = ap (λ c. bit (m == n) + c) (out false ids)

-- a number of a free place is counted there
pub free_ids_count : (n : ℕ) (spots : List Spot) → count_ids n (free_ids spots) ≡ count_spots is_free n spots
free_ids_count n [] = refl
free_ids_count n (x ∷ spots) = go (is_free x) refl (free_ids_count n spots)
  where
    go : (b : Bool) → is_free x ≡ b → count_ids n (free_ids spots) ≡ count_spots is_free n spots
        → count_ids n (map (λ y. y.id) (cond b (x ∷ filter is_free spots) (filter is_free spots))) ≡ bit (x.id == n && b) + count_spots is_free n spots
    go true e ih = omega (arith, ih, at (x.id == n))
      where
        at : (a : Bool) → bit a ≡ bit (a && true)
        at true = refl
        at false = refl
    go false e ih = omega (arith, ih, at (x.id == n))
      where
        at : (a : Bool) → bit (a && false) ≡ 0
        at true = refl
        at false = refl
