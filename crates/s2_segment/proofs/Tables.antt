-- Columns and their rows.
use Rattle.std.proofs.Common.{◌≡◌, ℕ, zero, suc, ◌+◌, ◌-◌, ◌*◌, ◌<◌, ◌≤◌, pos, Bool, true, false, nat_eq, nat_lt, nat_le, ◌&&◌, List, [], ◌∷◌, ◌++◌, length, take, drop, get_or, map, replicate, refl, sym, ap, subst, ◌∙◌, arith}
use Rattle.std.specs.List.{list_all, AllByRecursion}
use Rattle.std.proofs.lemmas.Bool.{eqb-true, ltb-true, eq-eqb}
use Rattle.std.proofs.lemmas.Bool.Decides.{nat_tests}
use Rattle.std.proofs.lemmas.List.{take_more, map-append, length-map, length-append, length-replicate, get_or-replicate, get_or-map, append_assoc, get_or-append-add}
use Rattle.std.specs.Prelude.{zip}
use Rattle.s2_colbytes.specs.Numbers.{numbers}
use Rattle.s2_colbytes.proofs.Lists.{length-numbers}
use Rattle.s2_value.specs.declared.schemas.Schema.{Schema}
use Rattle.s2_value.specs.declared.values.Value.{Value}
use Rattle.s2_value.specs.declared.values.Value.TheVariants.{Int}
use Rattle.s2_value.specs.Columns.{are_below, is_schema, is_key}
use Rattle.s2_value.specs.Schemas.{keys_of}
use Rattle.s2_value.proofs.KeyLemmas.{both, all_at, schema_keys}
use Rattle.s2_colenc.specs.declared.views.Body.{Body}
use Rattle.s2_colenc.specs.declared.views.Body.TheVariants.{Runs}
use Rattle.s2_colenc.specs.declared.views.Entries.{Entries}
use Rattle.s2_colenc.specs.Column.{values_of, entry_values, repeated, is_whole}
use Rattle.s2_segment.specs.declared.cells.Cells.{Cells}
use Rattle.s2_segment.specs.Runs.{runs_from, places_of}
use Rattle.s2_segment.specs.Cells.{bodies, has_at}
use Rattle.s2_segment.specs.Parts.{Parts, Indexed}
use Rattle.s2_segment.specs.Checks.{fault_of, fault_in, rows_in}
use Rattle.s2_segment.specs.Places.{has_count, has_width}
use Rattle.s2_segment.specs.Rows.{RowOf, beside, rows_of, row_at}

lt : (a b : ℕ) → a < b → nat_lt a b ≡ true
lt a b q = grind (arith, nat_tests)

-- runs

runs_push : (k : ℕ) (lens : List ℕ) (l : ℕ) → runs_from k (lens ++ l ∷ []) ≡ runs_from k lens ++ replicate l (k + length lens)
runs_push k [] l = let e : k ≡ k + 0 = omega arith in nil (replicate l k) ∙ ap (replicate l) e
  where
    nil : (xs : List ℕ) → xs ++ [] ≡ xs
    nil [] = refl
    nil (x ∷ xs) = ap (λ (ys : List ℕ). x ∷ ys) (nil xs)
runs_push k (m ∷ lens) l =
    let e : k + 1 + length lens ≡ k + suc (length lens) = omega arith in
    ap (λ (ks : List ℕ). replicate m k ++ ks) (runs_push (k + 1) lens l ∙ ap (λ (n : ℕ). runs_from (k + 1) lens ++ replicate l n) e)
    ∙ sym (append_assoc (replicate m k) (runs_from (k + 1) lens) (replicate l (k + suc (length lens))))

pub runs_more : (lens : List ℕ) (i x : ℕ) → i < length lens → x ≡ get_or lens i 0 → runs_from 0 (take (i + 1) lens) ≡ runs_from 0 (take i lens) ++ replicate x i
runs_more lens i x l e =
    ap (runs_from 0) (take_more lens i 0 l) ∙ runs_push 0 (take i lens) (get_or lens i 0)
    ∙ ap (λ (n : ℕ). runs_from 0 (take i lens) ++ replicate (get_or lens i 0) n) (count i lens l)
    ∙ ap (λ (n : ℕ). runs_from 0 (take i lens) ++ replicate n i) (sym e)
  where
    count : (i : ℕ) (lens : List ℕ) → i < length lens → 0 + length (take i lens) ≡ i
    count zero [] l = refl
    count zero (x ∷ lens) l = refl
    count (suc i) [] l = absurd (omega arith)
    count (suc i) (x ∷ lens) l = let r = count i lens (omega arith) in omega arith

map_replicate : (f : ℕ → Value) (n k : ℕ) → map f (replicate n k) ≡ replicate n (f k)
map_replicate f zero k = refl
map_replicate f (suc n) k = ap (λ (vs : List Value). f k ∷ vs) (map_replicate f n k)

at_seam : (front vals : List Value) (v d : Value) → get_or (front ++ v ∷ vals) (length front) d ≡ v
at_seam [] vals v d = refl
at_seam (x ∷ front) vals v d = at_seam front vals v d

decoded : (front lens' : List Value) (lens : List ℕ) (d : Value) → length lens ≡ length lens' → repeated lens lens' ≡ map (λ p. get_or (front ++ lens') p d) (runs_from (length front) lens)
decoded front [] [] d e = refl
decoded front (v ∷ vals) [] d e = refl
decoded front [] (l ∷ lens) d e = absurd (omega arith)
decoded front (v ∷ vals) (l ∷ lens) d e =
    let f : ℕ → Value = λ p. get_or (front ++ v ∷ vals) p d in
    let more : front ++ v ∷ vals ≡ (front ++ v ∷ []) ++ vals = sym (append_assoc front (v ∷ []) vals) in
    let many : length (front ++ v ∷ []) ≡ length front + 1 = length-append front (v ∷ []) in
    let later : repeated lens vals ≡ map f (runs_from (length front + 1) lens) =
    decoded (front ++ v ∷ []) vals lens d (omega arith) ∙ ap (λ (xs : List Value). map (λ (p : ℕ). get_or xs p d) (runs_from (length (front ++ v ∷ [])) lens)) (sym more) ∙ ap (λ (n : ℕ). map f (runs_from n lens)) many in
    ap (λ (vs : List Value). replicate l v ++ vs) later
    ∙ ap (λ (w : Value). replicate l w ++ map f (runs_from (length front + 1) lens)) (sym (at_seam front vals v d))
    ∙ ap (λ (vs : List Value). vs ++ map f (runs_from (length front + 1) lens)) (sym (map_replicate f l (length front)))
    ∙ sym (map-append f (replicate l (length front)) (runs_from (length front + 1) lens))

all_replicate : (p : ℕ → Bool) (n k : ℕ) → p k ≡ true → list_all p (replicate n k) ≡ true
all_replicate p zero k h = refl
all_replicate p (suc n) k h = rw (h, all_replicate p n k h) refl

all_append : (p : ℕ → Bool) (xs ys : List ℕ) → list_all p xs ≡ true → list_all p ys ≡ true → list_all p (xs ++ ys) ≡ true
all_append p [] ys h k = k
all_append p (x ∷ xs) ys h k = let b = both (p x) (list_all p xs) h in rw (b.0, all_append p xs ys b.1 k) refl

runs_below : (m k : ℕ) (lens : List ℕ) → k + length lens ≤ m → list_all (λ p. nat_lt p m) (runs_from k lens) ≡ true
runs_below m k [] l = refl
runs_below m k (n ∷ lens) l = all_append (λ p. nat_lt p m) (replicate n k) (runs_from (k + 1) lens) (all_replicate (λ p. nat_lt p m) n k (lt k m (omega arith))) (runs_below m (k + 1) lens (omega arith))

-- value i of a column of runs
pub record Cell (body : Body) (vals : Entries) (runs : List ℕ) (i : ℕ) : Type 0 where
  pub index : i < length runs
  pub place : (k : ℕ) → get_or runs i k < length (entry_values vals)
  pub value : (k : ℕ) (d : Value) → get_or (values_of body) i d ≡ get_or (entry_values vals) (get_or runs i k) d

pub cell : (body : Body) (lens : List ℕ) (vals : Entries) (runs : List ℕ) (i : ℕ) → body ≡ Runs lens vals → is_whole body ≡ true → runs ≡ places_of body → i < length (values_of body) → Cell body vals runs i
cell body lens vals runs i e w r l =
    subst (λ (b : Body). Cell b vals runs i) (sym e) (of_runs (r ∙ ap places_of e) (ap is_whole (sym e) ∙ w) (subst (λ (b : Body). i < length (values_of b)) e l))
  where
    of_runs : runs ≡ runs_from 0 lens → nat_eq (length lens) (length (entry_values vals)) ≡ true → i < length (repeated lens (entry_values vals)) → Cell (Runs lens vals) vals runs i
    of_runs r w l =
        let many : length lens ≡ length (entry_values vals) = eqb-true (length lens) (length (entry_values vals)) w in
        let is : (d : Value) → repeated lens (entry_values vals) ≡ map (λ p. get_or (entry_values vals) p d) (runs_from 0 lens) = λ d. decoded [] (entry_values vals) lens d many in
        let len : length (repeated lens (entry_values vals)) ≡ length (runs_from 0 lens) = ap length (is (Int (pos 0))) ∙ length-map (runs_from 0 lens) (λ (p : ℕ). get_or (entry_values vals) p (Int (pos 0))) in
        let here : i < length (runs_from 0 lens) = omega arith in
        subst (λ (rs : List ℕ). Cell (Runs lens vals) vals rs i) (sym r) (record {
          index = here;
          place = λ k. ltb-true (get_or (runs_from 0 lens) i k) (length (entry_values vals)) (all_at (λ p. nat_lt p (length (entry_values vals))) (runs_from 0 lens) i k here (runs_below (length (entry_values vals)) 0 lens (omega arith)));
          value = λ k d. ap (λ (vs : List Value). get_or vs i d) (is d) ∙ get_or-map (λ (p : ℕ). get_or (entry_values vals) p d) (runs_from 0 lens) i k d here;
        })

-- rows

pub same_default : (vals : List Value) (i : ℕ) (d e : Value) → i < length vals → get_or vals i d ≡ get_or vals i e
same_default [] i d e l = absurd (omega arith)
same_default (v ∷ vals) zero d e l = refl
same_default (v ∷ vals) (suc i) d e l = same_default vals i d e (omega arith)

pub row_push : (cells : List Cells) (x : Cells) (i : ℕ) → row_at (map values_of (bodies (cells ++ x ∷ []))) i ≡ row_at (map values_of (bodies cells)) i ++ get_or (values_of x.column.now) i (Int (pos 0)) ∷ []
row_push [] x i = refl
row_push (y ∷ cells) x i = ap (λ (vs : List Value). get_or (values_of y.column.now) i (Int (pos 0)) ∷ vs) (row_push cells x i)

pub cell_has : (cells : List Cells) (k i : ℕ) (d : Cells) → list_all (has_at i) (bodies cells) ≡ true → k < length cells → d ≡ get_or cells k d → i < length (values_of d.column.now)
cell_has cells k i d h l e = ltb-true i (length (values_of d.column.now)) (subst (λ (x : Cells). has_at i x.column.now ≡ true) (sym e) (at cells k h l))
  where
    at : (cells : List Cells) (k : ℕ) → list_all (has_at i) (bodies cells) ≡ true → k < length cells → has_at i (get_or cells k d).column.now ≡ true
    at [] k h l = absurd (omega arith)
    at (x ∷ cells) zero h l = (both (has_at i x.column.now) (list_all (has_at i) (bodies cells)) h).0
    at (x ∷ cells) (suc k) h l = at cells k (both (has_at i x.column.now) (list_all (has_at i) (bodies cells)) h).1 (omega arith)

pub count_has : (n i : ℕ) (columns : List Body) → i < n → list_all (has_count n) columns ≡ true → list_all (has_at i) columns ≡ true
count_has n i [] l h = refl
count_has n i (b ∷ columns) l h =
    let p = both (has_count n b) (list_all (has_count n) columns) h in
    let e : length (values_of b) ≡ n = eqb-true (length (values_of b)) n p.0 in
    rw (lt i (length (values_of b)) (omega arith), count_has n i columns l p.1) refl

-- each column has n values
abbrev pub AreFull : ℕ → List (List Value) → Type 0
AreFull n columns = AllByRecursion (λ vals. length vals ≡ n) columns

pub full : (n : ℕ) (columns : List Body) → list_all (has_count n) columns ≡ true → AreFull n (map values_of columns)
full n [] h = tt
full n (b ∷ columns) h =
    let p = both (has_count n b) (list_all (has_count n) columns) h in
    (eqb-true (length (values_of b)) n p.0, full n columns p.1)

length-beside : (vals : List Value) (rows : List RowOf) → length vals ≡ length rows → length (beside vals rows) ≡ length vals
length-beside [] rows e = refl
length-beside (v ∷ vals) [] e = absurd (omega arith)
length-beside (v ∷ vals) (r ∷ rows) e = ap suc (length-beside vals rows (omega arith))

pub length-rows : (n : ℕ) (columns : List (List Value)) → AreFull n columns → length (rows_of n columns) ≡ n
length-rows n [] h = length-replicate n []
length-rows n (vals ∷ columns) h = let r = length-rows n columns h.1 in length-beside vals (rows_of n columns) (h.0 ∙ sym r) ∙ h.0

get_or-beside : (vals : List Value) (rows : List RowOf) (i : ℕ) → length vals ≡ length rows → i < length vals → get_or (beside vals rows) i [] ≡ get_or vals i (Int (pos 0)) ∷ get_or rows i []
get_or-beside [] rows i e l = absurd (omega arith)
get_or-beside (v ∷ vals) [] i e l = absurd (omega arith)
get_or-beside (v ∷ vals) (r ∷ rows) zero e l = refl
get_or-beside (v ∷ vals) (r ∷ rows) (suc i) e l = get_or-beside vals rows i (omega arith) (omega arith)

pub get_or-rows : (n i : ℕ) (columns : List (List Value)) → AreFull n columns → i < n → get_or (rows_of n columns) i [] ≡ row_at columns i
get_or-rows n i [] h l = get_or-replicate n i [] [] l
get_or-rows n i (vals ∷ columns) h l =
    let e : length vals ≡ n = h.0 in
    let r = length-rows n columns h.1 in
    get_or-beside vals (rows_of n columns) i (h.0 ∙ sym r) (omega arith) ∙ ap (λ (row : List Value). get_or vals i (Int (pos 0)) ∷ row) (get_or-rows n i columns h.1 l)

width_beside : (w : ℕ) (vals : List Value) (rows : List RowOf) → list_all (has_width w) rows ≡ true → list_all (has_width (suc w)) (beside vals rows) ≡ true
width_beside w [] rows h = refl
width_beside w (v ∷ vals) [] h = refl
width_beside w (v ∷ vals) (r ∷ rows) h =
    let p = both (has_width w r) (list_all (has_width w) rows) h in
    let e : length r ≡ w = eqb-true (length r) w p.0 in
    rw (eq-eqb (suc (length r)) (suc w) (ap suc e), width_beside w vals rows p.1) refl

pub width_rows : (n : ℕ) (columns : List (List Value)) → list_all (has_width (length columns)) (rows_of n columns) ≡ true
width_rows n [] = none n
  where
    none : (n : ℕ) → list_all (has_width 0) (replicate n []) ≡ true
    none zero = refl
    none (suc n) = none n
width_rows n (vals ∷ columns) = width_beside (length columns) vals (rows_of n columns) (width_rows n columns)

-- rows of a width have values at places below it

pub rows_below : (w : ℕ) (places : List ℕ) (rows : List RowOf) → are_below w places ≡ true → list_all (has_width w) rows ≡ true → list_all (λ r. are_below (length r) places) rows ≡ true
rows_below w places [] b h = refl
rows_below w places (r ∷ rows) b h =
    let p = both (has_width w r) (list_all (has_width w) rows) h in
    let here : are_below (length r) places ≡ true = ap (λ (k : ℕ). are_below k places) (eqb-true (length r) w p.0) ∙ b in
    rw (here, rows_below w places rows b p.1) refl

pub all_take : {X : Type 0} (p : X → Bool) (k : ℕ) (xs : List X) → list_all p xs ≡ true → list_all p (take k xs) ≡ true
all_take p zero xs h = refl
all_take p (suc k) [] h = refl
all_take p (suc k) (x ∷ xs) h = let b = both (p x) (list_all p xs) h in rw (b.0, all_take p k xs b.1) refl

pub all_later : {X : Type 0} (p : X → Bool) (k : ℕ) (xs : List X) → list_all p xs ≡ true → list_all p (take k (drop 1 xs)) ≡ true
all_later p k [] h = all_take p k [] refl
all_later p k (x ∷ xs) h = all_take p k xs (both (p x) (list_all p xs) h).1

pub sort_below : (n : ℕ) (us is : List (List ℕ)) (sort : List ℕ) → is_schema n us is sort ≡ true → are_below n sort ≡ true
sort_below n us is sort h = (both _ (are_below n sort) h).1

pub key_short : (n : ℕ) (us is : List (List ℕ)) (sort : List ℕ) (j : ℕ) → is_schema n us is sort ≡ true → j < length (us ++ is) → length (get_or (us ++ is) j []) ≤ 4
key_short n us is sort j h l =
    let k = (both _ _ (all_at (is_key n) (us ++ is) j [] l (schema_keys n us is sort h))).0 in
    let b = both (nat_le 1 (length (get_or (us ++ is) j []))) (nat_le (length (get_or (us ++ is) j [])) 4) k in
    le (length (get_or (us ++ is) j [])) 4 b.1
  where
    le : (a b : ℕ) → nat_le a b ≡ true → a ≤ b
    le a b h = grind (arith, nat_tests)

-- the rows of a view
pub view_rows : (n : ℕ) (ids : List ℕ) (columns : List Body) (indexes : List Indexed) (view : Parts) → record { ids = numbers 8 n ids; columns = columns; indexes = indexes } ≡ view → rows_in view ≡ rows_of n (map values_of columns)
view_rows n ids columns indexes view e = ap rows_in (sym e) ∙ ap (λ (k : ℕ). rows_of k (map values_of columns)) (length-numbers 8 n ids)

-- what is found wrong with the parts of a view
pub fault_is : (schema : Schema) (n : ℕ) (ids : List ℕ) (columns : List Body) (indexes : List Indexed) (rows : List RowOf) (view : Parts) → record { ids = numbers 8 n ids; columns = columns; indexes = indexes } ≡ view → rows ≡ rows_of n (map values_of columns) → length rows ≡ n → fault_of schema (zip (numbers 8 (length rows) ids) rows) indexes rows ≡ fault_in schema view
fault_is schema n ids columns indexes rows view e r l =
    ap (λ (k : ℕ). fault_of schema (zip (numbers 8 k ids) rows) indexes rows) l
    ∙ ap (λ (rs : List RowOf). fault_of schema (zip (numbers 8 n ids) rs) indexes rs) r
    ∙ ap (λ (k : ℕ). fault_of schema (zip (numbers 8 n ids) (rows_of k (map values_of columns))) indexes (rows_of k (map values_of columns))) (sym (length-numbers 8 n ids))
    ∙ ap (fault_in schema) e
