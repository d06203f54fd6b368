-- Rows made of columns, and columns of rows.
use Rattle.std.proofs.Common.{◌≡◌, ℕ, zero, suc, ◌+◌, ◌-◌, ◌<◌, ◌≤◌, pos, Bool, true, nat_lt, List, [], ◌∷◌, length, drop, get_or, map, replicate, refl, sym, ap, ◌∙◌, arith}
use Rattle.std.specs.Prelude.{zip}
use Rattle.std.specs.List.{list_all, AllByRecursion}
use Rattle.std.proofs.lemmas.Bool.{eqb-true, ltb-true}
use Rattle.std.proofs.lemmas.Bool.Decides.{nat_tests}
use Rattle.std.proofs.Math.Seq.{drop-cons}
use Rattle.s2_value.specs.declared.values.Value.{Value}
use Rattle.s2_value.specs.declared.values.Value.TheVariants.{Int}
use Rattle.s2_value.proofs.KeyLemmas.{both}
use Rattle.s2_model.specs.Files.{row_numbers, rows_of_file}
use Rattle.s2_segment.specs.Places.{has_width}
use Rattle.s2_segment.specs.Rows.{RowOf, column, columns_from, columns_of, beside, rows_of}
use Rattle.s2_segment.proofs.Steps.{drop_end}
use Rattle.s2_segment.proofs.Tables.{AreFull, length-rows}

column_first : (vals : List Value) (rows : List RowOf) → length vals ≡ length rows → column 0 (beside vals rows) ≡ vals
column_first [] rows e = refl
column_first (v ∷ vals) [] e = absurd (omega arith)
column_first (v ∷ vals) (r ∷ rows) e = ap (λ (vs : List Value). v ∷ vs) (column_first vals rows (omega arith))

column_later : (c : ℕ) (vals : List Value) (rows : List RowOf) → length vals ≡ length rows → column (c + 1) (beside vals rows) ≡ column c rows
column_later c [] [] e = refl
column_later c [] (r ∷ rows) e = absurd (omega arith)
column_later c (v ∷ vals) [] e = absurd (omega arith)
column_later c (v ∷ vals) (r ∷ rows) e =
    let s : c + 1 ≡ suc c = omega arith in
    ap (λ (k : ℕ). get_or (v ∷ r) k (Int (pos 0)) ∷ column (c + 1) (beside vals rows)) s ∙ ap (λ (vs : List Value). get_or r c (Int (pos 0)) ∷ vs) (column_later c vals rows (omega arith))

columns_later : (c w : ℕ) (vals : List Value) (rows : List RowOf) → length vals ≡ length rows → columns_from (c + 1) w (beside vals rows) ≡ columns_from c w rows
columns_later c zero vals rows e = refl
columns_later c (suc w) vals rows e =
    ap (λ (vs : List Value). vs ∷ columns_from (c + 1 + 1) w (beside vals rows)) (column_later c vals rows e) ∙ ap (λ (cs : List (List Value)). column c rows ∷ cs) (columns_later (c + 1) w vals rows e)

-- the columns of the rows of columns
pub columns_back : (n : ℕ) (columns : List (List Value)) → AreFull n columns → columns_of (length columns) (rows_of n columns) ≡ columns
columns_back n [] h = refl
columns_back n (vals ∷ columns) h =
    let e : length vals ≡ length (rows_of n columns) = h.0 ∙ sym (length-rows n columns h.1) in
    let one : 0 + 1 ≡ 1 = omega arith in
    ap (λ (vs : List Value). vs ∷ columns_from (0 + 1) (length columns) (beside vals (rows_of n columns))) (column_first vals (rows_of n columns) e)
    ∙ ap (λ (cs : List (List Value)). vals ∷ cs) (columns_later 0 (length columns) vals (rows_of n columns) e ∙ columns_back n columns h.1)

-- each column has as many values as there are rows
pub full_columns : (c w : ℕ) (rows : List RowOf) → AreFull (length rows) (columns_from c w rows)
full_columns c zero rows = tt
full_columns c (suc w) rows = (len rows, full_columns (c + 1) w rows)
  where
    len : (rows : List RowOf) → length (column c rows) ≡ length rows
    len [] = refl
    len (r ∷ rows) = ap suc (len rows)

beside_tails : (c : ℕ) (rows : List RowOf) → list_all (λ r. nat_lt c (length r)) rows ≡ true → beside (column c rows) (map (drop (c + 1)) rows) ≡ map (drop c) rows
beside_tails c [] h = refl
beside_tails c (r ∷ rows) h =
    let b = both (nat_lt c (length r)) (list_all (λ r. nat_lt c (length r)) rows) h in
    let s : suc c ≡ c + 1 = omega arith in
    let here : get_or r c (Int (pos 0)) ∷ drop (c + 1) r ≡ drop c r = sym (drop-cons r c (Int (pos 0)) (ltb-true c (length r) b.0) ∙ ap (λ (k : ℕ). get_or r c (Int (pos 0)) ∷ drop k r) s) in
    ap (λ (x : RowOf). x ∷ beside (column c rows) (map (drop (c + 1)) rows)) here ∙ ap (λ (rs : List RowOf). drop c r ∷ rs) (beside_tails c rows b.1)

wide : (c w : ℕ) (rows : List RowOf) → c < w → list_all (has_width w) rows ≡ true → list_all (λ r. nat_lt c (length r)) rows ≡ true
wide c w [] l h = refl
wide c w (r ∷ rows) l h =
    let b = both (has_width w r) (list_all (has_width w) rows) h in
    let e : length r ≡ w = eqb-true (length r) w b.0 in
    rw (lt c (length r) (omega arith), wide c w rows l b.1) refl
  where
    lt : (a b : ℕ) → a < b → nat_lt a b ≡ true
    lt a b q = grind (arith, nat_tests)

ended : (w : ℕ) (rows : List RowOf) → list_all (has_width w) rows ≡ true → replicate (length rows) [] ≡ map (drop w) rows
ended w [] h = refl
ended w (r ∷ rows) h =
    let b = both (has_width w r) (list_all (has_width w) rows) h in
    let e : length r ≡ w = eqb-true (length r) w b.0 in
    let none : drop w r ≡ [] = drop_end w r (omega arith) in
    ap (λ (x : RowOf). x ∷ replicate (length rows) []) (sym none) ∙ ap (λ (rs : List RowOf). drop w r ∷ rs) (ended w rows b.1)

back : (c k w : ℕ) (rows : List RowOf) → c + k ≡ w → list_all (has_width w) rows ≡ true → rows_of (length rows) (columns_from c k rows) ≡ map (drop c) rows
back c zero w rows e h = let s : w ≡ c = omega arith in ended w rows h ∙ ap (λ (j : ℕ). map (drop j) rows) s
back c (suc k) w rows e h =
    ap (beside (column c rows)) (back (c + 1) k w rows (omega arith) h) ∙ beside_tails c rows (wide c w rows (omega arith) h)

-- the rows of the columns of rows
pub rows_back : (w : ℕ) (rows : List RowOf) → list_all (has_width w) rows ≡ true → rows_of (length rows) (columns_of w rows) ≡ rows
rows_back w rows h = back 0 w w rows (omega arith) h ∙ whole rows
  where
    whole : (rows : List RowOf) → map (drop 0) rows ≡ rows
    whole [] = refl
    whole (r ∷ rows) = ap (λ (rs : List RowOf). r ∷ rs) (whole rows)

pub length-columns : (c w : ℕ) (rows : List RowOf) → length (columns_from c w rows) ≡ w
length-columns c zero rows = refl
length-columns c (suc w) rows = ap suc (length-columns (c + 1) w rows)

-- row numbers with their rows

pub numbers_zip : (ids : List ℕ) (rows : List RowOf) → length ids ≡ length rows → row_numbers (zip ids rows) ≡ ids
numbers_zip [] rows e = refl
numbers_zip (i ∷ ids) [] e = absurd (omega arith)
numbers_zip (i ∷ ids) (r ∷ rows) e = ap (λ (is : List ℕ). i ∷ is) (numbers_zip ids rows (omega arith))

pub rows_zip : (ids : List ℕ) (rows : List RowOf) → length ids ≡ length rows → rows_of_file (zip ids rows) ≡ rows
rows_zip [] [] e = refl
rows_zip [] (r ∷ rows) e = absurd (omega arith)
rows_zip (i ∷ ids) [] e = absurd (omega arith)
rows_zip (i ∷ ids) (r ∷ rows) e = ap (λ (rs : List RowOf). r ∷ rs) (rows_zip ids rows (omega arith))

pub zip_back : (content : List (ℕ × RowOf)) → zip (row_numbers content) (rows_of_file content) ≡ content
zip_back [] = refl
zip_back (p ∷ content) = ap (λ (ps : List (ℕ × RowOf)). p ∷ ps) (zip_back content)
