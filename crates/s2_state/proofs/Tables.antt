-- Tables with the same rows are one table.
use Rattle.std.proofs.Common.{◌≡◌, ℕ, ◌<◌, ◌≤◌, Bool, true, false, cond, ◌==◌, nat_lt, [], ◌∷◌, Option, Some, None, is_some, refl, sym, ap, ap₂, ◌∙◌, ⊎_elim, arith}
use Rattle.std.specs.List.{list_all}
use Rattle.std.proofs.lemmas.Bool.{false≢true, lt-ltb, and_parts, and_from, eqb-true, eq-eqb, cases_order}
use Rattle.s2_model.specs.Table.{Table, RowOf, row_at, rises_above, IsTable}
use Rattle.s2_model.proofs.Tables.{above_low}
use Rattle.s2_rowstore.specs.Lines.{for_row}
use Rattle.s2_rowstore.specs.Visible.{are_rising, numbers}

pub row_for : (rows : Table) (n : ℕ) → for_row rows n ≡ row_at rows n
row_for [] n = refl
row_for (p ∷ rows) n = ap (cond (p.0 == n) (Some p.1)) (row_for rows n)

parts : (a b : Bool) → cond a b false ≡ true → (a ≡ true) × (b ≡ true)
parts true b e = (refl, e)
parts false b e = absurd (false≢true e)

-- a number that isn't above the least has no row
none_low : (low n : ℕ) (rows : Table) → n ≤ low → rises_above low rows ≡ true → row_at rows n ≡ None
none_low low n rows le up = go (row_at rows n) refl
  where
    go : (o : Option RowOf) → row_at rows n ≡ o → o ≡ None
    go None e = refl
    go (Some x) e = absurd (omega (arith, above_low low rows n up (ap is_some e)))

at_head : (p : ℕ × RowOf) (rows : Table) → row_at (p ∷ rows) p.0 ≡ Some p.1
at_head p rows = ap (λ b. cond b (Some p.1) (row_at rows p.0)) (eq-eqb p.0 p.0 refl)

-- the first row of one table is that of the other
first_not_below : (a : ℕ) (p q : ℕ × RowOf) (rows table : Table) → rises_above q.0 table ≡ true → p.0 < q.0 → row_at (p ∷ rows) p.0 ≡ row_at (q ∷ table) p.0 → ⊥
first_not_below a p q rows table up lt same =
    let low : rises_above p.0 (q ∷ table) ≡ true = ap (λ b. cond b (rises_above q.0 table) false) (lt-ltb p.0 q.0 lt) ∙ up in
    false≢true (ap is_some (sym (none_low p.0 p.0 (q ∷ table) (omega arith) low) ∙ sym same ∙ at_head p rows))

pub same_tables : (a b : ℕ) (rows table : Table) → rises_above a rows ≡ true → rises_above b table ≡ true → ((n : ℕ) → row_at rows n ≡ row_at table n) → rows ≡ table
same_tables a b [] [] up vp same = refl
same_tables a b [] (q ∷ table) up vp same = absurd (false≢true (ap is_some (same q.0 ∙ at_head q table)))
same_tables a b (p ∷ rows) [] up vp same = absurd (false≢true (ap is_some (sym (same p.0) ∙ at_head p rows)))
same_tables a b (p ∷ rows) (q ∷ table) up vp same =
    let rows_up : rises_above p.0 rows ≡ true = (parts (nat_lt a p.0) (rises_above p.0 rows) up).1 in
    let table_up : rises_above q.0 table ≡ true = (parts (nat_lt b q.0) (rises_above q.0 table) vp).1 in
    ⊎_elim
    (λ (e : p.0 ≡ q.0). heads e (value e) (same_tables p.0 q.0 rows table rows_up table_up (λ n. tails e rows_up table_up n (p.0 == n) refl)))
    (λ other. ⊎_elim
    (λ lt. absurd (first_not_below 0 p q rows table table_up lt (same p.0)))
    (λ gt. absurd (first_not_below 0 q p table rows rows_up gt (sym (same q.0)))) other)
    (cases_order p.0 q.0)
  where
    value : p.0 ≡ q.0 → p.1 ≡ q.1
    value e =
        let both : Some p.1 ≡ Some q.1 = sym (at_head p rows) ∙ same p.0 ∙ ap (row_at (q ∷ table)) e ∙ at_head q table in
        cc

    heads : p.0 ≡ q.0 → p.1 ≡ q.1 → rows ≡ table → (p ∷ rows) ≡ (q ∷ table)
    heads e f g = ap₂ (λ x xs. x ∷ xs) (ap₂ (λ (m : ℕ) (x : RowOf). (m, x)) e f) g

    tails : p.0 ≡ q.0 → rises_above p.0 rows ≡ true → rises_above q.0 table ≡ true → (n : ℕ) → (b : Bool) → (p.0 == n) ≡ b → row_at rows n ≡ row_at table n
    tails e ru tu n true h =
        let at : p.0 ≡ n = eqb-true p.0 n h in
        none_low p.0 n rows (omega arith) ru ∙ sym (none_low q.0 n table (omega arith) tu)
    tails e ru tu n false h =
        sym (ap (λ b. cond b (Some p.1) (row_at rows n)) h) ∙ same n ∙ ap (λ b. cond b (Some q.1) (row_at table n)) (ap (λ m. m == n) (sym e) ∙ h)

-- rising lists as tables

low_numbers : (rows : Table) → ((n : ℕ) → is_some (row_at rows n) ≡ true → 0 < n) → list_all (nat_lt 0) (numbers rows) ≡ true
low_numbers [] above = refl
low_numbers (p ∷ rows) above =
    and_from _ _ (lt-ltb 0 p.0 (above p.0 (ap is_some (at_head p rows)))) (low_numbers rows (λ n e. above n (still n (p.0 == n) e)))
  where
    still : (n : ℕ) (b : Bool) → is_some (row_at rows n) ≡ true → is_some (cond b (Some p.1) (row_at rows n)) ≡ true
    still n true e = refl
    still n false e = e

rises_from : (low : ℕ) (rows : Table) → list_all (nat_lt low) (numbers rows) ≡ true → are_rising (numbers rows) ≡ true → rises_above low rows ≡ true
rises_from low [] a b = refl
rises_from low (p ∷ rows) a b =
    let first = and_parts _ _ a in
    let later = and_parts _ _ b in
    ap (λ c. cond c (rises_above p.0 rows) false) first.0 ∙ rises_from p.0 rows later.0 later.1

-- a rising list with the rows of a table is that table
pub is_that_table : (rows table : Table) → are_rising (numbers rows) ≡ true → IsTable table → ((n : ℕ) → for_row rows n ≡ row_at table n) → rows ≡ table
is_that_table rows table rising up same =
    same_tables 0 0 rows table
    (rises_from 0 rows (low_numbers rows (λ n e. above_low 0 table n up (ap is_some (sym (equal n)) ∙ e))) rising) up equal
  where
    equal : (n : ℕ) → row_at rows n ≡ row_at table n
    equal n = sym (row_for rows n) ∙ same n
