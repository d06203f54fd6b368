-- A map by row number is a table.
use Rattle.std.proofs.Common.{◌≡◌, ℕ, Bool, true, false, cond, [], ◌∷◌, Option, Some, refl, sym, ap, ◌∙◌, arith}
use Rattle.std.specs.Prelude.{nat_lt, nat_eq, ◌==◌, is_some, not}
use Rattle.std.specs.declared.cmp.Ordering.TheVariants.{Less, Equal, Greater}
use Rattle.std.specs.Ordering.{nat_cmp, is_eq, match_ordering}
use Rattle.std.specs.BTreeMap.{insert_entry, is_at}
use Rattle.std.specs.Map.{keys_of, lookup, remove_entry}
use Rattle.std.specs.List.{AllByRecursion}
use Rattle.std.specs.List.Sorted.{IsStrictlySortedBy}
use Rattle.std.proofs.lemmas.Bool.Decides.{nat_tests}
use Rattle.std.proofs.lemmas.Bool.{eqb-true}
use Rattle.std.proofs.lemmas.Map.Keys.{sorted_head, sorted_tail}
use Rattle.s2_model.specs.Table.{Table, RowOf, row_at, put_row, drop_row}

put_step : (n : ℕ) (x : RowOf) (p : ℕ × RowOf) (rows : Table) (a b : Bool) → (b ≡ true → n ≡ p.0) → insert_entry nat_cmp rows n x ≡ put_row n x rows
    → match_ordering (cond a Less (cond b Equal Greater)) ((n, x) ∷ p ∷ rows) ((p.0, x) ∷ rows) (p ∷ insert_entry nat_cmp rows n x)
    ≡ cond a ((n, x) ∷ p ∷ rows) (cond b ((n, x) ∷ rows) (p ∷ put_row n x rows))
put_step n x p rows true b same ih = refl
put_step n x p rows false true same ih = ap (λ m. (m, x) ∷ rows) (sym (same refl))
put_step n x p rows false false same ih = ap (λ t. p ∷ t) ih

pub put_entry : (n : ℕ) (x : RowOf) (rows : Table) → insert_entry nat_cmp rows n x ≡ put_row n x rows
put_entry n x [] = refl
put_entry n x (p ∷ rows) = put_step n x p rows (nat_lt n p.0) (n == p.0) (λ e. eqb-true n p.0 e) (put_entry n x rows)

same_test : (m n : ℕ) → is_eq (nat_cmp m n) ≡ nat_eq n m
same_test m n = grind (arith, nat_tests)

less_test : (m n : ℕ) → nat_cmp m n ≡ Less → nat_eq n m ≡ false
less_test m n e = sym (same_test m n) ∙ ap is_eq e

-- rows above a number stay
drop_step : (n : ℕ) (p : ℕ × RowOf) (rows : Table) (b : Bool) → b ≡ false → drop_row n rows ≡ rows → cond (not b) (p ∷ drop_row n rows) (drop_row n rows) ≡ p ∷ rows
drop_step n p rows true e ih = cc
drop_step n p rows false e ih = ap (λ t. p ∷ t) ih

drop_none : (n : ℕ) (rows : Table) → AllByRecursion (λ y. nat_cmp n y ≡ Less) (keys_of rows) → drop_row n rows ≡ rows
drop_none n [] all = refl
drop_none n (p ∷ rows) all = drop_step n p rows (p.0 == n) (less_test n p.0 all.0) (drop_none n rows all.1)

go : (n : ℕ) (p : ℕ × RowOf) (rows : Table) (b : Bool) → (b ≡ true → drop_row n rows ≡ rows) → remove_entry (is_at (nat_cmp n)) rows ≡ drop_row n rows
    → cond b rows (p ∷ remove_entry (is_at (nat_cmp n)) rows) ≡ cond (not b) (p ∷ drop_row n rows) (drop_row n rows)
go n p rows true none ih = sym (none refl)
go n p rows false none ih = ap (λ t. p ∷ t) ih

above : (n : ℕ) (p : ℕ × RowOf) (rows : Table) → n ≡ p.0 → AllByRecursion (λ y. nat_cmp p.0 y ≡ Less) (keys_of rows) → drop_row n rows ≡ rows
above n p rows e all = rw e (drop_none p.0 rows all)

pub drop_entry : (n : ℕ) (rows : Table) → IsStrictlySortedBy nat_cmp (keys_of rows) → remove_entry (is_at (nat_cmp n)) rows ≡ drop_row n rows
drop_entry n [] sorted = refl
drop_entry n (p ∷ rows) sorted =
    ap (λ b. cond b rows (p ∷ remove_entry (is_at (nat_cmp n)) rows)) (same_test n p.0)
    ∙ go n p rows (p.0 == n) (λ e. above n p rows (sym (eqb-true p.0 n e)) (sorted_head nat_cmp p.0 (keys_of rows) sorted))
    (drop_entry n rows (sorted_tail nat_cmp p.0 (keys_of rows) sorted))

at_step : (p : ℕ × RowOf) (b : Bool) (l r : Option RowOf) → l ≡ r → cond b (Some p.1) l ≡ cond b (Some p.1) r
at_step p true l r ih = refl
at_step p false l r ih = ih

pub found_at : (n : ℕ) (rows : Table) → lookup (is_at (nat_cmp n)) rows ≡ row_at rows n
found_at n [] = refl
found_at n (p ∷ rows) =
    ap (λ b. cond b (Some p.1) (lookup (is_at (nat_cmp n)) rows)) (same_test n p.0)
    ∙ at_step p (p.0 == n) (lookup (is_at (nat_cmp n)) rows) (row_at rows n) (found_at n rows)

pub found_row : (n : ℕ) (rows : Table) → is_some (lookup (is_at (nat_cmp n)) rows) ≡ is_some (row_at rows n)
found_row n rows = ap is_some (found_at n rows)
