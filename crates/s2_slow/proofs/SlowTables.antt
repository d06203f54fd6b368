-- A row's place in a table.
use Rattle.std.proofs.Common.{◌≡◌, ℕ, ◌+◌, ◌≤◌, ◌<◌, Bool, true, false, cond, [], ◌∷◌, ◌++◌, length, take, drop, set, get_or, refl, sym, ap, ◌∙◌, arith, one-add, add-one}
use Rattle.std.specs.Prelude.{nat_lt, nat_eq}
use Rattle.std.specs.List.{insert, prefix_len}
use Rattle.std.proofs.lemmas.Bool.Decides.{nat_tests}
use Rattle.std.proofs.lemmas.List.{drop_more, drop_all, set_split, get_or_read}
use Rattle.s2_model.specs.Table.{Table, RowOf, put_row}

-- where the first row stands whose number isn't below n
abbrev pub place : ℕ → Table → ℕ
place n rows = prefix_len (λ p. nat_lt p.0 n) rows

pub place_within : (n : ℕ) (rows : Table) → place n rows ≤ length rows
place_within n [] = omega arith
place_within n (p ∷ rows) = elim (nat_lt p.0 n) as (λ b. cond b (1 + place n rows) 0 ≤ length (p ∷ rows)) [
  | true ↦ omega (arith, place_within n rows)
  | false ↦ omega arith
]

-- the row is put between the front and the rest, or in the place of the first of the rest
abbrev put_at : ℕ → RowOf → Table → ℕ → Table
put_at n x rows i = take i rows ++ put_row n x (drop i rows)

put_splits-step : (n : ℕ) (x : RowOf) (p : ℕ × RowOf) (rows : Table) (b : Bool) → nat_lt p.0 n ≡ b → put_row n x rows ≡ put_at n x rows (place n rows)
    → put_row n x (p ∷ rows) ≡ put_at n x (p ∷ rows) (cond b (1 + place n rows) 0)
put_splits-step n x p rows true lt ih =
    let past : nat_lt n p.0 ≡ false = grind (arith, nat_tests) in
    let other : nat_eq n p.0 ≡ false = grind (arith, nat_tests) in
    rw (past, other, one-add) (ap (λ t. p ∷ t) ih)
put_splits-step n x p rows false ge ih = refl

-- putting passes the rows of lesser numbers
pub put_splits : (n : ℕ) (x : RowOf) (rows : Table) → put_row n x rows ≡ put_at n x rows (place n rows)
put_splits n x [] = refl
put_splits n x (p ∷ rows) = put_splits-step n x p rows (nat_lt p.0 n) refl (put_splits n x rows)

-- a row of this number stands there
pub put_replaces : (n : ℕ) (x : RowOf) (rows : Table) (i : ℕ) (q : ℕ × RowOf) → i ≡ place n rows → i < length rows → q ≡ get_or rows i q → q.0 ≡ n
    → set rows i (n, x) ≡ put_row n x rows
put_replaces n x rows i q at lt read here =
    let past : nat_lt n q.0 ≡ false = grind (arith, nat_tests) in
    let same : nat_eq n q.0 ≡ true = grind (arith, nat_tests) in
    let rest : drop i rows ≡ q ∷ drop (i + 1) rows = drop_more rows i q lt ∙ ap (λ y. y ∷ drop (i + 1) rows) (sym read) in
    let put : put_row n x (q ∷ drop (i + 1) rows) ≡ (n, x) ∷ drop (i + 1) rows = rw (past, same) refl in
    set_split rows i (n, x) lt ∙ ap (λ k. take i rows ++ (n, x) ∷ drop k rows) (sym (add-one i))
    ∙ ap (λ t. take i rows ++ t) (sym (ap (put_row n x) rest ∙ put)) ∙ ap (put_at n x rows) at ∙ sym (put_splits n x rows)

-- the first row that isn't below has a greater number
pub put_inserts : (n : ℕ) (x : RowOf) (rows : Table) (i : ℕ) (q : ℕ × RowOf) → i ≡ place n rows → i < length rows → q ≡ get_or rows i q → n < q.0
    → insert rows i (n, x) ≡ put_row n x rows
put_inserts n x rows i q at lt read above =
    let before : nat_lt n q.0 ≡ true = grind (arith, nat_tests) in
    let rest : drop i rows ≡ q ∷ drop (i + 1) rows = drop_more rows i q lt ∙ ap (λ y. y ∷ drop (i + 1) rows) (sym read) in
    let put : put_row n x (q ∷ drop (i + 1) rows) ≡ (n, x) ∷ q ∷ drop (i + 1) rows = rw before refl in
    ap (λ t. take i rows ++ (n, x) ∷ t) rest
    ∙ ap (λ t. take i rows ++ t) (sym (ap (put_row n x) rest ∙ put)) ∙ ap (put_at n x rows) at ∙ sym (put_splits n x rows)

-- all rows are below
pub put_ends : (n : ℕ) (x : RowOf) (rows : Table) (i : ℕ) → i ≡ place n rows → length rows ≤ i → insert rows i (n, x) ≡ put_row n x rows
put_ends n x rows i at past =
    let rest : drop i rows ≡ [] = drop_all i rows past in
    ap (λ t. take i rows ++ (n, x) ∷ t) rest
    ∙ ap (λ t. take i rows ++ t) (sym (ap (put_row n x) rest)) ∙ ap (put_at n x rows) at ∙ sym (put_splits n x rows)

-- a number that isn't above that of the row there, nor the same
pub above_at : (n : ℕ) (rows : Table) (i : ℕ) (q d : ℕ × RowOf) → i < length rows → q ≡ get_or rows i q → n ≤ (get_or rows i d).0 → (q.0 ≡ n → ⊥) → n < q.0
above_at n rows i q d lt read le other =
    let same : q.0 ≡ (get_or rows i d).0 = ap (λ (p : ℕ × RowOf). p.0) (get_or_read rows i q lt read d) in
    omega arith
