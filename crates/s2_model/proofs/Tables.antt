-- Rows of a table after a change, and rows of a list of changes.
use Rattle.std.proofs.Common.{◌≡◌, ℕ, ◌<◌, ◌≤◌, Bool, true, false, cond, if◌then◌else◌, ◌==◌, nat_lt, List, [], ◌∷◌, Option, Some, None, is_some, refl, ap, ◌∙◌, arith}
use Rattle.std.proofs.lemmas.Bool.Decides.{nat_tests}
use Rattle.std.proofs.lemmas.Bool.{false≢true, ltb-true, eqb-true, eq-eqb, or_left, or_right}
use Rattle.s2_model.specs.declared.entries.Change.{Change}
use Rattle.s2_model.specs.declared.entries.Change.TheVariants.{Put, Drop}
use Rattle.s2_model.specs.Table.{Table, RowOf, row_at, put_row, drop_row, apply, apply_change, number_of, touches, rises_above, IsTable}

pub row_at-put_row : (n : ℕ) (x : RowOf) (rows : Table) (m : ℕ) → row_at (put_row n x rows) m ≡ (if n == m then Some x else row_at rows m)
row_at-put_row n x [] m = refl
row_at-put_row n x (p ∷ rows) m = grind (arith, nat_tests, row_at-put_row n x rows m)

pub row_at-drop_row : (n : ℕ) (rows : Table) (m : ℕ) → row_at (drop_row n rows) m ≡ (if n == m then None else row_at rows m)
row_at-drop_row n [] m = grind (arith, nat_tests)
row_at-drop_row n (p ∷ rows) m = grind (arith, nat_tests, row_at-drop_row n rows m)

-- the row of a number after changes, from the row before them
abbrev pub row_after_change : Option RowOf → Change → ℕ → Option RowOf
row_after_change was (Put n x) m = if n == m then Some x else was
row_after_change was (Drop n) m = if n == m then None else was

abbrev pub row_after : Option RowOf → List Change → ℕ → Option RowOf
row_after was [] m = was
row_after was (c ∷ changes) m = row_after (row_after_change was c m) changes m

row_at-apply_change : (rows : Table) (c : Change) (m : ℕ) → row_at (apply_change rows c) m ≡ row_after_change (row_at rows m) c m
row_at-apply_change rows (Put n x) m = row_at-put_row n x rows m
row_at-apply_change rows (Drop n) m = row_at-drop_row n rows m

pub row_at-apply : (rows : Table) (changes : List Change) (m : ℕ) → row_at (apply rows changes) m ≡ row_after (row_at rows m) changes m
row_at-apply rows [] m = refl
row_at-apply rows (c ∷ changes) m =
    row_at-apply (apply_change rows c) changes m ∙ ap (λ was. row_after was changes m) (row_at-apply_change rows c m)

change_of_other : (was : Option RowOf) (c : Change) (m : ℕ) → (number_of c == m) ≡ false → row_after_change was c m ≡ was
change_of_other was (Put n x) m e = ap (λ b. cond b (Some x) was) e
change_of_other was (Drop n) m e = ap (λ b. cond b None was) e

pub row_after_untouched : (was : Option RowOf) (changes : List Change) (m : ℕ) → touches changes m ≡ false → row_after was changes m ≡ was
row_after_untouched was [] m e = refl
row_after_untouched was (c ∷ changes) m e =
    let here : (number_of c == m) ≡ false = grind arith in
    let rest : touches changes m ≡ false = grind arith in
    ap (λ w. row_after w changes m) (change_of_other was c m here) ∙ row_after_untouched was changes m rest

pub row_at_untouched : (rows : Table) (changes : List Change) (m : ℕ) → touches changes m ≡ false → row_at (apply rows changes) m ≡ row_at rows m
row_at_untouched rows changes m e = row_at-apply rows changes m ∙ row_after_untouched (row_at rows m) changes m e

-- the order of the numbers

pub above_low : (low : ℕ) (rows : Table) (n : ℕ) → rises_above low rows ≡ true → is_some (row_at rows n) ≡ true → low < n
above_low low [] n up has = absurd (false≢true has)
above_low low (p ∷ rows) n up has =
    let both = parts (nat_lt low p.0) (rises_above p.0 rows) up in
    go (p.0 == n) refl both.0 (above_low p.0 rows n both.1) has
  where
    parts : (a b : Bool) → cond a b false ≡ true → (a ≡ true) × (b ≡ true)
    parts true b e = (refl, e)
    parts false b e = absurd (false≢true e)

    go : (b : Bool) → (p.0 == n) ≡ b → nat_lt low p.0 ≡ true → (is_some (row_at rows n) ≡ true → p.0 < n)
        → is_some (cond b (Some p.1) (row_at rows n)) ≡ true → low < n
    go true e lt ih h = omega (arith, ltb-true low p.0 lt, eqb-true p.0 n e)
    go false e lt ih h = omega (arith, ltb-true low p.0 lt, ih h)

pub rises_lower : (low high : ℕ) (rows : Table) → low ≤ high → rises_above high rows ≡ true → rises_above low rows ≡ true
rises_lower low high [] le up = refl
rises_lower low high (p ∷ rows) le up = grind (arith, nat_tests)

rises-put_row : (low n : ℕ) (x : RowOf) (rows : Table) → low < n → rises_above low rows ≡ true → rises_above low (put_row n x rows) ≡ true
rises-put_row low n x [] lt up = grind (arith, nat_tests)
rises-put_row low n x (p ∷ rows) lt up = grind (arith, nat_tests, rises-put_row p.0 n x rows, ap (λ m. rises_above m rows))

rises-drop_row : (low n : ℕ) (rows : Table) → rises_above low rows ≡ true → rises_above low (drop_row n rows) ≡ true
rises-drop_row low n [] up = refl
rises-drop_row low n (p ∷ rows) up = grind (arith, nat_tests, rises-drop_row p.0 n rows, rises_lower low p.0 (drop_row n rows))

rises-apply_change : (rows : Table) (c : Change) → 0 < number_of c → IsTable rows → IsTable (apply_change rows c)
rises-apply_change rows (Put n x) lt up = rises-put_row 0 n x rows lt up
rises-apply_change rows (Drop n) lt up = rises-drop_row 0 n rows up

pub rises-apply : (rows : Table) (changes : List Change) → ((n : ℕ) → touches changes n ≡ true → 1 ≤ n) → IsTable rows → IsTable (apply rows changes)
rises-apply rows [] above up = up
rises-apply rows (c ∷ changes) above up =
    let first : touches (c ∷ changes) (number_of c) ≡ true = or_left _ _ (eq-eqb (number_of c) (number_of c) refl) in
    rises-apply (apply_change rows c) changes (λ n t. above n (or_right _ _ t))
    (rises-apply_change rows c (above (number_of c) first) up)
