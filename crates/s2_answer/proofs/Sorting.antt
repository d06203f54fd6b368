-- A sort of rows of one table gives the rows in order.
use Rattle.std.proofs.Common.{◌≡◌, ℕ, suc, ◌+◌, ◌<◌, Bool, true, false, cond, List, [], ◌∷◌, length, map, get_or, Some, refl, sym, ap, ap₂, subst, ◌∙◌, arith, Ordering, Less, Equal, Greater, is_lt}
use Rattle.std.specs.Prelude.{sum_by, unwrap_or}
use Rattle.std.specs.Cmp.{IsTotalOrder, IsStrictWeakOrder}
use Rattle.std.specs.Ordering.{ordering_then, ordering_reverse, is_gt}
use Rattle.std.specs.List.Sorted.{IsPermutation, IsSortedBy}
use Rattle.std.proofs.lemmas.Cmp.{then_total, on_total, back_total, nat_cmp_total}
use Rattle.std.proofs.lemmas.List.Sorted.{sorted_far, IsPermutation-map, All-permutation, sum_by-IsPermutation, ranks_by}
use Rattle.std.proofs.lemmas.List.Elements.{recursion_from_All, All-from_recursion}
use Rattle.std.proofs.lemmas.List.Sums.{sum_by-cons}
use Rattle.std.proofs.lemmas.Bool.{false≢true}
use Rattle.std.proofs.lemmas.Bool.Decides.{nat_tests}
use Rattle.s2_value.specs.Order.{value_cmp, value_cmp_total}
use Rattle.s2_model.specs.Table.{Table, RowOf, row_at}
use Rattle.s2_model.specs.Rows.{value_at}
use Rattle.s2_model.specs.Answer.{turned, rows_cmp, insert_row, ordered}
use Rattle.s2_model.proofs.Lists.{total, bit, Each, each_weaker, each-map, total_zero}
use Rattle.s2_answer.specs.Found.{seen}
use denote.Ref.{Bor}

-- the order of rows is total

turned_total : (b : Bool) {K : Type 0} {R : K → K → Ordering} → IsTotalOrder R → IsTotalOrder (λ x y. turned b (R x y))
turned_total true {K} {R} o = subst IsTotalOrder (λ i x y. o.antisymm y x i) (back_total o)
turned_total false o = o

pub rows_total : (order : List (ℕ × Bool)) → IsTotalOrder (rows_cmp order)
rows_total [] = on_total (λ (p : ℕ × RowOf). p.0) nat_cmp_total
rows_total (o ∷ order) =
    then_total (turned_total o.1 (on_total (λ (p : ℕ × RowOf). value_at p.1 o.0) value_cmp_total)) (rows_total order)

-- rows between which it finds no difference have one number
one_number : (order : List (ℕ × Bool)) (p q : ℕ × RowOf) → rows_cmp order p q ≡ Equal → p.0 ≡ q.0
one_number [] p q e = grind (arith, nat_tests)
one_number (o ∷ order) p q e = one_number order p q (last (turned o.1 (value_cmp (value_at p.1 o.0) (value_at q.1 o.0))) (rows_cmp order p q) e)
  where
    last : (a b : Ordering) → ordering_then a b ≡ Equal → b ≡ Equal
    last Less b e = cc
    last Equal b e = e
    last Greater b e = cc

-- sorted rows: none of the later ones goes before

abbrev pub Follows : List (ℕ × Bool) → ℕ × RowOf → Table → Type 0
Follows order p rows = Each (λ q. is_lt (rows_cmp order q p) ≡ false) rows

abbrev pub InOrder : List (ℕ × Bool) → Table → Type 0
InOrder order [] = Unit {0}
InOrder order (p ∷ rows) = Follows order p rows × InOrder order rows

-- an insert keeps the order

reversed : {K : Type 0} {R : K → K → Ordering} → IsTotalOrder R → (p q : K) → is_gt (R p q) ≡ false → is_lt (R q p) ≡ false
reversed {R = R} o p q e = go (R p q) refl e
  where
    go : (w : Ordering) → R p q ≡ w → is_gt w ≡ false → is_lt (R q p) ≡ false
    go Less w e = ap is_lt (o.antisymm q p ∙ ap ordering_reverse w)
    go Equal w e = ap is_lt (o.antisymm q p ∙ ap ordering_reverse w)
    go Greater w e = cc

greater_after : {K : Type 0} {R : K → K → Ordering} → IsTotalOrder R → (p q : K) → is_gt (R p q) ≡ true → is_lt (R p q) ≡ false
greater_after {R = R} o p q e = go (R p q) e
  where
    go : (w : Ordering) → is_gt w ≡ true → is_lt w ≡ false
    go Less e = absurd (false≢true e)
    go Equal e = refl
    go Greater e = refl

through : {K : Type 0} {R : K → K → Ordering} → IsTotalOrder R → (p q r : K) → is_gt (R p q) ≡ false → is_lt (R r q) ≡ false → is_lt (R r p) ≡ false
through {R = R} o p q r le n = go (R p q) refl (R r p) refl le
  where
    go : (w : Ordering) → R p q ≡ w → (v : Ordering) → R r p ≡ v → is_gt w ≡ false → is_lt (R r p) ≡ false
    go Less w Less v e = absurd (false≢true (sym n ∙ ap is_lt (o.trans r p q v w)))
    go Equal w Less v e =
        let same : R r p ≡ R r q = o.antisymm r p ∙ ap ordering_reverse (o.congr p q r w) ∙ sym (o.antisymm r q) in
        ap is_lt same ∙ n
    go Greater w Less v e = cc
    go w e Equal v f = ap is_lt v
    go w e Greater v f = ap is_lt v

follows_insert : (order : List (ℕ × Bool)) (x p : ℕ × RowOf) (rows : Table) → is_lt (rows_cmp order p x) ≡ false → Follows order x rows → Follows order x (insert_row order p rows)
follows_insert order x p [] here f = (here, tt)
follows_insert order x p (q ∷ rows) here f =
    elim (is_gt (rows_cmp order p q)) as (λ b. Follows order x (cond b (q ∷ insert_row order p rows) (p ∷ q ∷ rows))) [
      | true ↦ (f.0, follows_insert order x p rows here f.1)
      | false ↦ (here, f)
    ]

order_insert : (order : List (ℕ × Bool)) (p : ℕ × RowOf) (rows : Table) → InOrder order rows → InOrder order (insert_row order p rows)
order_insert order p [] f = (tt, tt)
order_insert order p (q ∷ rows) f = go (is_gt (rows_cmp order p q)) refl (order_insert order p rows f.1)
  where
    go : (b : Bool) → is_gt (rows_cmp order p q) ≡ b → InOrder order (insert_row order p rows) → InOrder order (cond b (q ∷ insert_row order p rows) (p ∷ q ∷ rows))
    go true e ih = (follows_insert order q p rows (greater_after (rows_total order) p q e) f.0, ih)
    go false e ih = (
      (reversed (rows_total order) p q e, each_weaker (λ r. is_lt (rows_cmp order r q) ≡ false) (λ r. is_lt (rows_cmp order r p) ≡ false) (λ r n. through (rows_total order) p q r e n) rows f.0),
      f,
    )

pub order_ordered : (order : List (ℕ × Bool)) (rows : Table) → InOrder order (ordered order rows)
order_ordered order [] = tt
order_ordered order (p ∷ rows) = order_insert order p (ordered order rows) (order_ordered order rows)

each-insert : (Q : ℕ × RowOf → Type 0) (order : List (ℕ × Bool)) (p : ℕ × RowOf) (rows : Table) → Q p → Each Q rows → Each Q (insert_row order p rows)
each-insert Q order p [] here f = (here, tt)
each-insert Q order p (q ∷ rows) here f =
    elim (is_gt (rows_cmp order p q)) as (λ b. Each Q (cond b (q ∷ insert_row order p rows) (p ∷ q ∷ rows))) [
      | true ↦ (f.0, each-insert Q order p rows here f.1)
      | false ↦ (here, f)
    ]

each-ordered : (Q : ℕ × RowOf → Type 0) (order : List (ℕ × Bool)) (rows : Table) → Each Q rows → Each Q (ordered order rows)
each-ordered Q order [] f = tt
each-ordered Q order (p ∷ rows) f = each-insert Q order p (ordered order rows) f.0 (each-ordered Q order rows f.1)

total-insert : (g : ℕ × RowOf → ℕ) (order : List (ℕ × Bool)) (p : ℕ × RowOf) (rows : Table) → total g (insert_row order p rows) ≡ g p + total g rows
total-insert g order p [] = refl
total-insert g order p (q ∷ rows) =
    elim (is_gt (rows_cmp order p q)) as (λ b. total g (cond b (q ∷ insert_row order p rows) (p ∷ q ∷ rows)) ≡ g p + total g (q ∷ rows)) [
      | true ↦ omega (arith, total-insert g order p rows)
      | false ↦ refl
    ]

total-ordered : (g : ℕ × RowOf → ℕ) (order : List (ℕ × Bool)) (rows : Table) → total g (ordered order rows) ≡ total g rows
total-ordered g order [] = refl
total-ordered g order (p ∷ rows) = omega (arith, total-insert g order p (ordered order rows), total-ordered g order rows)

-- rows in order are those of one list where they are the same ones

abbrev IsIn : Table → ℕ × RowOf → Type 0
IsIn table p = row_at table p.0 ≡ Some p.1

equal_rows : (table : Table) (p q : ℕ × RowOf) → p.0 ≡ q.0 → IsIn table p → IsIn table q → p ≡ q
equal_rows table p q e a b =
    ap₂ (λ n x. (n, x)) e (ap (λ o. unwrap_or o p.1) (sym a ∙ ap (row_at table) e ∙ b))

no_other : (order : List (ℕ × Bool)) (p q : ℕ × RowOf) → is_lt (rows_cmp order p q) ≡ false → is_lt (rows_cmp order q p) ≡ false → rows_cmp order p q ≡ Equal
no_other order p q a b = go (rows_cmp order p q) refl a
  where
    go : (w : Ordering) → rows_cmp order p q ≡ w → is_lt w ≡ false → rows_cmp order p q ≡ Equal
    go Less e f = cc
    go Equal e f = e
    go Greater e f = absurd (false≢true (sym b ∙ ap is_lt ((rows_total order).antisymm q p ∙ ap ordering_reverse e)))

-- how many rows go before this one
abbrev before : List (ℕ × Bool) → ℕ × RowOf → ℕ × RowOf → ℕ
before order p q = bit (is_lt (rows_cmp order q p))

zero_bit : (b : Bool) → b ≡ false → bit b ≡ 0
zero_bit b e = ap bit e

bit_zero : (b : Bool) (n : ℕ) → bit b + n ≡ 0 → b ≡ false
bit_zero true n e = absurd (omega arith)
bit_zero false n e = refl

irreflexive : (order : List (ℕ × Bool)) (p : ℕ × RowOf) → is_lt (rows_cmp order p p) ≡ false
irreflexive order p = go (rows_cmp order p p) refl
  where
    go : (w : Ordering) → rows_cmp order p p ≡ w → is_lt w ≡ false
    go Less e = absurd (cc ((rows_total order).antisymm p p, ap ordering_reverse e))
    go Equal e = refl
    go Greater e = refl

none_before : (order : List (ℕ × Bool)) (p : ℕ × RowOf) (rows : Table) → Follows order p rows → total (before order p) (p ∷ rows) ≡ 0
none_before order p rows f =
    total_zero (before order p) (p ∷ rows) (
      zero_bit _ (irreflexive order p),
      each_weaker (λ q. is_lt (rows_cmp order q p) ≡ false) (λ q. before order p q ≡ 0) (λ q e. zero_bit _ e) rows f,
    )

pub one_order : (order : List (ℕ × Bool)) (table ys zs : Table) → Each (IsIn table) ys → Each (IsIn table) zs → InOrder order ys → InOrder order zs
    → ((g : ℕ × RowOf → ℕ) → total g ys ≡ total g zs) → ys ≡ zs
one_order order table [] [] a b f g same = refl
one_order order table [] (z ∷ zs) a b f g same = absurd (omega (arith, same (λ q. 1)))
one_order order table (y ∷ ys) [] a b f g same = absurd (omega (arith, same (λ q. 1)))
one_order order table (y ∷ ys) (z ∷ zs) a b f g same =
    let low : is_lt (rows_cmp order z y) ≡ false = bit_zero _ _ (sym (same (before order y)) ∙ none_before order y ys f.0) in
    let high : is_lt (rows_cmp order y z) ≡ false = bit_zero _ _ (same (before order z) ∙ none_before order z zs g.0) in
    let head : y ≡ z = equal_rows table y z (one_number order y z (no_other order y z high low)) a.0 b.0 in
    ap₂ (λ x xs. x ∷ xs) head
    (one_order order table ys zs a.1 b.1 f.1 g.1 (λ h. omega (arith, same h, ap h head)))

-- what a sort ensures

far_follows : {X : Type 0} (lt : X → X → Bool) (x : X) (xs : List X) → ((k : ℕ) (d : X) → k < length xs → lt (get_or xs k d) x ≡ false) → Each (λ q. lt q x ≡ false) xs
far_follows lt x [] far = tt
far_follows lt x (q ∷ xs) far = (far 0 x (omega arith), far_follows lt x xs (λ k d le. far (suc k) d (omega arith)))

abbrev pub Falls : {X : Type 0} → (X → X → Bool) → List X → Type 0
Falls lt [] = Unit {0}
Falls lt (x ∷ xs) = Each (λ q. lt q x ≡ false) xs × Falls lt xs

later_sorted : {X : Type 0} (lt : X → X → Bool) (x : X) (xs : List X) → IsSortedBy lt (x ∷ xs) → IsSortedBy lt xs
later_sorted lt x xs up k d low high =
    let same : suc k + 1 ≡ suc (k + 1) = omega arith in
    subst (λ n. lt (get_or (x ∷ xs) n d) (get_or xs k d) ≡ false) same (up (suc k) d (omega arith) (omega arith))

pub falls_sorted : {X : Type 0} (lt : X → X → Bool) → IsStrictWeakOrder lt → (xs : List X) → IsSortedBy lt xs → Falls lt xs
falls_sorted lt o [] up = tt
falls_sorted lt o (x ∷ xs) up =
    (far_follows lt x xs (λ k d le. sorted_far lt o (x ∷ xs) up 0 (suc k) d (omega arith) (omega arith)), falls_sorted lt o xs (later_sorted lt x xs up))

falls_map : {X Y : Type 0} (f : X → Y) (lt : Y → Y → Bool) (xs : List X) → Falls (λ x y. lt (f x) (f y)) xs → Falls lt (map f xs)
falls_map f lt [] w = tt
falls_map f lt (x ∷ xs) w = (each-map (λ q. lt (f q) (f x) ≡ false) (λ q. lt q (f x) ≡ false) f (λ q e. e) xs w.0, falls_map f lt xs w.1)

falls_order : (order : List (ℕ × Bool)) (rows : Table) → Falls (λ p q. is_lt (rows_cmp order p q)) rows → InOrder order rows
falls_order order [] w = tt
falls_order order (p ∷ rows) w = (w.0, falls_order order rows w.1)

sum_is : {X : Type 0} (f : X → ℕ) (xs : List X) → sum_by f xs ≡ total f xs
sum_is f [] = refl
sum_is f (x ∷ xs) = sum_by-cons f x xs ∙ ap (λ n. f x + n) (sum_is f xs)

same_totals : (xs ys : Table) → IsPermutation xs ys → (g : ℕ × RowOf → ℕ) → total g ys ≡ total g xs
same_totals xs ys moved g = sym (sum_is g ys) ∙ sum_by-IsPermutation g xs ys moved ∙ sum_is g xs

-- whatever holds of each row still holds of each
each_moved : (Q : ℕ × RowOf → Type 0) (xs ys : Table) → IsPermutation xs ys → Each Q xs → Each Q ys
each_moved Q xs ys moved each = recursion_from_All Q ys (All-permutation Q xs ys moved (All-from_recursion Q xs each))

pub sorted_rows : (order : List (ℕ × Bool)) (table : Table) (olds news : List (Bor (ℕ × RowOf))) → Each (λ p. row_at table p.0 ≡ Some p.1) (seen olds)
    → IsPermutation olds news → IsSortedBy (λ p q. is_lt (rows_cmp order p.now q.now)) news → seen news ≡ ordered order (seen olds)
sorted_rows order table olds news each moved up =
    let Here : ℕ × RowOf → Type 0 = λ p. row_at table p.0 ≡ Some p.1 in
    let seen_moved : IsPermutation (seen olds) (seen news) = IsPermutation-map (λ p. p.now) olds news moved in
    let falls = falls_sorted (λ p q. is_lt (rows_cmp order p.now q.now)) (ranks_by (rows_total order) (λ p. p.now)) news up in
    one_order order table (seen news) (ordered order (seen olds)) (each_moved Here (seen olds) (seen news) seen_moved each) (each-ordered Here order (seen olds) each)
    (falls_order order (seen news) (falls_map (λ p. p.now) (λ p q. is_lt (rows_cmp order p q)) news falls)) (order_ordered order (seen olds))
    (λ g. same_totals (seen olds) (seen news) seen_moved g ∙ sym (total-ordered g order (seen olds)))
