-- Some other row has a value after changes exactly where two changes put it, or a row that no change touches has it.
use Rattle.std.proofs.Common.{◌≡◌, ℕ, zero, suc, ◌+◌, ◌<◌, ◌≤◌, Bool, true, false, not, ◌&&◌, ◌||◌, cond, ◌==◌, nat_lt, List, [], ◌∷◌, length, map, filter, take, drop, Option, Some, None, is_some, Result, Ok, Err, is_ok, get_or, refl, sym, ap, ap₂, subst, ◌∙◌, ⊎_elim, inl, inr, add-one, length-append, arith}
use Rattle.std.specs.Prelude.{count_by, slice_index_or, unwrap_or}
use Rattle.std.specs.Option.{option_map, option_or}
use Rattle.std.specs.List.{list_any, find}
use Rattle.std.proofs.lemmas.Bool.{false≢true, true≢false, ltb-false, eqb-true, eqb-false, eq-eqb, ne_eqb, le-ltb, cases_lt, and_parts, and_from, or_cases, or_left, or_right, false_from_ne_true, lt-ltb, ltb-true}
use Rattle.std.proofs.lemmas.Bool.Decides.{nat_tests}
use Rattle.std.proofs.lemmas.List.Sums.{sum_by-cons, count_by_more_yes, count_by_more_no}
use Rattle.std.proofs.lemmas.List.Folds.{list_any_at, list_any_none}
use Rattle.std.proofs.lemmas.List.Sorted.{searchable_from_sorted}
use Rattle.std.proofs.lemmas.List.{get_or_append_left, drop_more}
use Rattle.std.specs.BTreeSet.{BTreeSet, contains}
use Rattle.std.specs.BTreeMap.{is_at}
use Rattle.std.specs.Cmp.{nat_cmp_total}
use Rattle.std.specs.Cmp.Lexicographic.{lists_ties}
use Rattle.std.specs.Ordering.{nat_cmp, is_lt}
use Rattle.std.specs.declared.cmp.Ordering.{Ordering}
use Rattle.std.specs.declared.cmp.Ordering.TheVariants.{Less, Equal, Greater}
use Rattle.std.specs.List.Sorted.{IsBinarySearchResult, IsSearchInRange, IsSortedBy}
use Rattle.s2_value.specs.declared.values.Value.{Value}
use Rattle.s2_value.specs.declared.schemas.Schema.{Schema}
use Rattle.s2_value.specs.Order.{value_cmp, value_ties, row_cmp, row_eq, same_row}
use Rattle.s2_value.specs.Rows.{key_of}
use Rattle.s2_value.specs.Schemas.{keys_of}
use Rattle.s2_model.specs.declared.entries.Change.{Change}
use Rattle.s2_model.specs.declared.entries.Change.TheVariants.{Put, Drop}
use Rattle.s2_model.specs.declared.replies.Refusal.{Refusal}
use Rattle.s2_model.specs.declared.replies.Refusal.TheVariants as refusal
use Rattle.s2_model.specs.Table.{Table, RowOf, row_at, put_row, drop_row, apply, apply_change, touches, number_of, rises_above}
use Rattle.s2_model.specs.History.{view, pin_of}
use Rattle.s2_model.specs.Held.{has_key, some_has_key, put_has_key}
use Rattle.s2_model.specs.Fits.{rise}
use Rattle.s2_model.specs.Verdict.{first_some, first_from, has_other, duplicate_at}
use Rattle.s2_model.proofs.Lists.{bit}
use Rattle.s2_model.proofs.Tables.{above_low, rises_lower}
use Rattle.s2_rowstore.specs.declared.chain.Version.{Version}
use Rattle.s2_rowstore.specs.declared.chain.Slot.{Slot}
use Rattle.s2_rowstore.specs.Chains.{seen, is_visible}
use Rattle.s2_rowstore.specs.Keys.{row_has, body_has}
use Rattle.s2_rowstore.specs.Lines.{names_row, body_at}
use Rattle.s2_rowstore.specs.Store.{Store, chain, slot, places_of, has_key as store_has_key}
use Rattle.s2_state.specs.declared.states.State.{State}
use Rattle.s2_state.specs.States.{history_of}
use Rattle.s2_state.specs.Good.{Good}
use Rattle.s2_state.specs.Laws.{read_at}
use Rattle.s2_state.proofs.Shown.{shows_rows, view_rises}
use Rattle.s2_state.proofs.KeySteps.{own_key}
use Rattle.s2_txn.specs.declared.duplicates.PutValues.{PutValues}
use Rattle.s2_txn.specs.Duplicates.{unique_key, times_put, is_put_twice, is_kept_value, is_shared, shared_at, HasTimes, Adds}
use Rattle.s2_txn.proofs.Unrefused.{In, rise_above, rise_later}

-- tests of lists

same_any : {X : Type 0} (p q : X → Bool) → ((x : X) → p x ≡ q x) → (xs : List X) → list_any p xs ≡ list_any q xs
same_any p q same [] = refl
same_any p q same (x ∷ xs) = ap₂ (λ a b. a || b) (same x) (same_any p q same xs)

any-filter : {X : Type 0} (p t : X → Bool) (xs : List X) → list_any p (filter t xs) ≡ list_any (λ x. t x && p x) xs
any-filter p t [] = refl
any-filter p t (x ∷ xs) = go (t x) (any-filter p t xs)
  where
    go : (b : Bool) → list_any p (filter t xs) ≡ list_any (λ y. t y && p y) xs
        → list_any p (cond b (x ∷ filter t xs) (filter t xs)) ≡ ((b && p x) || list_any (λ y. t y && p y) xs)
    go true ih = ap (λ c. p x || c) ih
    go false ih = ih

swap_or : (a b c : Bool) → (a || (b || c)) ≡ (b || (a || c))
swap_or true true c = refl
swap_or true false c = refl
swap_or false b c = refl

join_or : (a b c : Bool) → (a || (b || c)) ≡ ((b || a) || c)
join_or true true c = refl
join_or true false c = refl
join_or false true c = refl
join_or false false c = refl

flip_eq : (m n : ℕ) → (m == n) ≡ (n == m)
flip_eq m n = go (n == m) refl
  where
    go : (b : Bool) → (n == m) ≡ b → (m == n) ≡ b
    go true e = eq-eqb m n (sym (eqb-true n m e))
    go false e = ne_eqb m n (λ same. eqb-false n m e (sym same))

one_test : (a b : Bool) → (a ≡ true → b ≡ true) → (b ≡ true → a ≡ true) → a ≡ b
one_test true b f g = sym (f refl)
one_test false true f g = g refl
one_test false false f g = refl

-- tables whose numbers rise, from any number on

abbrev pub are_sorted : Table → Bool
are_sorted [] = true
are_sorted (p ∷ rows) = rises_above p.0 rows

parts : (a b : Bool) → cond a b false ≡ true → (a ≡ true) × (b ≡ true)
parts true b e = (refl, e)
parts false b e = absurd (false≢true e)

pub sorted_above : (low : ℕ) (rows : Table) → rises_above low rows ≡ true → are_sorted rows ≡ true
sorted_above low [] up = refl
sorted_above low (p ∷ rows) up = (parts (nat_lt low p.0) (rises_above p.0 rows) up).1

rises-put : (low n : ℕ) (x : RowOf) (rows : Table) → low < n → rises_above low rows ≡ true → rises_above low (put_row n x rows) ≡ true
rises-put low n x [] lt up = grind (arith, nat_tests)
rises-put low n x (p ∷ rows) lt up = grind (arith, nat_tests, rises-put p.0 n x rows, ap (λ m. rises_above m rows))

rises-drop : (low n : ℕ) (rows : Table) → rises_above low rows ≡ true → rises_above low (drop_row n rows) ≡ true
rises-drop low n [] up = refl
rises-drop low n (p ∷ rows) up = grind (arith, nat_tests, rises-drop p.0 n rows, rises_lower low p.0 (drop_row n rows))

sorted-put : (n : ℕ) (x : RowOf) (rows : Table) → are_sorted rows ≡ true → are_sorted (put_row n x rows) ≡ true
sorted-put n x [] up = refl
sorted-put n x (p ∷ rows) up = go (nat_lt n p.0) refl (n == p.0) refl
  where
    go : (a : Bool) → nat_lt n p.0 ≡ a → (b : Bool) → (n == p.0) ≡ b
        → are_sorted (cond a ((n, x) ∷ p ∷ rows) (cond b ((n, x) ∷ rows) (p ∷ put_row n x rows))) ≡ true
    go true e b f = ap (λ c. cond c (rises_above p.0 rows) false) e ∙ up
    go false e true f = ap (λ m. rises_above m rows) (eqb-true n p.0 f) ∙ up
    go false e false f = rises-put p.0 n x rows (omega (arith, ltb-false n p.0 e, eqb-false n p.0 f)) up

sorted-drop : (n : ℕ) (rows : Table) → are_sorted rows ≡ true → are_sorted (drop_row n rows) ≡ true
sorted-drop n [] up = refl
sorted-drop n (p ∷ rows) up = go (p.0 == n)
  where
    go : (b : Bool) → are_sorted (cond (not b) (p ∷ drop_row n rows) (drop_row n rows)) ≡ true
    go true = sorted_above p.0 (drop_row n rows) (rises-drop p.0 n rows up)
    go false = rises-drop p.0 n rows up

sorted_after : (rows : Table) (c : Change) → are_sorted rows ≡ true → are_sorted (apply_change rows c) ≡ true
sorted_after rows (Put n x) up = sorted-put n x rows up
sorted_after rows (Drop n) up = sorted-drop n rows up

-- some row of a table after changes passes a test

abbrev with_others : (ℕ × RowOf → Bool) → ℕ → ℕ × RowOf → Bool
with_others test n p = not (p.0 == n) && test p

all_others : (test : ℕ × RowOf → Bool) (n low : ℕ) (rows : Table) → n ≤ low → rises_above low rows ≡ true → list_any test rows ≡ list_any (with_others test n) rows
all_others test n low [] le up = refl
all_others test n low (p ∷ rows) le up =
    let both = parts (nat_lt low p.0) (rises_above p.0 rows) up in
    let lt : low < p.0 = ltb-true low p.0 both.0 in
    ap₂ (λ a b. a || b) (ap (λ b. not b && test p) (sym (ne_eqb p.0 n (λ e. omega arith)))) (all_others test n p.0 rows (omega arith) both.1)

any-put : (test : ℕ × RowOf → Bool) (n : ℕ) (x : RowOf) (rows : Table) → are_sorted rows ≡ true
    → list_any test (put_row n x rows) ≡ (test (n, x) || list_any (with_others test n) rows)
any-put test n x [] up = refl
any-put test n x (p ∷ rows) up = go (nat_lt n p.0) refl (n == p.0) refl (any-put test n x rows (sorted_above p.0 rows up))
  where
    go : (a : Bool) → nat_lt n p.0 ≡ a → (b : Bool) → (n == p.0) ≡ b
        → list_any test (put_row n x rows) ≡ (test (n, x) || list_any (with_others test n) rows)
        → list_any test (cond a ((n, x) ∷ p ∷ rows) (cond b ((n, x) ∷ rows) (p ∷ put_row n x rows))) ≡ (test (n, x) || list_any (with_others test n) (p ∷ rows))
    go true e b f ih =
        let lt : n < p.0 = ltb-true n p.0 e in
        ap (λ b. test (n, x) || b) (all_others test n n (p ∷ rows) (omega arith) (ap (λ c. cond c (rises_above p.0 rows) false) e ∙ up))
    go false e true f ih =
        let same : n ≡ p.0 = eqb-true n p.0 f in
        ap (λ b. test (n, x) || b)
        (all_others test n p.0 rows (omega arith) up
        ∙ ap (λ b. (not b && test p) || list_any (with_others test n) rows) (sym (eq-eqb p.0 n (sym same))))
    go false e false f ih =
        ap (λ b. test p || b) ih
        ∙ swap_or (test p) (test (n, x)) (list_any (with_others test n) rows)
        ∙ ap (λ b. test (n, x) || ((not b && test p) || list_any (with_others test n) rows)) (sym (flip_eq p.0 n ∙ f))

abbrev put_passes : (ℕ × RowOf → Bool) → Change → Bool
put_passes test (Put n x) = test (n, x)
put_passes test (Drop n) = false

abbrev untouched_passes : (ℕ × RowOf → Bool) → List Change → ℕ × RowOf → Bool
untouched_passes test cs p = not (touches cs p.0) && test p

later_untouched : (c : Change) (cs : List Change) → rise (map number_of (c ∷ cs)) ≡ true → touches cs (number_of c) ≡ false
later_untouched c cs up = false_from_ne_true _ (λ t. absurd (omega (arith, rise_above (number_of c) cs (number_of c) up t)))

neither : (test : ℕ × RowOf → Bool) (n : ℕ) (cs : List Change) (p : ℕ × RowOf)
    → with_others (untouched_passes test cs) n p ≡ (not ((n == p.0) || touches cs p.0) && test p)
neither test n cs p = ap (λ b. not b && (not (touches cs p.0) && test p)) (flip_eq p.0 n) ∙ go (n == p.0) (touches cs p.0) (test p)
  where
    go : (a b c : Bool) → (not a && (not b && c)) ≡ (not (a || b) && c)
    go true b c = refl
    go false b c = refl

one_change : (test : ℕ × RowOf → Bool) (rows : Table) (c : Change) (cs : List Change) → are_sorted rows ≡ true → rise (map number_of (c ∷ cs)) ≡ true
    → list_any (untouched_passes test cs) (apply_change rows c) ≡ (put_passes test c || list_any (untouched_passes test (c ∷ cs)) rows)
one_change test rows (Put n x) cs sorted up =
    any-put (untouched_passes test cs) n x rows sorted
    ∙ ap₂ (λ a b. a || b) (ap (λ b. not b && test (n, x)) (later_untouched (Put n x) cs up))
    (same_any (with_others (untouched_passes test cs) n) (untouched_passes test (Put n x ∷ cs)) (neither test n cs) rows)
one_change test rows (Drop n) cs sorted up =
    any-filter (untouched_passes test cs) (λ p. not (p.0 == n)) rows
    ∙ same_any (with_others (untouched_passes test cs) n) (untouched_passes test (Drop n ∷ cs)) (neither test n cs) rows

pub any_after : (test : ℕ × RowOf → Bool) (rows : Table) (cs : List Change) → are_sorted rows ≡ true → rise (map number_of cs) ≡ true
    → list_any test (apply rows cs) ≡ (list_any (put_passes test) cs || list_any (untouched_passes test cs) rows)
any_after test rows [] sorted up = refl
any_after test rows (c ∷ cs) sorted up =
    any_after test (apply_change rows c) cs (sorted_after rows c sorted) (rise_later c cs up)
    ∙ ap (λ b. list_any (put_passes test) cs || b) (one_change test rows c cs sorted up)
    ∙ join_or (list_any (put_passes test) cs) (put_passes test c) (list_any (untouched_passes test (c ∷ cs)) rows)

number_touched : (cs : List Change) (c : Change) → In c cs → touches cs (number_of c) ≡ true
number_touched [] c i = absurd i
number_touched (d ∷ cs) c i =
    ⊎_elim (λ same. or_left _ _ (eq-eqb (number_of d) (number_of c) (ap number_of (sym same))))
    (λ later. or_right (number_of d == number_of c) _ (number_touched cs c later)) i

-- a value that a change puts is put by another exactly where it is put twice

abbrev by_other : List ℕ → List Value → ℕ → Change → Bool
by_other key v n c = put_passes (λ p. not (p.0 == n) && has_key key v p.1) c

count_others : (key : List ℕ) (v : List Value) (n : ℕ) (cs : List Change) → touches cs n ≡ false → count_by (put_has_key key v) cs ≡ count_by (by_other key v n) cs
count_others key v n [] apart = refl
count_others key v n (c ∷ cs) apart =
    sum_by-cons (λ d. cond (put_has_key key v d) 1 0) c cs
    ∙ ap₂ (λ b m. cond b 1 0 + m) (other c (first c cs apart)) (count_others key v n cs (later c cs apart))
    ∙ sym (sum_by-cons (λ d. cond (by_other key v n d) 1 0) c cs)
  where
    first : (c : Change) (cs : List Change) → touches (c ∷ cs) n ≡ false → (number_of c == n) ≡ false
    first c cs e = false_from_ne_true _ (λ t. false≢true (sym e ∙ or_left _ _ t))

    later : (c : Change) (cs : List Change) → touches (c ∷ cs) n ≡ false → touches cs n ≡ false
    later c cs e = false_from_ne_true _ (λ t. false≢true (sym e ∙ or_right (number_of c == n) _ t))

    other : (c : Change) → (number_of c == n) ≡ false → put_has_key key v c ≡ by_other key v n c
    other (Put m x) e = ap (λ b. not b && has_key key v x) (sym e)
    other (Drop m) e = refl

count_put : (key : List ℕ) (n : ℕ) (x : RowOf) (cs : List Change) → rise (map number_of cs) ≡ true → In (Put n x) cs
    → count_by (put_has_key key (key_of key x)) cs ≡ 1 + count_by (by_other key (key_of key x) n) cs
count_put key n x [] up i = absurd i
count_put key n x (c ∷ cs) up i =
    sum_by-cons (λ d. cond (put_has_key key (key_of key x) d) 1 0) c cs
    ∙ ⊎_elim here (λ among. later (count_put key n x cs (rise_later c cs up) among) among) i
    ∙ ap (λ m. 1 + m) (sym (sum_by-cons (λ d. cond (by_other key (key_of key x) n d) 1 0) c cs))
  where
    here : Put n x ≡ c → cond (put_has_key key (key_of key x) c) 1 0 + count_by (put_has_key key (key_of key x)) cs
        ≡ 1 + (cond (by_other key (key_of key x) n c) 1 0 + count_by (by_other key (key_of key x) n) cs)
    here same =
        let number : n ≡ number_of c = ap number_of same in
        let apart : touches cs n ≡ false = ap (touches cs) number ∙ later_untouched c cs up in
        let put : put_has_key key (key_of key x) c ≡ true = ap (put_has_key key (key_of key x)) (sym same) ∙ own_key key x in
        let not_other : by_other key (key_of key x) n c ≡ false =
        ap (by_other key (key_of key x) n) (sym same) ∙ ap (λ b. not b && has_key key (key_of key x) x) (eq-eqb n n refl) in
        omega (
          arith,
          ap bit put,
          ap bit not_other,
          count_others key (key_of key x) n cs apart,
        )

    other : (c : Change) → (number_of c == n) ≡ false → put_has_key key (key_of key x) c ≡ by_other key (key_of key x) n c
    other (Put m y) e = ap (λ b. not b && has_key key (key_of key x) y) (sym e)
    other (Drop m) e = refl

    later : count_by (put_has_key key (key_of key x)) cs ≡ 1 + count_by (by_other key (key_of key x) n) cs → In (Put n x) cs
        → cond (put_has_key key (key_of key x) c) 1 0 + count_by (put_has_key key (key_of key x)) cs
        ≡ 1 + (cond (by_other key (key_of key x) n c) 1 0 + count_by (by_other key (key_of key x) n) cs)
    later ih among =
        let lt : number_of c < n = rise_above (number_of c) cs n up (number_touched cs (Put n x) among) in
        omega (
          arith,
          ap bit (other c (ne_eqb (number_of c) n (λ e. omega arith))),
          ih,
        )

any_from_count : {X : Type 0} (test : X → Bool) (xs : List X) → nat_lt 0 (count_by test xs) ≡ list_any test xs
any_from_count test [] = refl
any_from_count test (x ∷ xs) = ap (nat_lt 0) (sum_by-cons (λ y. cond (test y) 1 0) x xs) ∙ go (test x) (any_from_count test xs)
  where
    go : (b : Bool) → nat_lt 0 (count_by test xs) ≡ list_any test xs → nat_lt 0 (cond b 1 0 + count_by test xs) ≡ (b || list_any test xs)
    go true ih = lt-ltb 0 (1 + count_by test xs) (omega arith)
    go false ih = ap (nat_lt 0) (let e : 0 + count_by test xs ≡ count_by test xs = omega arith in e) ∙ ih

less_one : (m n : ℕ) → m ≡ 1 + n → nat_lt 1 m ≡ nat_lt 0 n
less_one m n e = one_test _ _
    (λ t. lt-ltb 0 n (let lt : 1 < m = ltb-true 1 m t in omega arith))
    (λ t. lt-ltb 1 m (let lt : 0 < n = ltb-true 0 n t in omega arith))

put_twice : (key : List ℕ) (n : ℕ) (x : RowOf) (cs : List Change) → rise (map number_of cs) ≡ true → In (Put n x) cs
    → list_any (by_other key (key_of key x) n) cs ≡ is_put_twice key cs (key_of key x)
put_twice key n x cs up among =
    sym (any_from_count (by_other key (key_of key x) n) cs) ∙ sym (less_one _ _ (count_put key n x cs up among))

-- a row that the changes leave is another row than theirs
kept_others : (rows : Table) (key : List ℕ) (cs : List Change) (n : ℕ) (v : List Value) → touches cs n ≡ true
    → list_any (untouched_passes (λ p. not (p.0 == n) && has_key key v p.1) cs) rows ≡ is_kept_value rows key cs v
kept_others rows key cs n v there = same_any _ _ same rows
  where
    same : (p : ℕ × RowOf) → (not (touches cs p.0) && (not (p.0 == n) && has_key key v p.1)) ≡ (not (touches cs p.0) && has_key key v p.1)
    same p = go (p.0 == n) refl
      where
        go : (b : Bool) → (p.0 == n) ≡ b → (not (touches cs p.0) && (not b && has_key key v p.1)) ≡ (not (touches cs p.0) && has_key key v p.1)
        go true e =
            let t : touches cs p.0 ≡ true = ap (touches cs) (eqb-true p.0 n e) ∙ there in
            ap (λ b. not b && false) t ∙ sym (ap (λ b. not b && has_key key v p.1) t)
        go false e = refl

-- the test of the definition, by look-ups
pub other_is_shared : (rows : Table) (key : List ℕ) (cs : List Change) (n : ℕ) (x : RowOf) → are_sorted rows ≡ true → rise (map number_of cs) ≡ true → In (Put n x) cs
    → has_other (apply rows cs) key n (key_of key x) ≡ is_shared rows key cs (key_of key x)
other_is_shared rows key cs n x sorted up among =
    any_after (λ p. not (p.0 == n) && has_key key (key_of key x) p.1) rows cs sorted up
    ∙ ap₂ (λ a b. a || b) (put_twice key n x cs up among) (kept_others rows key cs n (key_of key x) (number_touched cs (Put n x) among))

shared_is : (rows : Table) (cs : List Change) (i : ℕ) (key : List ℕ) (c : Change) → are_sorted rows ≡ true → rise (map number_of cs) ≡ true → In c cs
    → shared_at rows cs i key c ≡ duplicate_at (apply rows cs) i key c
shared_is rows cs i key (Put n x) sorted up among =
    ap (λ b. cond b (Some (refusal.Duplicate i n)) None) (sym (other_is_shared rows key cs n x sorted up among))
shared_is rows cs i key (Drop n) sorted up among = refl

all_shared : (rows : Table) (cs : List Change) (i : ℕ) (key : List ℕ) → are_sorted rows ≡ true → rise (map number_of cs) ≡ true
    → (ds : List Change) → ((c : Change) → In c ds → In c cs) → first_some (shared_at rows cs i key) ds ≡ first_some (duplicate_at (apply rows cs) i key) ds
all_shared rows cs i key sorted up [] among = refl
all_shared rows cs i key sorted up (d ∷ ds) among =
    ap₂ option_or (shared_is rows cs i key d sorted up (among d (inl refl)))
    (all_shared rows cs i key sorted up ds (λ c i. among c (inr i)))

pub first_shared : (rows : Table) (cs : List Change) (i : ℕ) (key : List ℕ) → are_sorted rows ≡ true → rise (map number_of cs) ≡ true
    → first_some (shared_at rows cs i key) cs ≡ first_some (duplicate_at (apply rows cs) i key) cs
first_shared rows cs i key sorted up = all_shared rows cs i key sorted up cs (λ c i. i)

-- the rows that the store names for a value are enough

shows_at : (test : ℕ → Bool) (key : List ℕ) (v : List Value) (rows : Table) (n : ℕ) → test n ≡ true → some_has_key key v (row_at rows n) ≡ true
    → list_any (λ p. test p.0 && has_key key v p.1) rows ≡ true
shows_at test key v [] n t h = absurd (false≢true h)
shows_at test key v (p ∷ rows) n t h = go (p.0 == n) refl (shows_at test key v rows n t) h
  where
    go : (b : Bool) → (p.0 == n) ≡ b → (some_has_key key v (row_at rows n) ≡ true → list_any (λ q. test q.0 && has_key key v q.1) rows ≡ true)
        → some_has_key key v (cond b (Some p.1) (row_at rows n)) ≡ true → list_any (λ q. test q.0 && has_key key v q.1) (p ∷ rows) ≡ true
    go true e ih f = or_left _ _ (and_from _ _ (ap test (eqb-true p.0 n e) ∙ t) f)
    go false e ih f = or_right (test p.0 && has_key key v p.1) _ (ih f)

some_shows : (test : ℕ → Bool) (key : List ℕ) (v : List Value) (rows : Table) (ids : List ℕ) → list_any (λ id. test id && some_has_key key v (row_at rows id)) ids ≡ true
    → list_any (λ p. test p.0 && has_key key v p.1) rows ≡ true
some_shows test key v rows [] e = absurd (false≢true e)
some_shows test key v rows (id ∷ ids) e =
    ⊎_elim (λ here. let both = and_parts _ _ here in shows_at test key v rows id both.0 both.1)
    (λ later. some_shows test key v rows ids later) (or_cases _ _ e)

record Shown (test : ℕ → Bool) (key : List ℕ) (v : List Value) (rows : Table) : Type 0 where
  number : ℕ
  row : RowOf
  there : row_at rows number ≡ Some row
  passes : test number ≡ true
  has : has_key key v row ≡ true

shown_in : (test : ℕ → Bool) (key : List ℕ) (v : List Value) (rows : Table) → are_sorted rows ≡ true → list_any (λ p. test p.0 && has_key key v p.1) rows ≡ true
    → Shown test key v rows
shown_in test key v [] sorted e = absurd (false≢true e)
shown_in test key v (p ∷ rows) sorted e =
    ⊎_elim
    (λ here.
    let both = and_parts _ _ here in
    record { number = p.0; row = p.1; there = ap (λ b. cond b (Some p.1) (row_at rows p.0)) (eq-eqb p.0 p.0 refl); passes = both.0; has = both.1 })
    (λ later. more (shown_in test key v rows (sorted_above p.0 rows sorted) later)) (or_cases _ _ e)
  where
    more : Shown test key v rows → Shown test key v (p ∷ rows)
    more s =
        let lt : p.0 < s.number = above_low p.0 rows s.number sorted (ap is_some s.there) in
        record {
          number = s.number;
          row = s.row;
          there = ap (λ b. cond b (Some p.1) (row_at rows s.number)) (ne_eqb p.0 s.number (λ e. omega arith)) ∙ s.there;
          passes = s.passes;
          has = s.has;
        }

named_passes : (test : ℕ → Bool) (ids : List ℕ) (n : ℕ) → names_row ids n ≡ true → test n ≡ true → list_any test ids ≡ true
named_passes test [] n e t = absurd (false≢true e)
named_passes test (id ∷ ids) n e t =
    ⊎_elim (λ here. or_left _ _ (ap test (eqb-true id n here) ∙ t))
    (λ later. or_right (test id) _ (named_passes test ids n later t)) (or_cases _ _ e)

pub named_enough : (test : ℕ → Bool) (key : List ℕ) (v : List Value) (rows : Table) (ids : List ℕ) → are_sorted rows ≡ true
    → ((n : ℕ) (x : RowOf) → row_at rows n ≡ Some x → has_key key v x ≡ true → names_row ids n ≡ true)
    → list_any (λ id. test id && some_has_key key v (row_at rows id)) ids ≡ list_any (λ p. test p.0 && has_key key v p.1) rows
named_enough test key v rows ids sorted complete = one_test _ _ (some_shows test key v rows ids) back
  where
    back : list_any (λ p. test p.0 && has_key key v p.1) rows ≡ true → list_any (λ id. test id && some_has_key key v (row_at rows id)) ids ≡ true
    back e =
        let s = shown_in test key v rows sorted e in
        named_passes (λ id. test id && some_has_key key v (row_at rows id)) ids s.number (complete s.number s.row s.there s.has)
        (and_from _ _ s.passes (ap (some_has_key key v) s.there ∙ s.has))

-- a row that is seen with a key has it in a version or in the open write

found_has : (r : ℕ) (places : List ℕ) (q : List Value) (versions : List Version) (x : RowOf) → option_map (λ v. v.row) (find (is_visible r) versions) ≡ Some x
    → row_has places q x ≡ true → list_any (λ v. row_has places q v.row) versions ≡ true
found_has r places q [] x e h = absurd (cc)
found_has r places q (v ∷ versions) x e h = go (is_visible r v) (found_has r places q versions x) e
  where
    go : (b : Bool) → (option_map (λ w. w.row) (find (is_visible r) versions) ≡ Some x → row_has places q x ≡ true → list_any (λ w. row_has places q w.row) versions ≡ true)
        → option_map (λ w. w.row) (cond b (Some v) (find (is_visible r) versions)) ≡ Some x → list_any (λ w. row_has places q w.row) (v ∷ versions) ≡ true
    go true ih f = let same : v.row ≡ x = cc in or_left _ _ (ap (row_has places q) same ∙ h)
    go false ih f = or_right (row_has places q v.row) _ (ih f h)

seen_has : (k r : ℕ) (places : List ℕ) (q : List Value) (versions : List Version) (o : Option Slot) (x : RowOf) → seen k r (versions, o) ≡ Some x
    → row_has places q x ≡ true → body_has places q (versions, o) ≡ true
seen_has k r places q versions None x e h = or_left _ _ (found_has r places q versions x e h)
seen_has k r places q versions (Some s) x e h = go (s.holder == k) refl
  where
    go : (b : Bool) → (s.holder == k) ≡ b → body_has places q (versions, Some s) ≡ true
    go true t =
        let put : s.change ≡ Some x = rw t at e in
        or_right (list_any (λ v. row_has places q v.row) versions) _ (by s.change put)
      where
        by : (c : Option RowOf) → c ≡ Some x → body_has places q ([], Some (record { holder = s.holder; change = c })) ≡ true
        by None p = absurd (cc)
        by (Some y) p = let same : y ≡ x = cc in ap (row_has places q) same ∙ h
    go false t = or_left _ _ (found_has r places q versions x (rw t at e) h)

pub seen_is_named : (S : Store) (j : ℕ) (q : List Value) (k r n : ℕ) (x : RowOf) → seen k r (chain S n, slot S n) ≡ Some x
    → row_has (places_of S.schema j) q x ≡ true → store_has_key S j q n ≡ true
unfolding store_has_key chain slot
seen_is_named S j q k r n x e h = seen_has k r (places_of S.schema j) q (body_at S.lines n).0 (body_at S.lines n).1 x e h

-- what the store names of a unique key shows whether the view keeps the value

first_keys : (schema : Schema) (j : ℕ) → j < length schema.uniques → slice_index_or (keys_of schema) j [] ≡ unique_key schema j
first_keys schema j lt = get_or_append_left schema.uniques schema.indexes [] j lt

pub key_number : (schema : Schema) (j : ℕ) → j < length schema.uniques → j < length (keys_of schema)
key_number schema j lt = omega (arith, length-append schema.uniques schema.indexes)

pub unique_value : (schema : Schema) (j : ℕ) (row : RowOf) → j < length schema.uniques → key_of (slice_index_or (keys_of schema) j []) row ≡ key_of (unique_key schema j) row
unique_value schema j row lt = ap (λ places. key_of places row) (first_keys schema j lt)

pub sees : (s : State) → Good s → (k n r : ℕ) → pin_of (history_of s) k ≡ None → r ≡ length (history_of s)
    → seen k r (chain s.rows n, slot s.rows n) ≡ row_at (view (history_of s) k) n
sees s g k n r free now =
    ap (λ t. seen k t (chain s.rows n, slot s.rows n)) (now ∙ sym (ap (λ o. unwrap_or o (length (history_of s))) free)) ∙ (shows_rows s g).views k n

pub keeps : (s : State) → Good s → (k j : ℕ) → j < length s.schema.uniques → (cs : List Change) (v : List Value) (ids : List ℕ)
    → ((n : ℕ) → names_row ids n ≡ store_has_key s.rows j v n)
    → list_any (λ id. not (touches cs id) && some_has_key (unique_key s.schema j) v (row_at (view (history_of s) k) id)) ids
    ≡ is_kept_value (view (history_of s) k) (unique_key s.schema j) cs v
keeps s g k j lt cs v ids named =
    named_enough (λ n. not (touches cs n)) (unique_key s.schema j) v (view (history_of s) k) ids (sorted_above 0 (view (history_of s) k) (view_rises s g k)) complete
  where
    places : places_of s.rows.schema j ≡ unique_key s.schema j
    places = ap (λ schema. places_of schema j) g.placement.schema_is ∙ first_keys s.schema j lt

    complete : (n : ℕ) (x : RowOf) → row_at (view (history_of s) k) n ≡ Some x → has_key (unique_key s.schema j) v x ≡ true → names_row ids n ≡ true
    complete n x e h =
        named n
        ∙ seen_is_named s.rows j v k (read_at (history_of s) k) n x ((shows_rows s g).views k n ∙ e) (ap (λ p. row_has p v x) places ∙ h)

-- values put into the sets

as_or : (a b : Bool) → cond a true b ≡ (a || b)
as_or true b = refl
as_or false b = refl

pub put_in : (k v : List Value) (old new : Bool) → new ≡ cond (is_at (row_cmp k) v) true old → new ≡ (row_eq k v || old)
put_in k v old new e = e ∙ ap (λ b. cond b true old) (sym (lists_ties value_cmp value_ties k v)) ∙ as_or (row_eq k v) old

abbrev Inserts : List Value → BTreeSet (List Value) → BTreeSet (List Value) → Type 0
Inserts k old new = (v : List Value) → contains row_cmp new v ≡ (row_eq k v || contains row_cmp old v)

pub put_again : (k : List Value) (old : PutValues) (twice : BTreeSet (List Value)) → contains row_cmp old.once k ≡ true → Inserts k old.twice twice
    → Adds (λ v. row_eq k v) old (record { once = old.once; twice = twice })
put_again k old twice there put = record { once = once; twice = λ v. put v ∙ ap (λ b. b || contains row_cmp old.twice v) (both v (row_eq k v) refl) }
  where
    both : (v : List Value) (b : Bool) → row_eq k v ≡ b → b ≡ (b && contains row_cmp old.once v)
    both v true e = sym (ap (contains row_cmp old.once) (sym (same_row k v e)) ∙ there)
    both v false e = refl

    once : (v : List Value) → contains row_cmp old.once v ≡ (row_eq k v || contains row_cmp old.once v)
    once v = go (row_eq k v) refl
      where
        go : (b : Bool) → row_eq k v ≡ b → contains row_cmp old.once v ≡ (b || contains row_cmp old.once v)
        go true e = ap (contains row_cmp old.once) (sym (same_row k v e)) ∙ there
        go false e = refl

pub put_first : (k : List Value) (old : PutValues) (once : BTreeSet (List Value)) → contains row_cmp old.once k ≡ false → Inserts k old.once once
    → Adds (λ v. row_eq k v) old (record { once = once; twice = old.twice })
put_first k old once absent put = record { once = put; twice = λ v. ap (λ b. b || contains row_cmp old.twice v) (neither v (row_eq k v) refl) }
  where
    neither : (v : List Value) (b : Bool) → row_eq k v ≡ b → false ≡ (b && contains row_cmp old.once v)
    neither v true e = sym (ap (contains row_cmp old.once) (sym (same_row k v e)) ∙ absent)
    neither v false e = refl

-- one more value changes the counts

pub put_more : (old new : PutValues) (test : List Value → Bool) (times more : List Value → ℕ) → HasTimes old times → Adds test old new
    → ((v : List Value) → more v ≡ cond (test v) (times v + 1) (times v)) → HasTimes new more
put_more old new test times more h a step = record {
  once = λ v. a.once v ∙ ap (λ b. test v || b) (h.once v) ∙ first (test v) (times v) ∙ sym (ap (nat_lt 0) (step v));
  twice = λ v. a.twice v ∙ ap₂ (λ b c. (test v && b) || c) (h.once v) (h.twice v) ∙ second (test v) (times v) ∙ sym (ap (nat_lt 1) (step v));
}
  where
    first : (b : Bool) (n : ℕ) → (b || nat_lt 0 n) ≡ nat_lt 0 (cond b (n + 1) n)
    first true n = sym (lt-ltb 0 (n + 1) (omega arith))
    first false n = refl

    second : (b : Bool) (n : ℕ) → ((b && nat_lt 0 n) || nat_lt 1 n) ≡ nat_lt 1 (cond b (n + 1) n)
    second true n = grind (arith, nat_tests)
    second false n = refl

pub times_more : (key : List ℕ) (cs : List Change) (i : ℕ) (c : Change) (v : List Value) → i < length cs → c ≡ get_or cs i c
    → times_put key (take (i + 1) cs) v ≡ cond (put_has_key key v c) (times_put key (take i cs) v + 1) (times_put key (take i cs) v)
times_more key cs i c v lt at = go (put_has_key key v c) refl
  where
    go : (b : Bool) → put_has_key key v c ≡ b → times_put key (take (i + 1) cs) v ≡ cond b (times_put key (take i cs) v + 1) (times_put key (take i cs) v)
    go true e = count_by_more_yes (put_has_key key v) cs i c lt (ap (put_has_key key v) (sym at) ∙ e)
    go false e = count_by_more_no (put_has_key key v) cs i c lt (ap (put_has_key key v) (sym at) ∙ e)

-- a binary search among the changes

rising_at : (cs : List Change) → rise (map number_of cs) ≡ true → (k : ℕ) (d : Change) → suc k < length cs → number_of (get_or cs k d) < number_of (get_or cs (suc k) d)
rising_at [] up k d lt = absurd (omega arith)
rising_at (c ∷ []) up k d lt = absurd (omega arith)
rising_at (c ∷ e ∷ cs) up zero d lt = ltb-true (number_of c) (number_of e) (and_parts _ _ up).0
rising_at (c ∷ e ∷ cs) up (suc k) d lt = rising_at (e ∷ cs) (and_parts _ _ up).1 k d (omega arith)

not_below : (a b : ℕ) → a < b → is_lt (nat_cmp b a) ≡ false
not_below a b lt = ap (λ t. is_lt (cond t Less (cond (b == a) Equal Greater))) (le-ltb b a (omega arith)) ∙ go (b == a)
  where
    go : (t : Bool) → is_lt (cond t Equal Greater) ≡ false
    go true = refl
    go false = refl

sorted_by : (cs : List Change) → rise (map number_of cs) ≡ true → IsSortedBy (λ a b. is_lt (nat_cmp (number_of a) (number_of b))) cs
sorted_by cs up k d from lt =
    let P : ℕ → Type 0 = λ m. is_lt (nat_cmp (number_of (get_or cs m d)) (number_of (get_or cs k d))) ≡ false in
    subst P (sym (add-one k)) (not_below (number_of (get_or cs k d)) (number_of (get_or cs (suc k) d)) (rising_at cs up k d (omega arith)))

equal_same : (a b : ℕ) → nat_cmp a b ≡ Equal → (a == b) ≡ true
equal_same a b e = go (nat_lt a b) (a == b) refl e
  where
    go : (p q : Bool) → (a == b) ≡ q → cond p Less (cond q Equal Greater) ≡ Equal → (a == b) ≡ true
    go true q s f = absurd (cc)
    go false true s f = s
    go false false s f = absurd (cc)

same_equal : (a b : ℕ) → (a == b) ≡ true → nat_cmp a b ≡ Equal
same_equal a b e =
    let same : a ≡ b = eqb-true a b e in
    ap₂ (λ p q. cond p Less (cond q Equal Greater)) (le-ltb a b (omega arith)) e

other_apart : (a b : ℕ) (o : Ordering) → (o ≡ Equal → ⊥) → nat_cmp a b ≡ o → (a == b) ≡ false
other_apart a b o apart e = false_from_ne_true _ (λ t. apart (sym e ∙ same_equal a b t))

pub searched : (cs : List Change) (id : ℕ) (r : Result ℕ ℕ) → rise (map number_of cs) ≡ true → IsSearchInRange r (length cs)
    → IsBinarySearchResult (λ c. nat_cmp (number_of c) id) cs r → is_ok r ≡ touches cs id
searched cs id (Ok i) up within found = sym (list_any_at (λ c. number_of c == id) cs i (Drop 0) within (equal_same _ _ (found (Drop 0))))
searched cs id (Err i) up within found = sym (list_any_none (λ c. number_of c == id) cs none)
  where
    none : (k : ℕ) (d : Change) → k < length cs → (number_of (get_or cs k d) == id) ≡ false
    none k d lt =
        let both = found (searchable_from_sorted nat_cmp_total number_of cs id (sorted_by cs up)) in
        ⊎_elim
        (λ (low : k < i). other_apart _ _ Less (λ e. absurd (cc)) (both.0 k d (omega arith) low))
        (λ (high : i ≤ k). other_apart _ _ Greater (λ e. absurd (cc)) (both.1 k d high lt)) (cases_lt k i)

-- the refusal of one change, from the test of its value

shared_by : (rows : Table) (cs : List Change) (i : ℕ) (key : List ℕ) (c : Change) (n : ℕ) (x : RowOf) (v : List Value) (b : Bool) → c ≡ Put n x → v ≡ key_of key x → b ≡ is_shared rows key cs v
    → cond b (Some (refusal.Duplicate i n)) None ≡ shared_at rows cs i key c
shared_by rows cs i key c n x v b put same test =
    ap (λ t. cond t (Some (refusal.Duplicate i n)) None) (test ∙ ap (is_shared rows key cs) same) ∙ sym (ap (shared_at rows cs i key) put)

pub refused_by : (rows : Table) (cs : List Change) (j : ℕ) (key : List ℕ) (c : Change) (n : ℕ) (x : RowOf) (v : List Value) (b : Bool) → c ≡ Put n x → v ≡ key_of key x → b ≡ is_shared rows key cs v
    → b ≡ true → Some (refusal.Duplicate (j + 1) n) ≡ shared_at rows cs (suc j) key c
refused_by rows cs j key c n x v b put same test is =
    ap (λ m. Some (refusal.Duplicate m n)) (add-one j)
    ∙ ap (λ t. cond t (Some (refusal.Duplicate (suc j) n)) None) (sym is)
    ∙ shared_by rows cs (suc j) key c n x v b put same test

pub unrefused_by : (rows : Table) (cs : List Change) (j : ℕ) (key : List ℕ) (c : Change) (n : ℕ) (x : RowOf) (v : List Value) (b : Bool) → c ≡ Put n x → v ≡ key_of key x → b ≡ is_shared rows key cs v
    → b ≡ false → None ≡ shared_at rows cs (suc j) key c
unrefused_by rows cs j key c n x v b put same test isnt =
    ap (λ t. cond t (Some (refusal.Duplicate (suc j) n)) None) (sym isnt) ∙ shared_by rows cs (suc j) key c n x v b put same test

-- the first of two answers

pub first_stays : (a b : Option Refusal) → is_some a ≡ true → option_or a b ≡ a
first_stays None b e = absurd (false≢true e)
first_stays (Some x) b e = refl

pub first_absent : (a b : Option Refusal) → is_some a ≡ false → option_or a b ≡ b
first_absent None b e = refl
first_absent (Some x) b e = absurd (true≢false e)

-- a loop over the keys

pub key_stays : (F : ℕ → List ℕ → Option Refusal) (keys : List (List ℕ)) (j : ℕ) (found : Option Refusal) → j < length keys → found ≡ F (suc j) (slice_index_or keys j []) → is_some found ≡ true
    → found ≡ first_from (suc j) F (drop j keys)
key_stays F keys j found lt at e =
    at ∙ sym (first_stays _ (first_from (suc (suc j)) F (drop (j + 1) keys)) (ap is_some (sym at) ∙ e)) ∙ sym (ap (first_from (suc j) F) (drop_more keys j [] lt))

pub key_absent : (F : ℕ → List ℕ → Option Refusal) (keys : List (List ℕ)) (j : ℕ) (found : Option Refusal) → j < length keys → found ≡ F (suc j) (slice_index_or keys j []) → is_some found ≡ false
    → first_from (suc (j + 1)) F (drop (j + 1) keys) ≡ first_from (suc j) F (drop j keys)
key_absent F keys j found lt at e =
    ap (λ m. first_from (suc m) F (drop (j + 1) keys)) (add-one j)
    ∙ sym (first_absent (F (suc j) (slice_index_or keys j [])) (first_from (suc (suc j)) F (drop (j + 1) keys)) (ap is_some (sym at) ∙ e))
    ∙ sym (ap (first_from (suc j) F) (drop_more keys j [] lt))
