-- Lists by rising row number, and what is seen of all rows.
use Rattle.std.proofs.Common.{◌≡◌, ◌∙◌, refl, sym, ap, ℕ, ◌<◌, Bool, true, false, ◌&&◌, ◌||◌, ◌==◌, nat_lt, List, [], ◌∷◌, Option, None, Some, unwrap_or, if◌then◌else◌, cond, eqb-true, arith}
use Rattle.std.specs.declared.cmp.Ordering.TheVariants.{Less}
use Rattle.std.specs.Ordering.{nat_cmp}
use Rattle.std.specs.List.{list_all, filter, AllByRecursion}
use Rattle.std.specs.List.Sorted.{IsStrictlySortedBy}
use Rattle.std.specs.Map.{lookup}
use Rattle.std.specs.BTreeMap.{is_at}
use Rattle.std.specs.Cmp.{nat_eq_equiv, unsigned_ties}
use Rattle.std.proofs.lemmas.Bool.{ltb-true, lt-ltb}
use Rattle.std.proofs.lemmas.Cmp.{ranked}
use Rattle.std.proofs.lemmas.Map.Keys.{sorted_head, sorted_tail}
use Rattle.s2_value.specs.declared.values.Value.{Value}
use Rattle.s2_rowstore.specs.Chains.{Line, body, seen, empty_line}
use Rattle.s2_rowstore.specs.Lines.{for_row, body_at, names_row}
use Rattle.s2_rowstore.specs.Visible.{are_rising, numbers, with_row, visible_in}
use Rattle.s2_rowstore.proofs.Steps.{both}

above : (k : ℕ) (ks : List ℕ) → AllByRecursion (λ y. nat_cmp k y ≡ Less) ks → list_all (nat_lt k) ks ≡ true
above k [] h = refl
above k (y ∷ ks) h = ap (λ b. b && list_all (nat_lt k) ks) (lt-ltb k y (ranked k y Less (sym h.0))) ∙ above k ks h.1

pub rising_from : (ks : List ℕ) → IsStrictlySortedBy nat_cmp ks → are_rising ks ≡ true
rising_from [] s = refl
rising_from (k ∷ ks) s = ap (λ b. b && are_rising ks) (above k ks (sorted_head nat_cmp k ks s)) ∙ rising_from ks (sorted_tail nat_cmp k ks s)

pub lookup_for_row : {X : Type 0} (ps : List (ℕ × X)) (n : ℕ) → lookup (is_at (nat_cmp n)) ps ≡ for_row ps n
lookup_for_row [] n = refl
lookup_for_row (p ∷ ps) n =
    ap (λ b. cond b (Some p.1) (lookup (is_at (nat_cmp n)) ps)) (sym (unsigned_ties n p.0) ∙ nat_eq_equiv.symm n p.0) ∙ ap (λ o. cond (p.0 == n) (Some p.1) o) (lookup_for_row ps n)

-- a number below all of these isn't among them
pub absent : {X : Type 0} (ps : List (ℕ × X)) (n : ℕ) → list_all (nat_lt n) (numbers ps) ≡ true → for_row ps n ≡ None
absent [] n h = refl
absent {X} (p ∷ ps) n h = go (p.0 == n) refl (absent ps n (both _ _ h).1) where
  go : (b : Bool) → (p.0 == n) ≡ b → for_row ps n ≡ None → (if b then Some p.1 else for_row ps n) ≡ None
  go true t ih =
      let same : p.0 ≡ n = eqb-true p.0 n t in
      let less : n < p.0 = ltb-true n p.0 (both _ _ h).0 in
      absurd (omega arith)
  go false t ih = ih

visible_above : (k r m : ℕ) (es : List (ℕ × Line)) → list_all (nat_lt m) (numbers es) ≡ true → list_all (nat_lt m) (numbers (visible_in k r es)) ≡ true
visible_above k r m [] h = refl
visible_above k r m (e ∷ es) h = go (seen k r (body e.1)) (visible_above k r m es (both _ _ h).1) where
  go : (o : Option (List Value)) → list_all (nat_lt m) (numbers (visible_in k r es)) ≡ true → list_all (nat_lt m) (numbers (with_row e.0 o (visible_in k r es))) ≡ true
  go None ih = ih
  go (Some row) ih = ap (λ b. b && list_all (nat_lt m) (numbers (visible_in k r es))) (both _ _ h).0 ∙ ih

pub visible_rising : (k r : ℕ) (es : List (ℕ × Line)) → are_rising (numbers es) ≡ true → are_rising (numbers (visible_in k r es)) ≡ true
visible_rising k r [] h = refl
visible_rising k r (e ∷ es) h = go (seen k r (body e.1)) (visible_rising k r es (both _ _ h).1) where
  go : (o : Option (List Value)) → are_rising (numbers (visible_in k r es)) ≡ true → are_rising (numbers (with_row e.0 o (visible_in k r es))) ≡ true
  go None ih = ih
  go (Some row) ih = ap (λ b. b && are_rising (numbers (visible_in k r es))) (visible_above k r e.0 es (both _ _ h).0) ∙ ih

visible_row_at : (k r : ℕ) (es : List (ℕ × Line)) (n : ℕ) → are_rising (numbers es) ≡ true → for_row (visible_in k r es) n ≡ seen k r (body (unwrap_or (for_row es n) empty_line))
visible_row_at k r [] n h = refl
visible_row_at k r (e ∷ es) n h = go (e.0 == n) refl (seen k r (body e.1)) refl (visible_row_at k r es n (both _ _ h).1) where
  go : (b : Bool) → (e.0 == n) ≡ b → (o : Option (List Value)) → seen k r (body e.1) ≡ o
      → for_row (visible_in k r es) n ≡ seen k r (body (unwrap_or (for_row es n) empty_line))
      → for_row (with_row e.0 o (visible_in k r es)) n ≡ seen k r (body (unwrap_or (if b then Some e.1 else for_row es n) empty_line))
  go true t None s ih =
      let below : list_all (nat_lt n) (numbers es) ≡ true = ap (λ m. list_all (nat_lt m) (numbers es)) (sym (eqb-true e.0 n t)) ∙ (both _ _ h).0 in
      ih ∙ ap (λ o. seen k r (body (unwrap_or o empty_line))) (absent es n below) ∙ sym s
  go true t (Some row) s ih = ap (λ b. if b then Some row else for_row (visible_in k r es) n) t ∙ sym s
  go false t None s ih = ih
  go false t (Some row) s ih = ap (λ b. if b then Some row else for_row (visible_in k r es) n) t ∙ ih

pub visible_at : (k r : ℕ) (es : List (ℕ × Line)) (n : ℕ) → are_rising (numbers es) ≡ true → for_row (visible_in k r es) n ≡ seen k r (body_at es n)
visible_at k r es n h = visible_row_at k r es n h ∙ sym (ap (λ o. seen k r (body (unwrap_or o empty_line))) (lookup_for_row es n))

-- ---- filters
filter_above : (p : ℕ → Bool) (m : ℕ) (ns : List ℕ) → list_all (nat_lt m) ns ≡ true → list_all (nat_lt m) (filter p ns) ≡ true
filter_above p m [] h = refl
filter_above p m (n ∷ ns) h = go (p n) (filter_above p m ns (both _ _ h).1) where
  go : (b : Bool) → list_all (nat_lt m) (filter p ns) ≡ true → list_all (nat_lt m) (cond b (n ∷ filter p ns) (filter p ns)) ≡ true
  go true ih = ap (λ b. b && list_all (nat_lt m) (filter p ns)) (both _ _ h).0 ∙ ih
  go false ih = ih

pub filter_rising : (p : ℕ → Bool) (ns : List ℕ) → are_rising ns ≡ true → are_rising (filter p ns) ≡ true
filter_rising p [] h = refl
filter_rising p (n ∷ ns) h = go (p n) (filter_rising p ns (both _ _ h).1) where
  go : (b : Bool) → are_rising (filter p ns) ≡ true → are_rising (cond b (n ∷ filter p ns) (filter p ns)) ≡ true
  go true ih = ap (λ b. b && are_rising (filter p ns)) (filter_above p n ns (both _ _ h).0) ∙ ih
  go false ih = ih

pub names_filter : (p : ℕ → Bool) (ns : List ℕ) (n : ℕ) → names_row (filter p ns) n ≡ (names_row ns n && p n)
names_filter p [] n = refl
names_filter p (m ∷ ns) n = go (m == n) refl (p m) refl (names_filter p ns n) where
  go : (a : Bool) → (m == n) ≡ a → (b : Bool) → p m ≡ b → names_row (filter p ns) n ≡ (names_row ns n && p n) → names_row (cond b (m ∷ filter p ns) (filter p ns)) n ≡ ((a || names_row ns n) && p n)
  go true t true q ih = ap (λ a. a || names_row (filter p ns) n) t ∙ sym (ap p (sym (eqb-true m n t)) ∙ q)
  go true t false q ih = ih ∙ ap (λ a. names_row ns n && a) (ap p (sym (eqb-true m n t)) ∙ q) ∙ none (names_row ns n) ∙ sym (ap p (sym (eqb-true m n t)) ∙ q) where
    none : (a : Bool) → (a && false) ≡ false
    none true = refl
    none false = refl
  go false t true q ih = ap (λ a. a || names_row (filter p ns) n) t ∙ ih
  go false t false q ih = ih

-- a filter of candidates among which is each that passes
pub names_exactly : (p : ℕ → Bool) (ns : List ℕ) (n : ℕ) → (p n ≡ true → names_row ns n ≡ true) → names_row (filter p ns) n ≡ p n
names_exactly p ns n complete = names_filter p ns n ∙ go (p n) complete where
  go : (b : Bool) → (b ≡ true → names_row ns n ≡ true) → (names_row ns n && b) ≡ b
  go true c = ap (λ a. a && true) (c refl)
  go false c = none (names_row ns n) where
    none : (a : Bool) → (a && false) ≡ false
    none true = refl
    none false = refl
