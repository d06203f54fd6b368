-- Rising lists that name the same numbers are one.
use Rattle.std.proofs.Common.{◌≡◌, ◌∙◌, refl, sym, ap, inl, inr, ◌⊎◌, ℕ, ◌<◌, Bool, true, false, ◌||◌, ◌==◌, nat_lt, List, [], ◌∷◌, eqb-true, arith}
use Rattle.std.specs.List.{list_all}
use Rattle.std.specs.Cmp.{nat_eq_equiv}
use Rattle.std.proofs.lemmas.Bool.{false≢true, ltb-true}
use Rattle.s2_rowstore.specs.Lines.{names_row}
use Rattle.s2_rowstore.specs.Visible.{are_rising}
use Rattle.s2_rowstore.proofs.Steps.{both}

either_or : (a b : Bool) → (a || b) ≡ true → (a ≡ true) ⊎ (b ≡ true)
either_or true b e = inl refl
either_or false b e = inr e

named_above : (m : ℕ) (ns : List ℕ) (k : ℕ) → list_all (nat_lt m) ns ≡ true → names_row ns k ≡ true → m < k
named_above m [] k above e = absurd (false≢true e)
named_above m (n ∷ ns) k above e = pick (either_or _ _ e) (named_above m ns k (both _ _ above).1) where
  pick : ((n == k) ≡ true) ⊎ (names_row ns k ≡ true) → (names_row ns k ≡ true → m < k) → m < k
  pick (inl here) ih =
      let same : n ≡ k = eqb-true n k here in
      let less : m < n = ltb-true m n (both _ _ above).0 in
      omega (arith, same)
  pick (inr there) ih = ih there

first_named : (m : ℕ) (ms : List ℕ) → names_row (m ∷ ms) m ≡ true
first_named m ms = ap (λ b. b || names_row ms m) (nat_eq_equiv.refl m)

-- the first is named by the other list: it is its first, or above it
at_or_above : (n k : ℕ) (ns : List ℕ) → list_all (nat_lt n) ns ≡ true → names_row (n ∷ ns) k ≡ true → (n ≡ k) ⊎ (n < k)
at_or_above n k ns above e = pick (either_or _ _ e) where
  pick : ((n == k) ≡ true) ⊎ (names_row ns k ≡ true) → (n ≡ k) ⊎ (n < k)
  pick (inl here) = inl (eqb-true n k here)
  pick (inr there) = inr (named_above n ns k above there)

least : (m n : ℕ) → (n ≡ m) ⊎ (n < m) → (m ≡ n) ⊎ (m < n) → m ≡ n
least m n (inl e) b = sym e
least m n (inr a) (inl e) = e
least m n (inr a) (inr b) = absurd (omega arith)

-- behind the same first number the others name the same
rest_named : (m : ℕ) (ms ns : List ℕ) → list_all (nat_lt m) ms ≡ true → list_all (nat_lt m) ns ≡ true → ((k : ℕ) → names_row (m ∷ ms) k ≡ names_row (m ∷ ns) k)
    → (k : ℕ) → names_row ms k ≡ names_row ns k
rest_named m ms ns above higher same k = go (m == k) refl (same k) where
  none : (xs : List ℕ) → list_all (nat_lt m) xs ≡ true → m ≡ k → (b : Bool) → names_row xs k ≡ b → names_row xs k ≡ false
  none xs over is false e = e
  none xs over is true e =
      let less : m < k = named_above m xs k over e in
      absurd (omega (arith, is))

  go : (b : Bool) → (m == k) ≡ b → ((m == k) || names_row ms k) ≡ ((m == k) || names_row ns k) → names_row ms k ≡ names_row ns k
  go true t e = none ms above (eqb-true m k t) (names_row ms k) refl ∙ sym (none ns higher (eqb-true m k t) (names_row ns k) refl)
  go false t e = sym (ap (λ b. b || names_row ms k) t) ∙ e ∙ ap (λ b. b || names_row ns k) t

pub one_list : (ms ns : List ℕ) → are_rising ms ≡ true → are_rising ns ≡ true → ((k : ℕ) → names_row ms k ≡ names_row ns k) → ms ≡ ns
one_list [] [] r s same = refl
one_list [] (n ∷ ns) r s same = absurd (false≢true (same n ∙ first_named n ns))
one_list (m ∷ ms) [] r s same = absurd (false≢true (sym (same m) ∙ first_named m ms))
one_list (m ∷ ms) (n ∷ ns) r s same = go first (one_list ms ns (both _ _ r).1 (both _ _ s).1) where
  first : m ≡ n
  first = least m n (at_or_above n m ns (both _ _ s).0 (sym (same m) ∙ first_named m ms)) (at_or_above m n ms (both _ _ r).0 (same n ∙ first_named n ns))

  go : m ≡ n → (((k : ℕ) → names_row ms k ≡ names_row ns k) → ms ≡ ns) → m ∷ ms ≡ n ∷ ns
  go e ih =
      let higher : list_all (nat_lt m) ns ≡ true = ap (λ k. list_all (nat_lt k) ns) e ∙ (both _ _ s).0 in
      let both_name : (k : ℕ) → names_row (m ∷ ms) k ≡ names_row (m ∷ ns) k = λ k. same k ∙ ap (λ n. names_row (n ∷ ns) k) (sym e) in
      ap (λ ns. m ∷ ns) (ih (rest_named m ms ns (both _ _ r).0 higher both_name)) ∙ ap (λ k. k ∷ ns) e
