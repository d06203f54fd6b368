-- Filters and counts over a range of numbers.
use Rattle.std.proofs.Common.{◌≡◌, ℕ, zero, suc, ◌+◌, ◌-◌, ◌<◌, ◌≤◌, Bool, true, false, [], ◌∷◌, ◌++◌, filter, ap, refl, ◌∙◌, arith, rules}
use Rattle.std.specs.List.{range_with_len}
use Rattle.std.proofs.lemmas.List.Elements.{filter-append}

-- a range in two parts
pub range_with_len-add : (a m n : ℕ) → range_with_len a (m + n) ≡ range_with_len a m ++ range_with_len (a + m) n
range_with_len-add a zero n =
    let e : 0 + n ≡ n = omega arith in
    let f : a + 0 ≡ a = omega arith in
    rw (e, f) refl
range_with_len-add a (suc m) n =
    let e : suc m + n ≡ suc (m + n) = omega arith in
    let f : a + suc m ≡ a + 1 + m = omega arith in
    rw (e, f) (ap (λ r. a ∷ r) (range_with_len-add (a + 1) m n))

-- tests that agree on a range keep the same of it
pub filter-same_on : (p q : ℕ → Bool) (a n : ℕ) → ((i : ℕ) → i < n → p (a + i) ≡ q (a + i)) → filter p (range_with_len a n) ≡ filter q (range_with_len a n)
filter-same_on p q a zero h = refl
filter-same_on p q a (suc n) h =
    let e : a + 0 ≡ a = omega arith in
    let here : p a ≡ q a = rw e at (h 0 (omega arith)) in
    let later : filter p (range_with_len (a + 1) n) ≡ filter q (range_with_len (a + 1) n) = filter-same_on p q (a + 1) n (λ i l. let f : a + suc i ≡ a + 1 + i = omega arith in rw f at (h (suc i) (omega arith))) in
    rw (here, later) refl

-- a test that fails on a range keeps nothing of it
pub filter-none_on : (p : ℕ → Bool) (a n : ℕ) → ((i : ℕ) → i < n → p (a + i) ≡ false) → filter p (range_with_len a n) ≡ []
filter-none_on p a zero h = refl
filter-none_on p a (suc n) h =
    let e : a + 0 ≡ a = omega arith in
    let here : p a ≡ false = rw e at (h 0 (omega arith)) in
    rw here (filter-none_on p (a + 1) n (λ i l. let f : a + suc i ≡ a + 1 + i = omega arith in rw f at (h (suc i) (omega arith))))

-- the first place that passes, and the places after it
pub filter-first_on : (p : ℕ → Bool) (a t n : ℕ) → ((i : ℕ) → i < t → p (a + i) ≡ false) → p (a + t) ≡ true → filter p (range_with_len a (t + suc n)) ≡ (a + t) ∷ filter p (range_with_len (a + t + 1) n)
filter-first_on p a t n none here =
    ap (filter p) (range_with_len-add a t (suc n)) ∙ filter-append p (range_with_len a t) (range_with_len (a + t) (suc n)) ∙ ap (λ xs. xs ++ filter p (range_with_len (a + t) (suc n))) (filter-none_on p a t none) ∙ rw here refl

-- no place from n on passes
pub filter-short : (p : ℕ → Bool) (n m : ℕ) → n ≤ m → ((i : ℕ) → n ≤ i → p i ≡ false) → filter p (range_with_len 0 m) ≡ filter p (range_with_len 0 n)
filter-short p n m l clear =
    let e : m ≡ n + (m - n) = omega arith in
    let z : 0 + n ≡ n = omega arith in
    ap (λ (k : ℕ). filter p (range_with_len 0 k)) e
    ∙ ap (filter p) (range_with_len-add 0 n (m - n))
    ∙ filter-append p (range_with_len 0 n) (range_with_len (0 + n) (m - n))
    ∙ ap (λ xs. filter p (range_with_len 0 n) ++ xs) (filter-none_on p (0 + n) (m - n) (λ i h. clear (0 + n + i) (omega arith)))
    ∙ search rules
