-- Totals over lists, and what holds of each element.
use Rattle.std.proofs.Common.{◌≡◌, ℕ, zero, suc, ◌+◌, ◌≤◌, Bool, true, false, ◌||◌, cond, List, [], ◌∷◌, ◌++◌, map, filter, take, flat_map, refl, sym, ap, ap₂, ◌∙◌, arith}
use Rattle.std.proofs.lemmas.Bool.{false≢true}
use Rattle.std.specs.List.{list_any, AllByRecursion}

abbrev pub bit : Bool → ℕ
bit b = cond b 1 0

abbrev pub total : {X : Type 0} → (X → ℕ) → List X → ℕ
total f [] = 0
total f (x ∷ xs) = f x + total f xs

abbrev pub Each : {X : Type 0} → (X → Type 0) → List X → Type 0
Each P xs = AllByRecursion P xs

pub total-append : {X : Type 0} (f : X → ℕ) (xs ys : List X) → total f (xs ++ ys) ≡ total f xs + total f ys
total-append f [] ys = omega arith
total-append f (x ∷ xs) ys = omega (arith, total-append f xs ys)

pub total-map : {X Y : Type 0} (f : Y → ℕ) (h : X → Y) (xs : List X) → total f (map h xs) ≡ total (λ x. f (h x)) xs
total-map f h [] = refl
total-map f h (x ∷ xs) = ap (λ n. f (h x) + n) (total-map f h xs)

pub total_same : {X : Type 0} (f g : X → ℕ) (xs : List X) → Each (λ x. f x ≡ g x) xs → total f xs ≡ total g xs
total_same f g [] e = refl
total_same f g (x ∷ xs) e = ap₂ ◌+◌ e.0 (total_same f g xs e.1)

pub total_zero : {X : Type 0} (f : X → ℕ) (xs : List X) → Each (λ x. f x ≡ 0) xs → total f xs ≡ 0
total_zero f [] e = refl
total_zero f (x ∷ xs) e = omega (arith, e.0, total_zero f xs e.1)

pub total_part : {X : Type 0} (f g h : X → ℕ) (xs : List X) → Each (λ x. f x ≡ g x + h x) xs → total f xs ≡ total g xs + total h xs
total_part f g h [] e = refl
total_part f g h (x ∷ xs) e = omega (arith, e.0, total_part f g h xs e.1)

pub total-filter : {X : Type 0} (f : X → ℕ) (p : X → Bool) (xs : List X) → total f (filter p xs) ≡ total (λ x. cond (p x) (f x) 0) xs
total-filter f p [] = refl
total-filter f p (x ∷ xs) =
    elim (p x) as (λ b. total f (cond b (x ∷ filter p xs) (filter p xs)) ≡ cond b (f x) 0 + total (λ y. cond (p y) (f y) 0) xs) [
      | true ↦ ap (λ n. f x + n) (total-filter f p xs)
      | false ↦ omega (arith, total-filter f p xs)
    ]

pub each_all : {X : Type 0} (P : X → Type 0) (all : (x : X) → P x) (xs : List X) → Each P xs
each_all P all [] = tt
each_all P all (x ∷ xs) = (all x, each_all P all xs)

pub each-append : {X : Type 0} (P : X → Type 0) (xs ys : List X) → Each P xs → Each P ys → Each P (xs ++ ys)
each-append P [] ys a b = b
each-append P (x ∷ xs) ys a b = (a.0, each-append P xs ys a.1 b)

pub each-map : {X Y : Type 0} (P : X → Type 0) (Q : Y → Type 0) (h : X → Y) (step : (x : X) → P x → Q (h x)) (xs : List X) → Each P xs → Each Q (map h xs)
each-map P Q h step [] a = tt
each-map P Q h step (x ∷ xs) a = (step x a.0, each-map P Q h step xs a.1)

pub each_weaker : {X : Type 0} (P Q : X → Type 0) (step : (x : X) → P x → Q x) (xs : List X) → Each P xs → Each Q xs
each_weaker P Q step [] a = tt
each_weaker P Q step (x ∷ xs) a = (step x a.0, each_weaker P Q step xs a.1)

pub each_both : {X : Type 0} (P Q R : X → Type 0) (step : (x : X) → P x → Q x → R x) (xs : List X) → Each P xs → Each Q xs → Each R xs
each_both P Q R step [] a b = tt
each_both P Q R step (x ∷ xs) a b = (step x a.0 b.0, each_both P Q R step xs a.1 b.1)

pub each-filter : {X : Type 0} (P : X → Type 0) (p : X → Bool) (xs : List X) → Each P xs → Each P (filter p xs)
each-filter P p [] a = tt
each-filter P p (x ∷ xs) a =
    elim (p x) as (λ b. Each P (cond b (x ∷ filter p xs) (filter p xs))) [
      | true ↦ (a.0, each-filter P p xs a.1)
      | false ↦ each-filter P p xs a.1
    ]

-- what passes the filter passes the test
pub each_passes : {X : Type 0} (p : X → Bool) (xs : List X) → Each (λ x. p x ≡ true) (filter p xs)
each_passes p [] = tt
each_passes p (x ∷ xs) =
    (elim (p x) as (λ b. p x ≡ b → Each (λ y. p y ≡ true) (cond b (x ∷ filter p xs) (filter p xs))) [
      | true ↦ λ e. (e, each_passes p xs)
      | false ↦ λ e. each_passes p xs
    ]) refl

pub each-take : {X : Type 0} (P : X → Type 0) (n : ℕ) (xs : List X) → Each P xs → Each P (take n xs)
each-take P n [] a = elim n as (λ m. Each P (take m [])) [ zero ↦ tt | suc m ↦ tt ]
each-take P zero (x ∷ xs) a = tt
each-take P (suc n) (x ∷ xs) a = (a.0, each-take P n xs a.1)

-- the element that passes has what each has
pub each_any : {X : Type 0} (P : X → Type 0) (p : X → Bool) (Q : Type 0) (step : (x : X) → P x → p x ≡ true → Q) (xs : List X) → Each P xs → list_any p xs ≡ true → Q
each_any P p Q step [] a e = absurd (false≢true e)
each_any P p Q step (x ∷ xs) a e = go (p x) refl (each_any P p Q step xs a.1) e
  where
    go : (b : Bool) → p x ≡ b → (list_any p xs ≡ true → Q) → (b || list_any p xs) ≡ true → Q
    go true h ih f = step x a.0 h
    go false h ih f = ih f

-- a total is no less than one of its parts
pub any_counts : {X : Type 0} (p : X → Bool) (xs : List X) → list_any p xs ≡ true → 1 ≤ total (λ x. bit (p x)) xs
any_counts p [] e = absurd (false≢true e)
any_counts p (x ∷ xs) e = go (p x) (any_counts p xs) e
  where
    go : (b : Bool) → (list_any p xs ≡ true → 1 ≤ total (λ y. bit (p y)) xs) → (b || list_any p xs) ≡ true → 1 ≤ bit b + total (λ y. bit (p y)) xs
    go true ih f = omega arith
    go false ih f = omega (arith, ih f)

pub counts_any : {X : Type 0} (p : X → Bool) (xs : List X) → 1 ≤ total (λ x. bit (p x)) xs → list_any p xs ≡ true
counts_any p [] le = absurd (omega arith)
counts_any p (x ∷ xs) le = go (p x) (counts_any p xs) le
  where
    go : (b : Bool) → (1 ≤ total (λ y. bit (p y)) xs → list_any p xs ≡ true) → 1 ≤ bit b + total (λ y. bit (p y)) xs → (b || list_any p xs) ≡ true
    go true ih f = refl
    go false ih f = ih (omega arith)

-- each part is no more than the whole
pub each_part : {X : Type 0} (f : ℕ → X → ℕ) (xs : List X) → Each (λ x. (n : ℕ) → f n x ≤ total (f n) xs) xs
each_part f [] = tt
each_part f (x ∷ xs) = (
  λ n. omega arith,
  each_weaker (λ y. (n : ℕ) → f n y ≤ total (f n) xs) (λ y. (n : ℕ) → f n y ≤ f n x + total (f n) xs)
      (λ y le n. omega (arith, le n)) xs (each_part f xs),
)

pub any_weaker : {X : Type 0} (p q : X → Bool) → ((x : X) → p x ≡ true → q x ≡ true) → (xs : List X) → list_any p xs ≡ true → list_any q xs ≡ true
any_weaker p q step [] e = e
any_weaker p q step (x ∷ xs) e = go (p x) refl (any_weaker p q step xs) e
  where
    go : (b : Bool) → p x ≡ b → (list_any p xs ≡ true → list_any q xs ≡ true) → (b || list_any p xs) ≡ true → (q x || list_any q xs) ≡ true
    go true f ih g = ap (λ c. c || list_any q xs) (step x f)
    go false f ih g = last (q x) (ih g)
      where
        last : (c : Bool) → list_any q xs ≡ true → (c || list_any q xs) ≡ true
        last true h = refl
        last false h = h

pub any-map : {X Y : Type 0} (p : Y → Bool) (q : X → Bool) (h : X → Y) → ((x : X) → p (h x) ≡ true → q x ≡ true) → (xs : List X) → list_any p (map h xs) ≡ true → list_any q xs ≡ true
any-map p q h step [] e = e
any-map p q h step (x ∷ xs) e = go (p (h x)) refl (any-map p q h step xs) e
  where
    go : (b : Bool) → p (h x) ≡ b → (list_any p (map h xs) ≡ true → list_any q xs ≡ true) → (b || list_any p (map h xs)) ≡ true → (q x || list_any q xs) ≡ true
    go true f ih g = ap (λ c. c || list_any q xs) (step x f)
    go false f ih g = last (q x) (ih g)
      where
        last : (c : Bool) → list_any q xs ≡ true → (c || list_any q xs) ≡ true
        last true h = refl
        last false h = h

pub any-filter : {X : Type 0} (p f : X → Bool) (xs : List X) → list_any p (filter f xs) ≡ true → list_any p xs ≡ true
any-filter p f [] e = e
any-filter p f (x ∷ xs) e = go (f x) (p x) refl (any-filter p f xs) e
  where
    go : (b c : Bool) → p x ≡ c → (list_any p (filter f xs) ≡ true → list_any p xs ≡ true)
        → list_any p (cond b (x ∷ filter f xs) (filter f xs)) ≡ true → (c || list_any p xs) ≡ true
    go true true g ih h = refl
    go true false g ih h = ih (sym (ap (λ d. d || list_any p (filter f xs)) g) ∙ h)
    go false true g ih h = refl
    go false false g ih h = ih h

pub each-flat_map : {X Y : Type 0} (P : X → Type 0) (Q : Y → Type 0) (f : X → List Y) → ((x : X) → P x → Each Q (f x)) → (xs : List X) → Each P xs → Each Q (flat_map f xs)
each-flat_map P Q f step [] a = tt
each-flat_map P Q f step (x ∷ xs) a = each-append Q (f x) (flat_map f xs) (step x a.0) (each-flat_map P Q f step xs a.1)
