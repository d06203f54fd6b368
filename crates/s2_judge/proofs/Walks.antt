-- A test of the items of joined and of mapped lists.
use Rattle.std.proofs.Common.{◌≡◌, ℕ, ◌<◌, Bool, List, [], ◌∷◌, ◌++◌, map, min, nat_lt, ◌||◌, refl, ap, ◌∙◌, arith}
use Rattle.std.specs.List.{list_any, flat_map}
use Rattle.std.proofs.lemmas.List.Folds.{list_any-append}
use Rattle.std.proofs.lemmas.Bool.Decides.{nat_tests}

pub list_any_append : {A : Type 0} (p : A → Bool) (xs ys : List A) → list_any p (xs ++ ys) ≡ (list_any p xs || list_any p ys)
list_any_append p xs ys = list_any-append p xs ys

pub list_any_flat_map : {A B : Type 0} (p : B → Bool) (f : A → List B) (xs : List A) → list_any p (flat_map f xs) ≡ list_any (λ x. list_any p (f x)) xs
list_any_flat_map p f [] = refl
list_any_flat_map p f (x ∷ xs) = list_any-append p (f x) (flat_map f xs) ∙ ap (λ b. list_any p (f x) || b) (list_any_flat_map p f xs)

pub list_any_map : {A B : Type 0} (p : B → Bool) (f : A → B) (xs : List A) → list_any p (map f xs) ≡ list_any (λ x. p (f x)) xs
list_any_map p f [] = refl
list_any_map p f (x ∷ xs) = ap (λ b. p (f x) || b) (list_any_map p f xs)

pub over_min : (k n m : ℕ) → k < m → nat_lt k (min n m) ≡ nat_lt k n
over_min k n m h = grind (arith, nat_tests)
