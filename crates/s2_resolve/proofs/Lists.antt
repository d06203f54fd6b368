-- Facts on each of a list, and what passes no test.
use Rattle.std.proofs.Common.{◌≡◌, ℕ, Bool, true, false, List, [], ◌∷◌, ◌++◌, Option, Some, None, refl, sym, ap, subst, ◌∙◌, ◌||◌, ◌&&◌, not}
use Rattle.std.specs.List.{list_any, flat_map, AllByRecursion}
use Rattle.std.proofs.lemmas.List.Folds.{list_any-append}
use Rattle.s2_token.specs.Lexing.{◌>>=◌}
use Rattle.s2_build.specs.Each.{each}

pub all_parts : {A : Type 0} (P : A → Type 0) (xs ys : List A) → AllByRecursion P (xs ++ ys) → AllByRecursion P xs × AllByRecursion P ys
all_parts P [] ys h = (tt, h)
all_parts P (x ∷ xs) ys h = let k = all_parts P xs ys h.1 in ((h.0, k.0), k.1)

pub all_join : {A : Type 0} (P : A → Type 0) (xs ys : List A) → AllByRecursion P xs → AllByRecursion P ys → AllByRecursion P (xs ++ ys)
all_join P [] ys h k = k
all_join P (x ∷ xs) ys h k = (h.0, all_join P xs ys h.1 k)

pub all_map : {A : Type 0} (P Q : A → Type 0) (xs : List A) → ((x : A) → P x → Q x) → AllByRecursion P xs → AllByRecursion Q xs
all_map P Q [] f h = tt
all_map P Q (x ∷ xs) f h = (f x h.0, all_map P Q xs f h.1)

pub all_both : {A : Type 0} (P Q : A → Type 0) (xs : List A) → AllByRecursion P xs → AllByRecursion Q xs → AllByRecursion (λ x. P x × Q x) xs
all_both P Q [] h k = tt
all_both P Q (x ∷ xs) h k = ((h.0, k.0), all_both P Q xs h.1 k.1)

pub neither : (a b : Bool) → (a || b) ≡ false → (a ≡ false) × (b ≡ false)
neither true b h = absurd cc
neither false b h = (refl, h)

pub none_pass : {A : Type 0} (p : A → Bool) (xs : List A) → list_any p xs ≡ false → AllByRecursion (λ x. p x ≡ false) xs
none_pass p [] h = tt
none_pass p (x ∷ xs) h = let k = neither (p x) (list_any p xs) h in (k.0, none_pass p xs k.1)

pub none_parts : {A : Type 0} (p : A → Bool) (xs ys : List A) → list_any p (xs ++ ys) ≡ false → (list_any p xs ≡ false) × (list_any p ys ≡ false)
none_parts p xs ys h = neither (list_any p xs) (list_any p ys) (sym (list_any-append p xs ys) ∙ h)

pub none_flat : {A B : Type 0} (p : B → Bool) (f : A → List B) (xs : List A) → list_any p (flat_map f xs) ≡ false → AllByRecursion (λ x. list_any p (f x) ≡ false) xs
none_flat p f [] h = tt
none_flat p f (x ∷ xs) h = let k = none_parts p (f x) (flat_map f xs) h in (k.0, none_flat p f xs k.1)

pub not_false : (b : Bool) → not b ≡ false → b ≡ true
not_false true h = refl
not_false false h = absurd cc

-- each item has a meaning, and each meaning is right
abbrev pub Meant : {A B : Type 0} → (A → Option B) → (B → Type 0) → A → Type 0
Meant {A} {B} f Q x = (y : B) × (f x ≡ Some y) × Q y

pub each_meant : {A B : Type 0} (f : A → Option B) (Q : B → Type 0) (xs : List A) → AllByRecursion (Meant f Q) xs → Meant (each f) (AllByRecursion Q) xs
each_meant f Q [] h = ([], refl, tt)
each_meant f Q (x ∷ xs) h =
    let first = h.0 in
    let later = each_meant f Q xs h.1 in
    (first.0 ∷ later.0, rw (first.1, later.1) refl, (first.2, later.2))
