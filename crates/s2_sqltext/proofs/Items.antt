-- Lists whose items are changed one by one.
use Rattle.std.proofs.Common.{◌≡◌, Bool, List, [], ◌∷◌, ◌++◌, Option, Some, None, map, length, refl, sym, ap, ◌∙◌, append_assoc}
use Rattle.std.specs.List.{list_any, flat_map, AllByRecursion}
use Rattle.s2_token.specs.declared.types.Token.{Token}
use Rattle.s2_token.specs.declared.types.Token.TheVariants as token
use Rattle.s2_token.specs.declared.types.Symbol.TheVariants as symbol
use Rattle.s2_token.specs.Lexing.{◌>>=◌}
use Rattle.s2_line.specs.Words.{listed, later_words, AreSome, Any}
use Rattle.s2_build.specs.Each.{each}
use Rattle.s2_resolve.proofs.Lists.{all_join}

-- ---- meanings

pub some_is : {A : Type 0} (a b : A) → Some a ≡ Some b → a ≡ b
some_is a b e = cc

-- what an option that means something came from
pub record Bound {A B : Type 0} (o : Option A) (f : A → Option B) (y : B) : Type 0 where
  pub is : A
  pub was : o ≡ Some is
  pub gives : f is ≡ Some y

pub bound : {A B : Type 0} (o : Option A) (f : A → Option B) (y : B) → (o >>= f) ≡ Some y → Bound o f y
bound None f y e = absurd cc
bound (Some x) f y e = record { is = x; was = refl; gives = e }

-- what each means is written back
pub each_back : {A B C : Type 0} (f : A → Option B) (back : B → C) (plain : A → C) (xs : List A) (ys : List B) → ((x : A) (y : B) → f x ≡ Some y → back y ≡ plain x)
    → each f xs ≡ Some ys → map back ys ≡ map plain xs
each_back f back plain [] ys same e = let h : [] ≡ ys = cc in ap (λ zs. map back zs) (sym h)
each_back f back plain (x ∷ xs) ys same e =
    let first = bound (f x) (λ y. each f xs >>= λ zs. Some (y ∷ zs)) ys e in
    let later = bound (each f xs) (λ zs. Some (first.is ∷ zs)) ys first.gives in
    let h : first.is ∷ later.is ≡ ys = some_is (first.is ∷ later.is) ys later.gives in
    ap (λ zs. map back zs) (sym h)
    ∙ ap (λ z. z ∷ map back later.is) (same x first.is first.was)
    ∙ ap (λ zs. plain x ∷ zs) (each_back f back plain xs later.is same later.was)

-- changed items mean the same
pub each_map : {A B C : Type 0} (f : A → Option B) (g : C → Option B) (plain : A → C) (xs : List A) → ((x : A) → g (plain x) ≡ f x) → each g (map plain xs) ≡ each f xs
each_map f g plain [] same = refl
each_map f g plain (x ∷ xs) same = rw (same x, each_map f g plain xs same) refl

-- ---- tests

pub any_map : {A B : Type 0} (p : A → Bool) (q : B → Bool) (plain : A → B) (xs : List A) → ((x : A) → q (plain x) ≡ p x) → list_any q (map plain xs) ≡ list_any p xs
any_map p q plain [] same = refl
any_map p q plain (x ∷ xs) same = rw (same x, any_map p q plain xs same) refl

pub map_map : {A B C : Type 0} (f : A → C) (g : B → C) (plain : A → B) (xs : List A) → ((x : A) → g (plain x) ≡ f x) → map g (map plain xs) ≡ map f xs
map_map f g plain [] same = refl
map_map f g plain (x ∷ xs) same = rw (same x, map_map f g plain xs same) refl

pub map_length : {A B : Type 0} (f : A → B) (xs : List A) → length (map f xs) ≡ length xs
map_length f [] = refl
map_length f (x ∷ xs) = rw (map_length f xs) refl

pub map_join : {A B : Type 0} (f : A → B) (xs ys : List A) → map f (xs ++ ys) ≡ map f xs ++ map f ys
map_join f [] ys = refl
map_join f (x ∷ xs) ys = ap (λ zs. f x ∷ zs) (map_join f xs ys)

pub flat_join : {A B : Type 0} (f : A → List B) (xs ys : List A) → flat_map f (xs ++ ys) ≡ flat_map f xs ++ flat_map f ys
flat_join f [] ys = refl
flat_join f (x ∷ xs) ys = ap (λ zs. f x ++ zs) (flat_join f xs ys) ∙ sym (append_assoc (f x) (flat_map f xs) (flat_map f ys))

-- the items within are changed
pub flat_map_map : {A B C D : Type 0} (f : A → List C) (g : B → List D) (plain : A → B) (inside : C → D) (xs : List A) → ((x : A) → g (plain x) ≡ map inside (f x))
    → flat_map g (map plain xs) ≡ map inside (flat_map f xs)
flat_map_map f g plain inside [] same = refl
flat_map_map f g plain inside (x ∷ xs) same =
    ap (λ zs. zs ++ flat_map g (map plain xs)) (same x)
    ∙ ap (λ zs. map inside (f x) ++ zs) (flat_map_map f g plain inside xs same)
    ∙ sym (map_join inside (f x) (flat_map f xs))

-- the items within stay
pub flat_map_same : {A B C : Type 0} (f : A → List C) (g : B → List C) (plain : A → B) (xs : List A) → ((x : A) → g (plain x) ≡ f x) → flat_map g (map plain xs) ≡ flat_map f xs
flat_map_same f g plain [] same = refl
flat_map_same f g plain (x ∷ xs) same = rw (same x, flat_map_same f g plain xs same) refl

-- ---- facts on each

pub all_mapped : {A B : Type 0} (P : A → Type 0) (Q : B → Type 0) (f : A → B) (xs : List A) → ((x : A) → P x → Q (f x)) → AllByRecursion P xs → AllByRecursion Q (map f xs)
all_mapped P Q f [] right h = tt
all_mapped P Q f (x ∷ xs) right h = (right x h.0, all_mapped P Q f xs right h.1)

pub all_any : {A : Type 0} (xs : List A) → AllByRecursion Any xs
all_any [] = tt
all_any (x ∷ xs) = (tt, all_any xs)

pub all_for : {A : Type 0} (P : A → Type 0) (xs : List A) → ((x : A) → P x) → AllByRecursion P xs
all_for P [] right = tt
all_for P (x ∷ xs) right = (right x, all_for P xs right)

pub some_mapped : {A B : Type 0} (P : A → Type 0) (Q : B → Type 0) (f : A → B) (xs : List A) → ((x : A) → P x → Q (f x)) → AreSome P xs → AreSome Q (map f xs)
some_mapped P Q f [] right h = absurd h
some_mapped P Q f (x ∷ xs) right h = (right x h.0, all_mapped P Q f xs right h.1)

-- ---- words of a list

pub later_all : {A : Type 0} (P : A → Type 0) (Q : Token → Type 0) (spell : A → List Token) (xs : List A) → Q (token.Sign symbol.Comma) → ((x : A) → P x → AllByRecursion Q (spell x))
    → AllByRecursion P xs → AllByRecursion Q (later_words spell xs)
later_all P Q spell [] comma right h = tt
later_all P Q spell (x ∷ xs) comma right h = (comma, all_join Q (spell x) (later_words spell xs) (right x h.0) (later_all P Q spell xs comma right h.1))

pub listed_all : {A : Type 0} (P : A → Type 0) (Q : Token → Type 0) (spell : A → List Token) (xs : List A) → Q (token.Sign symbol.Comma) → ((x : A) → P x → AllByRecursion Q (spell x))
    → AllByRecursion P xs → AllByRecursion Q (listed spell xs)
listed_all P Q spell [] comma right h = tt
listed_all P Q spell (x ∷ xs) comma right h = all_join Q (spell x) (later_words spell xs) (right x h.0) (later_all P Q spell xs comma right h.1)
