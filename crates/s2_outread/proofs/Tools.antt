-- Small facts about options, lists and words at the front.
use Rattle.std.proofs.Common.{◌≡◌, ℕ, Bool, true, false, cond, List, [], ◌∷◌, ◌++◌, length, take, drop, Option, Some, None, refl, sym, ap, subst, ◌∙◌, append_assoc}
use Rattle.std.specs.Str.{bytes_eq}
use Rattle.std.specs.List.{AllByRecursion}
use Rattle.std.proofs.lemmas.List.{take_at, drop_at, take-append-drop}
use Rattle.std.proofs.lemmas.Option.{cond_some}
use Rattle.std.proofs.lemmas.Slice.Eq.{bytes_eq-Decides}
use Rattle.std.specs.Option.{option_map_or}
use Rattle.s2_token.specs.Lexing.{◌>>=◌}
use Rattle.s2_token.proofs.Tools.{some_is}
use Rattle.s2_outread.specs.Reading.{after}

-- what stands after a word that is at the front
pub after_again : (word rest : List ℕ) → after word (word ++ rest) ≡ Some rest
unfolding after
after_again word rest =
    let front : take (length word) (word ++ rest) ≡ word = take_at word rest (length word) refl in
    let same : bytes_eq (take (length word) (word ++ rest)) word ≡ true = (bytes_eq-Decides (take (length word) (word ++ rest)) word).1 front in
    rw (same, drop_at word rest (length word) refl) refl

-- what stands after a word was behind it
pub after_takes : (word bytes rest : List ℕ) → after word bytes ≡ Some rest → bytes ≡ word ++ rest
unfolding after
after_takes word bytes rest e =
    let g = cond_some (bytes_eq (take (length word) bytes) word) (drop (length word) bytes) rest e in
    let front : take (length word) bytes ≡ word = (bytes_eq-Decides (take (length word) bytes) word).0 g.0 in
    sym (take-append-drop (length word) bytes) ∙ ap (λ (x : List ℕ). x ++ drop (length word) bytes) front ∙ ap (λ (x : List ℕ). word ++ x) g.1

pub All-append : {X : Type 0} (P : X → Type 0) (xs ys : List X) → AllByRecursion P xs → AllByRecursion P ys → AllByRecursion P (xs ++ ys)
All-append P [] ys a b = b
All-append P (x ∷ xs) ys a b = (a.0, All-append P xs ys a.1 b)

pub All-front : {X : Type 0} (P : X → Type 0) (xs ys : List X) → AllByRecursion P (xs ++ ys) → AllByRecursion P xs
All-front P [] ys a = tt
All-front P (x ∷ xs) ys a = (a.0, All-front P xs ys a.1)

pub append_cancel : {X : Type 0} (a x y : List X) → a ++ x ≡ a ++ y → x ≡ y
append_cancel [] x y e = e
append_cancel (b ∷ a) x y e = append_cancel a x y (cc)

pub none_is_not : {A : Type 0} (o : Option A) (x : A) → o ≡ None → o ≡ Some x → ⊥
none_is_not o x n s = cc

-- what is read, if anything is, is P
abbrev pub ReadsOnly : {A : Type 0} → (A → Type 0) → Option A → Type 0
ReadsOnly P None = Unit {0}
ReadsOnly P (Some x) = P x

pub only_is : {A : Type 0} (P : A → Type 0) (o : Option A) (x : A) → ReadsOnly P o → o ≡ Some x → P x
only_is P None x h e = absurd cc
only_is P (Some y) x h e = subst P (some_is y x e) h

pub bind_only : {A B : Type 0} (P : B → Type 0) (o : Option A) (f : A → Option B) → ((x : A) → o ≡ Some x → ReadsOnly P (f x)) → ReadsOnly P (o >>= f)
bind_only P None f h = tt
bind_only P (Some x) f h = h x refl

pub map_or_only : {A B : Type 0} (P : B → Type 0) (f : A → Option B) (o : Option A) (other : Option B) → ((x : A) → o ≡ Some x → ReadsOnly P (f x)) → ReadsOnly P other → ReadsOnly P (option_map_or f o other)
map_or_only P f None other h g = g
map_or_only P f (Some x) other h g = h x refl

pub cond_only : {A : Type 0} (P : A → Type 0) (test : Bool) (a b : Option A) → ReadsOnly P a → ReadsOnly P b → ReadsOnly P (cond test a b)
cond_only P true a b h g = h
cond_only P false a b h g = g

-- texts one behind the other before what follows
pub regroup_3 : (a b c rest : List ℕ) → ((a ++ b) ++ c) ++ rest ≡ a ++ (b ++ (c ++ rest))
regroup_3 a b c rest = simp append_assoc

pub regroup_4 : (a b c d rest : List ℕ) → (((a ++ b) ++ c) ++ d) ++ rest ≡ a ++ (b ++ (c ++ (d ++ rest)))
regroup_4 a b c d rest = simp append_assoc

pub regroup_5 : (a b c d e rest : List ℕ) → ((((a ++ b) ++ c) ++ d) ++ e) ++ rest ≡ a ++ (b ++ (c ++ (d ++ (e ++ rest))))
regroup_5 a b c d e rest = simp append_assoc
