-- A word is looked for among the keywords of its length alone.
use Rattle.std.proofs.Common.{◌≡◌, ℕ, Bool, true, false, cond, eqb, leb, ◌&&◌, List, [], ◌∷◌, length, refl, sym, ap, ◌∙◌, arith, Some, map}
use Rattle.std.specs.Char.{to_ascii_lowercase}
use Rattle.std.specs.Str.{str_eq_ignore_ascii_case}
use Rattle.std.proofs.lemmas.Slice.Eq.{bytes_eq-Decides}
use Rattle.std.proofs.lemmas.List.{length-map}
use Rattle.std.specs.List.{filter, find, list_all}
use Rattle.std.proofs.lemmas.Bool.Decides.{nat_tests}
use Rattle.std.proofs.lemmas.Bool.{and_parts}
use Rattle.s2_token.specs.declared.types.Keyword.{Keyword}
use Rattle.s2_token.specs.Words.{keyword_text, keywords, keyword_of}

step : {X : Type 0} (p q : X → Bool) (x : X) (xs : List X) (a b : Bool) → p x ≡ a → (a ≡ true → b ≡ true) → find p xs ≡ find p (filter q xs)
    → cond a (Some x) (find p xs) ≡ find p (cond b (x ∷ filter q xs) (filter q xs))
step p q x xs true true e weaker same = rw e refl
step p q x xs true false e weaker same = let no = weaker refl in absurd cc
step p q x xs false true e weaker same = rw e same
step p q x xs false false e weaker same = same

-- what passes one test is sought among what passes a weaker one
pub find_among : {X : Type 0} (p q : X → Bool) (xs : List X) → ((x : X) → p x ≡ true → q x ≡ true) → find p xs ≡ find p (filter q xs)
find_among p q [] weaker = refl
find_among p q (x ∷ xs) weaker = step p q x xs (p x) (q x) refl (weaker x) (find_among p q xs weaker)

-- equal but for case, so of one length
pub same_length : (text word : List ℕ) → str_eq_ignore_ascii_case text word ≡ true → eqb (length text) (length word) ≡ true
same_length text word h =
    let same : map to_ascii_lowercase text ≡ map to_ascii_lowercase word = (bytes_eq-Decides (map to_ascii_lowercase text) (map to_ascii_lowercase word)).0 h in
    let lengths : length text ≡ length word = sym (length-map text to_ascii_lowercase) ∙ ap length same ∙ length-map word to_ascii_lowercase in
    grind (arith, nat_tests)

pub keyword_among : (word : List ℕ) → find (λ k. str_eq_ignore_ascii_case (keyword_text k) word) (filter (λ k. eqb (length (keyword_text k)) (length word)) keywords) ≡ keyword_of word
unfolding keyword_of
keyword_among word = sym (find_among (λ k. str_eq_ignore_ascii_case (keyword_text k) word) (λ k. eqb (length (keyword_text k)) (length word)) keywords (λ k. same_length (keyword_text k) word))

-- no keyword has this length
other : (m n : ℕ) → (leb 2 m && leb m 9) ≡ true → (leb 2 n && leb n 9) ≡ false → eqb m n ≡ false
other m n h g = grind (arith, nat_tests)

none_among : (n : ℕ) (ks : List Keyword) → (leb 2 n && leb n 9) ≡ false → list_all (λ k. leb 2 (length (keyword_text k)) && leb (length (keyword_text k)) 9) ks ≡ true
    → filter (λ k. eqb (length (keyword_text k)) n) ks ≡ []
none_among n [] far all = refl
none_among n (k ∷ ks) far all =
    let p = and_parts (leb 2 (length (keyword_text k)) && leb (length (keyword_text k)) 9) (list_all (λ k. leb 2 (length (keyword_text k)) && leb (length (keyword_text k)) 9) ks) all in
    rw (other (length (keyword_text k)) n p.0 far) (none_among n ks far p.1)

lengths : list_all (λ k. leb 2 (length (keyword_text k)) && leb (length (keyword_text k)) 9) keywords ≡ true
unfolding keyword_text keywords
lengths = refl

pub none_of : (n : ℕ) → (leb 2 n && leb n 9) ≡ false → filter (λ k. eqb (length (keyword_text k)) n) keywords ≡ []
none_of n far = none_among n keywords far lengths
