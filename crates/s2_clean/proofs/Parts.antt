-- A byte below 128 parts UTF-8 into UTF-8.
use Rattle.std.proofs.Common.{◌≡◌, ℕ, ◌+◌, ◌<◌, Bool, true, false, List, [], ◌∷◌, ◌++◌, length, drop, get_or, nat_lt, refl, sym, subst, arith, append_assoc, length-append, zero, suc, lit<, ◌==◌, if◌then◌else◌}
use Rattle.std.proofs.Math.Seq.{take-append_seam, drop-append-add}
use Rattle.std.specs.Str.{IsUtf8}
use Rattle.std.specs.List.{list_all, flat_map}
use Rattle.std.proofs.lemmas.Bool.{and_parts}
use Rattle.s2_value.specs.RowText.{quoted_byte, text_text}
use Rattle.std.proofs.lemmas.Bool.Decides.{nat_tests}
use Rattle.std.proofs.lemmas.Str.{IsUtf8-append, IsUtf8-take, IsUtf8-drop, IsUtf8-from_ascii, IsCharBoundary-before_ascii, IsCharBoundary-after_ascii}

at_seam : (xs ys : List ℕ) (a : ℕ) → get_or (xs ++ a ∷ ys) (length xs) 0 ≡ a
at_seam [] ys a = refl
at_seam (x ∷ xs) ys a = at_seam xs ys a

within : (xs ys : List ℕ) (a : ℕ) → length xs < length (xs ++ a ∷ ys)
within xs ys a = omega (arith, length-append xs (a ∷ ys))

past_seam : (xs ys : List ℕ) (a : ℕ) → drop (length xs + 1) (xs ++ a ∷ ys) ≡ ys
past_seam xs ys a = drop-append-add xs (a ∷ ys) 1

pub before : (xs ys : List ℕ) (a : ℕ) → a < 128 → IsUtf8 (xs ++ a ∷ ys) → IsUtf8 xs
before xs ys a low h =
    let small : get_or (xs ++ a ∷ ys) (length xs) 0 < 128 = subst (λ (n : ℕ). n < 128) (sym (at_seam xs ys a)) low in
    subst (λ (s : List ℕ). IsUtf8 s) (take-append_seam xs (a ∷ ys))
    (IsUtf8-take (xs ++ a ∷ ys) (length xs) h (IsCharBoundary-before_ascii (xs ++ a ∷ ys) (length xs) (within xs ys a) small))

pub behind : (xs ys : List ℕ) (a : ℕ) → a < 128 → IsUtf8 (xs ++ a ∷ ys) → IsUtf8 ys
behind xs ys a low h =
    let small : get_or (xs ++ a ∷ ys) (length xs) 0 < 128 = subst (λ (n : ℕ). n < 128) (sym (at_seam xs ys a)) low in
    subst (λ (s : List ℕ). IsUtf8 s) (past_seam xs ys a)
    (IsUtf8-drop (xs ++ a ∷ ys) (length xs + 1) h (IsCharBoundary-after_ascii (xs ++ a ∷ ys) (length xs) h (within xs ys a) small))

-- bytes below 128
abbrev pub is_low : ℕ → Bool
is_low b = nat_lt b 128

low_of : (b : ℕ) → is_low b ≡ true → b < 128
low_of b h = grind (arith, nat_tests)

first_low : (b : ℕ) (bs : List ℕ) → list_all is_low (b ∷ bs) ≡ true → (is_low b ≡ true) × (list_all is_low bs ≡ true)
first_low b bs h = and_parts (is_low b) (list_all is_low bs) h

-- what stands behind bytes below 128
pub behind_all : (xs ys : List ℕ) → list_all is_low xs ≡ true → IsUtf8 (xs ++ ys) → IsUtf8 ys
behind_all [] ys low h = h
behind_all (x ∷ xs) ys low h =
    let p = first_low x xs low in
    behind_all xs ys p.1 (behind [] (xs ++ ys) x (low_of x p.0) h)

two_quotes : (i : ℕ) → get_or (39 ∷ 39 ∷ []) i 0 < 128
two_quotes zero = lit< tt
two_quotes (suc zero) = lit< tt
two_quotes (suc (suc i)) = lit< tt

quote_is_text : IsUtf8 (39 ∷ [])
quote_is_text = before (39 ∷ []) [] 39 (lit< tt) (IsUtf8-from_ascii (39 ∷ 39 ∷ []) two_quotes)

by_byte : (v : Bool) (b : ℕ) (t front : List ℕ) → ((more : List ℕ) → IsUtf8 (more ++ flat_map quoted_byte t) → IsUtf8 (more ++ t)) → (b == 39) ≡ v → IsUtf8 (front ++ ((if v then 39 ∷ 39 ∷ [] else b ∷ []) ++ flat_map quoted_byte t)) → IsUtf8 (front ++ b ∷ t)
by_byte true b t front again e h =
    let same : b ≡ 39 = grind (arith, nat_tests) in
    let first = before front (39 ∷ flat_map quoted_byte t) 39 (lit< tt) h in
    let later = again (39 ∷ []) (behind front (39 ∷ flat_map quoted_byte t) 39 (lit< tt) h) in
    subst (λ (n : ℕ). IsUtf8 (front ++ n ∷ t)) (sym same) (IsUtf8-append front (39 ∷ t) first later)
by_byte false b t front again e h =
    subst (λ (s : List ℕ). IsUtf8 s) (append_assoc front (b ∷ []) t)
    (again (front ++ b ∷ []) (subst (λ (s : List ℕ). IsUtf8 s) (sym (append_assoc front (b ∷ []) (flat_map quoted_byte t))) h))

-- with its quotes written once, a text of UTF-8 is UTF-8
pub unquoted : (t front : List ℕ) → IsUtf8 (front ++ flat_map quoted_byte t) → IsUtf8 (front ++ t)
unquoted [] front h = h
unquoted (b ∷ t) front h = by_byte (b == 39) b t front (λ more k. unquoted t more k) refl h

-- the text between two quotes
pub text_is_text : (t rest : List ℕ) → IsUtf8 (text_text t ++ rest) → IsUtf8 t
text_is_text t rest h =
    let inside = before (39 ∷ flat_map quoted_byte t) rest 39 (lit< tt) (subst (λ (s : List ℕ). IsUtf8 s) (append_assoc (39 ∷ flat_map quoted_byte t) (39 ∷ []) rest) h) in
    unquoted t [] (behind [] (flat_map quoted_byte t) 39 (lit< tt) inside)

-- what stands behind it
pub behind_text : (t rest : List ℕ) → IsUtf8 (text_text t ++ rest) → IsUtf8 rest
behind_text t rest h =
    behind (39 ∷ flat_map quoted_byte t) rest 39 (lit< tt) (subst (λ (s : List ℕ). IsUtf8 s) (append_assoc (39 ∷ flat_map quoted_byte t) (39 ∷ []) rest) h)
