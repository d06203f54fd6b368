-- Words, numbers and texts are read as they are written, and what is read is of its type.
use Rattle.std.proofs.Common.{◌≡◌, ℕ, suc, ◌^◌, ◌<◌, ◌≤◌, true, false, cond, eqb, ltb, List, [], ◌∷◌, ◌++◌, length, take, drop, get_or, Option, Some, None, ℤ, pos, negsuc, refl, ap, subst, ◌∙◌, append_assoc, arith, codes}
use Rattle.std.specs.List.{list_all, prefix_len, flat_map}
use Rattle.std.specs.Int.{w64, w128}
use Rattle.std.specs.Prelude.{FitsSigned}
use Rattle.std.specs.Fmt.{decimal, signed_decimal}
use Rattle.std.specs.Str.Parse.{AllDigits}
use Rattle.std.proofs.lemmas.Bool.{and_parts, eqb-true, false_from_ne_true}
use Rattle.std.proofs.lemmas.Bool.Decides.{nat_tests}
use Rattle.std.proofs.lemmas.List.{take_at, drop_at}
use Rattle.std.proofs.lemmas.List.Folds.{prefix_len-append}
use Rattle.std.proofs.lemmas.Option.{cond_some}
use Rattle.std.proofs.lemmas.Str.Parse.{digit_from_value}
use Rattle.s2_value.specs.RowText.{quoted_byte, text_text}
use Rattle.s2_value.specs.Text.{is_txt}
use Rattle.s2_token.specs.Lexing.{◌>>=◌, quoted_at}
use Rattle.s2_token.proofs.Tools.{bind_some, some_is}
use Rattle.s2_token.proofs.Quotes.{quoted_again}
use Rattle.s2_outread.specs.Reading.{after, is_number_byte, is_wide, number_of, number_at, natural_of, natural_at, below_at, int_of, int_at, begins, text_at}
use Rattle.s2_outread.proofs.Tools.{after_again}
use Rattle.s2_outread.proofs.Numbers.{int_wide, numeral, number_again, number_typed, number_heads}

-- what may follow a number or a text: no byte of a number and no quote
pub record Closes (rest : List ℕ) : Type 0 where
  pub number : prefix_len is_number_byte rest ≡ 0
  pub quote : eqb (get_or rest 0 0) 39 ≡ false

pub spaced : (t : List ℕ) → Closes (codes " " ++ t)
spaced t = record { number = refl; quote = refl }

pub ended : (t : List ℕ) → Closes (codes "\n" ++ t)
ended t = record { number = refl; quote = refl }

all_number : (xs : List ℕ) → list_all is_number_byte xs ≡ true → prefix_len is_number_byte xs ≡ length xs
all_number [] h = refl
all_number (x ∷ xs) h =
    let p = and_parts (is_number_byte x) (list_all is_number_byte xs) h in
    rw (p.0, all_number xs p.1) (omega arith)

len_again : (xs rest : List ℕ) → list_all is_number_byte xs ≡ true → prefix_len is_number_byte rest ≡ 0 → prefix_len is_number_byte (xs ++ rest) ≡ length xs
len_again xs rest h stops =
    let all = all_number xs h in
    grind (arith, nat_tests, prefix_len-append is_number_byte xs rest)

digit_bytes : (ds : List ℕ) → AllDigits 10 ds → list_all is_number_byte ds ≡ true
digit_bytes [] h = refl
digit_bytes (d ∷ ds) h =
    let range = digit_from_value d h.0 in
    let one : is_number_byte d ≡ true = grind (arith, nat_tests) in
    rw (one, digit_bytes ds h.1) refl

number_bytes : (x : ℤ) → is_wide x ≡ true → list_all is_number_byte (signed_decimal x) ≡ true
number_bytes (pos n) h =
    let lt : n < 2 ^ 127 = grind (arith, nat_tests) in
    digit_bytes (decimal n) (numeral n (omega arith)).0.1
number_bytes (negsuc n) h =
    let lt : n < 2 ^ 127 = grind (arith, nat_tests) in
    rw (digit_bytes (decimal (suc n)) (numeral (suc n) (omega arith)).0.1) refl

pub number_at_again : (x : ℤ) (rest : List ℕ) → is_wide x ≡ true → Closes rest → number_at (signed_decimal x ++ rest) ≡ Some (x, rest)
unfolding number_at
number_at_again x rest fits closes =
    let text = signed_decimal x in
    let len : prefix_len is_number_byte (text ++ rest) ≡ length text = len_again text rest (number_bytes x fits) closes.number in
    rw (len, take_at text rest (length text) refl, drop_at text rest (length text) refl, number_again x fits) refl

pub number_at_typed : (bytes : List ℕ) (y : ℤ × List ℕ) → number_at bytes ≡ Some y → FitsSigned w128 y.0
unfolding number_at
number_at_typed bytes y e =
    let n = prefix_len is_number_byte bytes in
    let b = bind_some (number_of (take n bytes)) (λ x. Some (x, drop n bytes)) y e in
    subst (λ (z : ℤ × List ℕ). FitsSigned w128 z.0) (some_is (b.0, drop n bytes) y b.2) (number_typed (take n bytes) b.0 b.1)

-- ---- numbers without a sign

pub natural_wide : (n : ℕ) → n < 2 ^ 64 → is_wide (pos n) ≡ true
natural_wide n h = grind (arith, nat_tests)

pub natural_at_again : (n : ℕ) (rest : List ℕ) → n < 2 ^ 64 → Closes rest → natural_at (decimal n ++ rest) ≡ Some (n, rest)
unfolding natural_at natural_of
natural_at_again n rest h closes =
    let small : ltb n (2 ^ 64) ≡ true = grind (arith, nat_tests) in
    ap (λ (o : Option (ℤ × List ℕ)). o >>= λ x. natural_of x.0 >>= λ m. Some (m, x.1)) (number_at_again (pos n) rest (natural_wide n h) closes)
    ∙ rw small refl

natural_of_typed : (x : ℤ) (n : ℕ) → natural_of x ≡ Some n → n < 2 ^ 64
unfolding natural_of
natural_of_typed (pos m) n e =
    let g = cond_some (ltb m (2 ^ 64)) m n e in
    let small : m < 2 ^ 64 = grind (arith, nat_tests) in
    subst (λ (k : ℕ). k < 2 ^ 64) g.1 small
natural_of_typed (negsuc m) n e = absurd cc

pub natural_at_typed : (bytes : List ℕ) (y : ℕ × List ℕ) → natural_at bytes ≡ Some y → y.0 < 2 ^ 64
unfolding natural_at
natural_at_typed bytes y e =
    let b = bind_some (number_at bytes) (λ x. natural_of x.0 >>= λ m. Some (m, x.1)) y e in
    let c = bind_some (natural_of b.0.0) (λ m. Some (m, b.0.1)) y b.2 in
    subst (λ (z : ℕ × List ℕ). z.0 < 2 ^ 64) (some_is (c.0, b.0.1) y c.2) (natural_of_typed b.0.0 c.0 c.1)

pub below_at_again : (limit n : ℕ) (rest : List ℕ) → n < limit → n < 2 ^ 64 → Closes rest → below_at limit (decimal n ++ rest) ≡ Some (n, rest)
unfolding below_at
below_at_again limit n rest h small closes =
    let test : ltb n limit ≡ true = grind (arith, nat_tests) in
    ap (λ (o : Option (ℕ × List ℕ)). o >>= λ x. cond (ltb x.0 limit) (Some x) None) (natural_at_again n rest small closes)
    ∙ rw test refl

pub below_at_typed : (limit : ℕ) (bytes : List ℕ) (y : ℕ × List ℕ) → below_at limit bytes ≡ Some y → y.0 < limit
unfolding below_at
below_at_typed limit bytes y e =
    let b = bind_some (natural_at bytes) (λ x. cond (ltb x.0 limit) (Some x) None) y e in
    let g = cond_some (ltb b.0.0 limit) b.0 y b.2 in
    let small : b.0.0 < limit = grind (arith, nat_tests) in
    subst (λ (z : ℕ × List ℕ). z.0 < limit) g.1 small

-- ---- numbers of 64 bits

int_of_again : (x : ℤ) → FitsSigned w64 x → int_of x ≡ Some x
unfolding int_of
int_of_again (pos n) h =
    let small : ltb n (2 ^ 63) ≡ true = grind (arith, nat_tests) in
    rw small refl
int_of_again (negsuc n) h =
    let small : ltb n (2 ^ 63) ≡ true = grind (arith, nat_tests) in
    rw small refl

int_of_typed : (x y : ℤ) → int_of x ≡ Some y → FitsSigned w64 y
unfolding int_of
int_of_typed (pos n) y e =
    let g = cond_some (ltb n (2 ^ 63)) (pos n) y e in
    let small : FitsSigned w64 (pos n) = grind (arith, nat_tests) in
    subst (λ (z : ℤ). FitsSigned w64 z) g.1 small
int_of_typed (negsuc n) y e =
    let g = cond_some (ltb n (2 ^ 63)) (negsuc n) y e in
    let small : FitsSigned w64 (negsuc n) = grind (arith, nat_tests) in
    subst (λ (z : ℤ). FitsSigned w64 z) g.1 small

pub int_at_again : (x : ℤ) (rest : List ℕ) → FitsSigned w64 x → Closes rest → int_at (signed_decimal x ++ rest) ≡ Some (x, rest)
unfolding int_at
int_at_again x rest h closes =
    ap (λ (o : Option (ℤ × List ℕ)). o >>= λ y. int_of y.0 >>= λ m. Some (m, y.1)) (number_at_again x rest (int_wide x h) closes)
    ∙ ap (λ (o : Option ℤ). o >>= λ m. Some (m, rest)) (int_of_again x h)

pub int_at_typed : (bytes : List ℕ) (y : ℤ × List ℕ) → int_at bytes ≡ Some y → FitsSigned w64 y.0
unfolding int_at
int_at_typed bytes y e =
    let b = bind_some (number_at bytes) (λ x. int_of x.0 >>= λ m. Some (m, x.1)) y e in
    let c = bind_some (int_of b.0.0) (λ m. Some (m, b.0.1)) y b.2 in
    subst (λ (z : ℤ × List ℕ). FitsSigned w64 z.0) (some_is (c.0, b.0.1) y c.2) (int_of_typed b.0.0 c.0 c.1)

-- ---- texts

pub text_at_again : (text rest : List ℕ) → is_txt text ≡ true → Closes rest → text_at (text_text text ++ rest) ≡ Some (text, rest)
unfolding text_at
text_at_again text rest fits closes =
    let regrouped : text_text text ++ rest ≡ codes "'" ++ (flat_map quoted_byte text ++ (39 ∷ rest)) = ap (λ (t : List ℕ). 39 ∷ t) (append_assoc (flat_map quoted_byte text) (39 ∷ []) rest) in
    ap text_at regrouped ∙ rw (after_again (codes "'") (flat_map quoted_byte text ++ (39 ∷ rest)), quoted_again text rest closes.quote, fits) refl

pub text_at_typed : (bytes : List ℕ) (y : List ℕ × List ℕ) → text_at bytes ≡ Some y → is_txt y.0 ≡ true
unfolding text_at
text_at_typed bytes y e =
    let a = bind_some (after (codes "'") bytes) (λ r. quoted_at r >>= λ t. cond (is_txt t.0) (Some t) None) y e in
    let b = bind_some (quoted_at a.0) (λ t. cond (is_txt t.0) (Some t) None) y a.2 in
    let g = cond_some (is_txt b.0.0) b.0 y b.2 in
    subst (λ (z : List ℕ × List ℕ). is_txt z.0 ≡ true) g.1 g.0

-- ---- the first byte

pub begins_number : (c : ℕ) (x : ℤ) (rest : List ℕ) → is_wide x ≡ true → ((d : ℕ) → 45 ≤ d → d ≤ 57 → d ≡ c → ⊥) → begins c (signed_decimal x ++ rest) ≡ false
begins_number c x rest fits apart =
    let h = number_heads x fits in
    let test : eqb h.first c ≡ false = false_from_ne_true (eqb h.first c) (λ t. apart h.first h.low h.high (eqb-true h.first c t)) in
    ap (λ (t : List ℕ). begins c (t ++ rest)) h.is ∙ test

-- a word isn't at the front where its first byte isn't
pub after_none : (w : ℕ) (ws bytes : List ℕ) → begins w bytes ≡ false → after (w ∷ ws) bytes ≡ None
unfolding after
after_none w ws [] h = refl
after_none w ws (b ∷ bytes) h = rw h refl
