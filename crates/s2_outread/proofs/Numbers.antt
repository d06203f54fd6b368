-- Numbers in decimal are read as they are written.
use Rattle.std.proofs.Common.{◌≡◌, ◌≢◌, ℕ, zero, suc, ◌^◌, ◌<◌, ◌≤◌, true, false, ◌&&◌, List, [], ◌∷◌, length, get_or, Some, None, Result, Ok, Err, ℤ, pos, negsuc, refl, sym, ap, subst, ◌∙◌, arith}
use Rattle.std.specs.Int.{w64, w128}
use Rattle.std.specs.Prelude.{FitsSigned}
use Rattle.std.specs.Str.{bytes_eq, IsUtf8, IsAscii}
use Rattle.std.specs.Fmt.{decimal, signed_decimal}
use Rattle.std.specs.Str.Parse.{IsNumeral, AllDigits, digits_value, signed_digits_value, ParsesSigned, starts_with_minus, without_leading_plus, without_leading_sign}
use Rattle.std.proofs.lemmas.Bool.Decides.{nat_tests}
use Rattle.std.proofs.lemmas.Slice.Eq.{bytes_eq-Decides}
use Rattle.std.proofs.lemmas.Bool.{and_parts, cond-false, false_from_ne_true}
use Rattle.std.proofs.lemmas.Option.{cond_some}
use Rattle.std.proofs.lemmas.Str.{IsUtf8-from_ascii}
use Rattle.std.proofs.lemmas.Fmt.{decimal_is_IsNumeral_wide, IsAscii-decimal_wide}
use Rattle.std.proofs.lemmas.Str.Parse.{digit_at, without_leading_plus_none}
use Rattle.s2_outread.specs.Reading.{is_wide, number_of}

pub wide_is : (x : ℤ) → is_wide x ≡ true → FitsSigned w128 x
wide_is (pos n) h = grind (arith, nat_tests)
wide_is (negsuc n) h = grind (arith, nat_tests)

pub wide_fits : (x : ℤ) → FitsSigned w128 x → is_wide x ≡ true
wide_fits (pos n) h = grind (arith, nat_tests)
wide_fits (negsuc n) h = grind (arith, nat_tests)

pub int_wide : (x : ℤ) → FitsSigned w64 x → is_wide x ≡ true
int_wide (pos n) h = grind (arith, nat_tests)
int_wide (negsuc n) h = grind (arith, nat_tests)

starts_plain : (ds : List ℕ) → 48 ≤ get_or ds 0 0 → get_or ds 0 0 ≤ 57 → (starts_with_minus ds ≡ false) × (without_leading_plus ds ≡ ds)
starts_plain ds low high =
    let not_plus : get_or ds 0 0 ≢ 43 = omega arith in
    (grind (arith, nat_tests), without_leading_plus_none ds not_plus)

pub numeral : (n : ℕ) → n ≤ 2 ^ 127 → IsNumeral 10 (decimal n) × (digits_value 10 (decimal n) ≡ n)
numeral n h = decimal_is_IsNumeral_wide n (omega arith)

plain : (n : ℕ) → n ≤ 2 ^ 127 → (starts_with_minus (decimal n) ≡ false) × (without_leading_plus (decimal n) ≡ decimal n)
plain n h =
    let k = numeral n h in
    let first = digit_at (decimal n) 0 k.0.1 k.0.0 in
    starts_plain (decimal n) first.0 first.1

pos_small : (n : ℕ) → is_wide (pos n) ≡ true → n ≤ 2 ^ 127
pos_small n h = grind (arith, nat_tests)

neg_small : (n : ℕ) → is_wide (negsuc n) ≡ true → suc n ≤ 2 ^ 127
neg_small n h =
    let lt : n < 2 ^ 127 = grind (arith, nat_tests) in
    omega arith

value_again : (x : ℤ) → is_wide x ≡ true → signed_digits_value 10 (signed_decimal x) ≡ x
value_again (pos n) h =
    let small = pos_small n h in
    let p = plain n small in
    rw (p.0, p.1, (numeral n small).1) refl
value_again (negsuc n) h = rw (numeral (suc n) (neg_small n h)).1 refl

unsigned_again : (x : ℤ) → is_wide x ≡ true → IsNumeral 10 (without_leading_sign (signed_decimal x))
unsigned_again (pos n) h =
    let small = pos_small n h in
    let p = plain n small in
    rw (p.0, p.1) (numeral n small).0
unsigned_again (negsuc n) h = (numeral (suc n) (neg_small n h)).0

pub number_again : (x : ℤ) → is_wide x ≡ true → number_of (signed_decimal x) ≡ Some x
unfolding number_of
number_again x h =
    let value = value_again x h in
    let same : bytes_eq (signed_decimal x) (signed_decimal x) ≡ true = (bytes_eq-Decides (signed_decimal x) (signed_decimal x)).1 refl in
    rw (value, h, same) refl

pub number_typed : (digits : List ℕ) (x : ℤ) → number_of digits ≡ Some x → FitsSigned w128 x
unfolding number_of
number_typed digits x h =
    let v = signed_digits_value 10 digits in
    let g = cond_some (is_wide v && bytes_eq (signed_decimal v) digits) v x h in
    let t = and_parts (is_wide v) (bytes_eq (signed_decimal v) digits) g.0 in
    subst (λ (z : ℤ). FitsSigned w128 z) g.1 (wide_is v t.0)

-- bytes that write no number of 128 bits are none
pub no_number : (digits : List ℕ) → ((x : ℤ) → is_wide x ≡ true → digits ≡ signed_decimal x → ⊥) → None ≡ number_of digits
unfolding number_of
no_number digits none =
    let v = signed_digits_value 10 digits in
    let refused : (is_wide v && bytes_eq (signed_decimal v) digits) ≡ true → ⊥ = λ t.
    let parts = and_parts (is_wide v) (bytes_eq (signed_decimal v) digits) t in
    none v parts.0 (sym ((bytes_eq-Decides (signed_decimal v) digits).0 parts.1)) in
    let test : (is_wide v && bytes_eq (signed_decimal v) digits) ≡ false = false_from_ne_true _ refused in
    sym (cond-false (is_wide v && bytes_eq (signed_decimal v) digits) (Some v) None test)

ascii_minus : (ds : List ℕ) → IsAscii ds → IsAscii (45 ∷ ds)
ascii_minus ds h zero = omega arith
ascii_minus ds h (suc i) = h i

ascii_again : (x : ℤ) → is_wide x ≡ true → IsAscii (signed_decimal x)
ascii_again (pos n) h =
    let small = pos_small n h in
    IsAscii-decimal_wide n (omega arith)
ascii_again (negsuc n) h =
    let small = neg_small n h in
    ascii_minus (decimal (suc n)) (IsAscii-decimal_wide (suc n) (omega arith))

-- what is written of a number is UTF-8
pub written_utf8 : (x : ℤ) (digits : List ℕ) → is_wide x ≡ true → digits ≡ signed_decimal x → IsUtf8 digits
written_utf8 x digits fits e = let P : List ℕ → Type 0 = λ bs. IsUtf8 bs in subst P (sym e) (IsUtf8-from_ascii (signed_decimal x) (ascii_again x fits))

parses_again : {E : Type 0} (x : ℤ) (r : Result ℤ E) → is_wide x ≡ true → ParsesSigned w128 10 (signed_decimal x) r → r ≡ Ok x
parses_again x (Ok y) fits p = ap (λ (z : ℤ). Ok z) (p.1 ∙ value_again x fits)
parses_again x (Err e) fits p = absurd (p (unsigned_again x fits, subst (λ (z : ℤ). FitsSigned w128 z) (sym (value_again x fits)) (wide_is x fits)))

-- it is parsed as the number
pub written_parses : {E : Type 0} (x : ℤ) (digits : List ℕ) (r : Result ℤ E) → is_wide x ≡ true → digits ≡ signed_decimal x → ParsesSigned w128 10 digits r → r ≡ Ok x
written_parses x digits r fits e parsed = parses_again x r fits (subst (λ (bs : List ℕ). ParsesSigned w128 10 bs r) e parsed)

-- bytes that are the number's text write the number
pub is_written : (x : ℤ) (text digits : List ℕ) → is_wide x ≡ true → text ≡ signed_decimal x → bytes_eq text digits ≡ true → Some x ≡ number_of digits
is_written x text digits fits e same =
    let is : digits ≡ signed_decimal x = sym ((bytes_eq-Decides text digits).0 same) ∙ e in
    rw is (sym (number_again x fits))

-- bytes that are not the number's text don't write it
pub not_written : (x y : ℤ) (text digits : List ℕ) → text ≡ signed_decimal x → bytes_eq text digits ≡ false → x ≡ y → digits ≡ signed_decimal y → ⊥
not_written x y text digits e other same is =
    let equal : text ≡ digits = e ∙ ap signed_decimal same ∙ sym is in
    let test : bytes_eq text digits ≡ true = (bytes_eq-Decides text digits).1 equal in
    absurd cc

-- the first byte of a number's text is a digit or a minus
pub record Heads (bytes : List ℕ) : Type 0 where
  pub first : ℕ
  pub later : List ℕ
  pub is : bytes ≡ first ∷ later
  pub low : 45 ≤ first
  pub high : first ≤ 57

heads_at : (ds : List ℕ) → AllDigits 10 ds → 0 < length ds → Heads ds
heads_at [] all some = absurd (omega arith)
heads_at (d ∷ ds) all some =
    let range = digit_at (d ∷ ds) 0 all (omega arith) in
    record { first = d; later = ds; is = refl; low = omega (arith, range.0); high = range.1 }

pub number_heads : (x : ℤ) → is_wide x ≡ true → Heads (signed_decimal x)
number_heads (pos n) h = let k = numeral n (pos_small n h) in heads_at (decimal n) k.0.1 k.0.0
number_heads (negsuc n) h = record { first = 45; later = decimal (suc n); is = refl; low = omega arith; high = omega arith }
