-- A statement as it is printed: no sign at 0, no ASC. It is written of the same names and means the same.
use Rattle.std.proofs.Common.{◌≡◌, ℕ, ℤ, pos, neg_ℤ, zero, suc, ◌+◌, ◌^◌, Bool, true, false, List, [], ◌∷◌, Option, Some, None, nat_le, nat_lt, if◌then◌else◌, refl, sym, ap, ◌∙◌, arith}
use Rattle.std.specs.Bool.{◌==◌}
use Rattle.std.specs.Cmp.Lexicographic.{pointwise, same_text}
use Rattle.std.specs.Option.{option_map}
use Rattle.s2_value.specs.declared.values.Value.{Value}
use Rattle.s2_value.specs.declared.values.Value.TheVariants as value
use Rattle.s2_value.specs.declared.schemas.Col.{Col}
use Rattle.s2_value.specs.Text.{is_txt}
use Rattle.s2_token.specs.declared.types.Literal.{Literal}
use Rattle.s2_token.specs.declared.types.Literal.TheVariants as literal
use Rattle.s2_pred.specs.Meaning.{place_from, place_of, number_of, value_of}
use Rattle.s2_pred.specs.Printing.{number_literal, literal_of, name_at}
use Rattle.s2_judge.specs.Kinds.{is_wide, is_long, is_number}
use Rattle.s2_sqltext.proofs.Items.{some_is}

-- 0 has no sign
abbrev pub is_signed : Bool → ℕ → Bool
is_signed negative zero = false
is_signed negative (suc n) = negative

abbrev pub plain : Literal → Literal
plain (literal.Number negative size) = literal.Number (is_signed negative size) size
plain (literal.Text bytes) = literal.Text bytes

-- ---- it is the same in what the kinds of fault ask

pub wide_plain : (x : Literal) → is_wide (plain x) ≡ is_wide x
wide_plain (literal.Number true zero) = refl
wide_plain (literal.Number true (suc n)) = refl
wide_plain (literal.Number false zero) = refl
wide_plain (literal.Number false (suc n)) = refl
wide_plain (literal.Text bytes) = refl

pub long_plain : (x : Literal) → is_long (plain x) ≡ is_long x
long_plain (literal.Number negative size) = refl
long_plain (literal.Text bytes) = refl

pub number_plain : (x : Literal) → is_number (plain x) ≡ is_number x
number_plain (literal.Number negative size) = refl
number_plain (literal.Text bytes) = refl

-- ---- it means the same

pub signed_means : (negative : Bool) (size : ℕ) → number_of (is_signed negative size) size ≡ number_of negative size
signed_means true zero = refl
signed_means true (suc n) = refl
signed_means false zero = refl
signed_means false (suc n) = refl

pub value_plain : (x : Literal) → value_of (plain x) ≡ value_of x
value_plain (literal.Number negative size) = ap (λ (o : Option ℤ). option_map (λ z. value.Int z) o) (signed_means negative size)
value_plain (literal.Text bytes) = refl

-- ---- it is what its value is printed as

plus_one : (n : ℕ) → n + 1 ≡ suc n
plus_one n = omega arith

pub picked : {A : Type 0} (b : Bool) (x y : A) → (if b then Some x else None) ≡ Some y → y ≡ x
picked true x y e = cc
picked false x y e = absurd cc

-- the literal of a number
pub number_back : (negative : Bool) (size : ℕ) (z : ℤ) → number_of negative size ≡ Some z → number_literal z ≡ literal.Number (is_signed negative size) size
number_back true zero z e = ap number_literal (picked (nat_le zero (2 ^ 63)) (neg_ℤ (pos zero)) z e)
number_back true (suc n) z e = ap number_literal (picked (nat_le (suc n) (2 ^ 63)) (neg_ℤ (pos (suc n))) z e) ∙ ap (λ (m : ℕ). literal.Number true m) (plus_one n)
number_back false zero z e = ap number_literal (picked (nat_lt zero (2 ^ 63)) (pos zero) z e)
number_back false (suc n) z e = ap number_literal (picked (nat_lt (suc n) (2 ^ 63)) (pos (suc n)) z e)

int_back : (negative : Bool) (size : ℕ) (o : Option ℤ) (v : Value) → number_of negative size ≡ o → option_map (λ z. value.Int z) o ≡ Some v → literal_of v ≡ literal.Number (is_signed negative size) size
int_back negative size None v h e = absurd cc
int_back negative size (Some z) v h e = ap literal_of (sym (some_is (value.Int z) v e)) ∙ number_back negative size z h

pub literal_back : (x : Literal) (v : Value) → value_of x ≡ Some v → literal_of v ≡ plain x
literal_back (literal.Number negative size) v e = int_back negative size (number_of negative size) v refl e
literal_back (literal.Text bytes) v e = ap literal_of (picked (is_txt bytes) (value.Text bytes) v e)

-- ---- the name of a place is the name that it was found by

record Found (n : ℕ) (cols : List Col) (name : List ℕ) (c : ℕ) : Type 0 where
  above : ℕ
  is : c ≡ n + above
  named : name_at cols above ≡ name

by_name : (n : ℕ) (col : Col) (cols : List Col) (name : List ℕ) (c : ℕ) (b : Bool) → pointwise ◌==◌ col.name name ≡ b
    → (place_from (suc n) cols name ≡ Some c → Found (suc n) cols name c) → (if b then Some n else place_from (suc n) cols name) ≡ Some c → Found n (col ∷ cols) name c
by_name n col cols name c true h f e = let g : n ≡ c = cc in record { above = 0; is = omega arith; named = same_text col.name name (sym h) }
by_name n col cols name c false h f e = let k = f e in record { above = suc k.above; is = omega (arith, k.is); named = k.named }

found : (n : ℕ) (cols : List Col) (name : List ℕ) (c : ℕ) → place_from n cols name ≡ Some c → Found n cols name c
found n [] name c e = absurd cc
found n (col ∷ cols) name c e = by_name n col cols name c (pointwise ◌==◌ col.name name) refl (found (suc n) cols name c) e

pub name_back : (cols : List Col) (name : List ℕ) (c : ℕ) → place_of cols name ≡ Some c → name_at cols c ≡ name
name_back cols name c e =
    let k = found 0 cols name c e in
    let same : c ≡ k.above = omega (arith, k.is) in
    ap (λ (a : ℕ). name_at cols a) same ∙ k.named
