-- A name of a column is found, and so is a literal's value.
use Rattle.std.proofs.Common.{◌≡◌, ℕ, ℤ, ◌+◌, ◌<◌, ◌≤◌, ◌^◌, pos, neg_ℤ, zero, suc, Bool, true, false, List, [], ◌∷◌, ◌++◌, Option, Some, None, length, map, slice_get, nat_le, nat_lt, not, ◌||◌, ◌&&◌, if◌then◌else◌, refl, sym, ap, subst, ◌∙◌, arith}
use Rattle.std.specs.Str.{bytes_eq}
use Rattle.std.specs.List.{list_any, AllByRecursion}
use Rattle.std.specs.Option.{option_map}
use Rattle.std.proofs.lemmas.Bool.{and_from}
use Rattle.std.proofs.lemmas.Bool.Decides.{nat_tests}
use Rattle.std.proofs.lemmas.Slice.Eq.{bytes_eq-Decides}
use Rattle.s2_value.specs.declared.values.ColType.{ColType}
use Rattle.s2_value.specs.declared.values.ColType.TheVariants as kind
use Rattle.s2_value.specs.declared.values.Value.{Value}
use Rattle.s2_value.specs.declared.values.Value.TheVariants as value
use Rattle.s2_value.specs.declared.schemas.Col.{Col}
use Rattle.s2_value.specs.Text.{is_txt, is_text_bytes}
use Rattle.s2_value.specs.Rows.{is_of}
use Rattle.s2_token.specs.declared.types.Literal.{Literal}
use Rattle.s2_token.specs.declared.types.Literal.TheVariants as literal
use Rattle.s2_pred.specs.Meaning.{place_from, place_of, number_of, value_of}
use Rattle.s2_line.specs.declared.forms.RawColumn.{RawColumn}
use Rattle.s2_judge.specs.Kinds.{is_wide, is_long, has_column, is_number, is_number_type, is_number_column, same}
use Rattle.s2_resolve.specs.Clean.{IsCleanLiteral}
use Rattle.s2_resolve.specs.Resolved.{AreColumns}
use Rattle.s2_resolve.proofs.Lists.{neither}

-- ---- names

-- the column of a name
pub record Found (columns : List RawColumn) (cols : List Col) (n : ℕ) (name : List ℕ) : Type 0 where
  pub at : ℕ
  pub is : place_from n cols name ≡ Some (n + at)
  pub col : Col
  pub there : slice_get cols at ≡ Some col
  pub named : col.name ≡ name
  pub number : is_number_column columns name ≡ is_number_type col.kind

abbrev Named : List ℕ → List ℕ → Bool → Type 0
Named a b v = bytes_eq a b ≡ v

found_by : (c : RawColumn) (columns : List RawColumn) (d : Col) (cols : List Col) (n : ℕ) (name : List ℕ) (v : Bool)
    → Named c.name name v → d.name ≡ c.name → d.kind ≡ c.kind → (v ≡ false → Found columns cols (suc n) name) → Found (c ∷ columns) (d ∷ cols) n name
found_by c columns d cols n name true e a k later = record {
  at = 0;
  is = rw (a, e) (ap Some (omega arith));
  col = d;
  there = refl;
  named = a ∙ (bytes_eq-Decides c.name name).0 e;
  number = rw (e, k) refl;
}
found_by c columns d cols n name false e a k later =
    let f = later refl in
    record {
      at = suc f.at;
      is = rw (a, e) (f.is ∙ ap Some (omega arith));
      col = f.col;
      there = f.there;
      named = f.named;
      number = rw e f.number;
    }

other : (a b : Bool) → (a || b) ≡ true → a ≡ false → b ≡ true
other true b h e = absurd cc
other false b h e = h

pub found_from : (columns : List RawColumn) (cols : List Col) (n : ℕ) (name : List ℕ) → AreColumns columns cols → has_column columns name ≡ true → Found columns cols n name
found_from [] [] n name h t = absurd cc
found_from [] (d ∷ cols) n name h t = absurd h
found_from (c ∷ columns) [] n name h t = absurd h
found_from (c ∷ columns) (d ∷ cols) n name h t =
    found_by c columns d cols n name (bytes_eq c.name name) refl h.0 h.1
    (λ e. found_from columns cols (suc n) name h.2 (other (bytes_eq c.name name) (has_column columns name) t e))

-- ---- literals

-- a literal that is a value
abbrev pub IsGood : Literal → Type 0
IsGood x = IsCleanLiteral x × (is_wide x ≡ false) × (is_long x ≡ false)

pub record Valued (x : Literal) : Type 0 where
  pub is : Value
  pub value : value_of x ≡ Some is
  pub fits : (k : ColType) → is_of k is ≡ same (is_number_type k) (is_number x)

number_fits : (k : ColType) (z : ℤ) → is_of k (value.Int z) ≡ same (is_number_type k) true
number_fits kind.Int z = refl
number_fits kind.Text z = refl

text_fits : (k : ColType) (t : List ℕ) → is_of k (value.Text t) ≡ same (is_number_type k) false
text_fits kind.Int t = refl
text_fits kind.Text t = refl

pub valued : (x : Literal) → IsGood x → Valued x
valued (literal.Number true size) h =
    let small : nat_le size (2 ^ 63) ≡ true = grind (arith, nat_tests, h.1) in
    record { is = value.Int (neg_ℤ (pos size)); value = rw small refl; fits = λ k. number_fits k (neg_ℤ (pos size)) }
valued (literal.Number false size) h =
    let small : nat_lt size (2 ^ 63) ≡ true = grind (arith, nat_tests, h.1) in
    record { is = value.Int (pos size); value = rw small refl; fits = λ k. number_fits k (pos size) }
valued (literal.Text bytes) h =
    let short : nat_le (length bytes) 255 ≡ true = grind (arith, nat_tests, h.2) in
    record { is = value.Text bytes; value = rw (and_from (nat_le (length bytes) 255) (is_text_bytes bytes) short h.0) refl; fits = λ k. text_fits k bytes }

-- the signed number of a sum
pub summed : (negative : Bool) (size : ℕ) → is_wide (literal.Number negative size) ≡ false → (z : ℤ) × (number_of negative size ≡ Some z)
summed true size h = let small : nat_le size (2 ^ 63) ≡ true = grind (arith, nat_tests, h) in (neg_ℤ (pos size), rw small refl)
summed false size h = let small : nat_lt size (2 ^ 63) ≡ true = grind (arith, nat_tests, h) in (pos size, rw small refl)
