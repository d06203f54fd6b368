-- What a predicate of the grammar means can be printed.
use Rattle.std.proofs.Common.{◌≡◌, refl, sym, ◌∙◌, ap, subst, ℕ, pos, negsuc, neg_ℤ, zero, suc, ◌+◌, ◌^◌, ◌<◌, Bool, true, false, List, [], ◌∷◌, Option, Some, None, length, nat_le, nat_lt, if◌then◌else◌, arith}
use Rattle.std.specs.Option.{option_map}
use Rattle.std.specs.Bool.{◌==◌}
use Rattle.std.specs.Cmp.Lexicographic.{pointwise, same_text}
use Rattle.s2_value.specs.declared.values.Value.{Value}
use Rattle.s2_value.specs.declared.values.Value.TheVariants as value
use Rattle.s2_value.specs.declared.schemas.Col.{Col}
use Rattle.s2_value.specs.Text.{is_txt}
use Rattle.s2_token.specs.declared.types.Literal.{Literal}
use Rattle.s2_token.specs.declared.types.Literal.TheVariants as literal
use Rattle.s2_model.specs.declared.predicates.Op.{Op}
use Rattle.s2_pred.specs.declared.types.Test.{Test}
use Rattle.s2_pred.specs.declared.types.Test.TheVariants.{Compare, OneOf}
use Rattle.s2_pred.specs.Trees.{Tree, leaf, negated, paren, both, either, IsGrouped, IsTest}
use Rattle.s2_model.specs.Predicates.{Predicate, compared, one_of, all_of, any_of, none_of}
use Rattle.s2_pred.specs.Meaning.{place_from, place_of, number_of, value_of, values_of, values_onto, compared_at, one_of_at, test_meaning, meaning}
use Rattle.s2_pred.specs.Printing.{number_literal, name_at, IsPlace, IsLiteral, AreLiterals, IsPrintable}
use Rattle.s2_pred.proofs.PrintLaws.{inner, sides}

-- literals

plus_one : (n : ℕ) → n + 1 ≡ suc n
plus_one n = omega arith

negative_again : (n : ℕ) → nat_le n (2 ^ 63) ≡ true → value_of (number_literal (neg_ℤ (pos n))) ≡ Some (value.Int (neg_ℤ (pos n)))
negative_again zero h = refl
negative_again (suc n) h =
    ap (λ (m : ℕ). option_map (λ z. value.Int z) (number_of true m)) (plus_one n)
    ∙ ap (λ (b : Bool). option_map (λ z. value.Int z) (if b then Some (negsuc n) else None)) h

positive_again : (n : ℕ) → nat_lt n (2 ^ 63) ≡ true → value_of (number_literal (pos n)) ≡ Some (value.Int (pos n))
positive_again n h = ap (λ (b : Bool). option_map (λ z. value.Int z) (if b then Some (pos n) else None)) h

number_again : (negative : Bool) (size : ℕ) (b : Bool) (v : Value) → (if negative then nat_le size (2 ^ 63) else nat_lt size (2 ^ 63)) ≡ b → value_of (literal.Number negative size) ≡ Some v → IsLiteral v
number_again true size true v h e =
    let f : Some (value.Int (neg_ℤ (pos size))) ≡ Some v = ap (λ (b : Bool). option_map (λ z. value.Int z) (if b then Some (neg_ℤ (pos size)) else None)) (sym h) ∙ e in
    let g : value.Int (neg_ℤ (pos size)) ≡ v = cc in
    rw (← g) (negative_again size h)
number_again true size false v h e =
    let f : None ≡ Some v = ap (λ (b : Bool). option_map (λ z. value.Int z) (if b then Some (neg_ℤ (pos size)) else None)) (sym h) ∙ e in
    absurd (cc)
number_again false size true v h e =
    let f : Some (value.Int (pos size)) ≡ Some v = ap (λ (b : Bool). option_map (λ z. value.Int z) (if b then Some (pos size) else None)) (sym h) ∙ e in
    let g : value.Int (pos size) ≡ v = cc in
    rw (← g) (positive_again size h)
number_again false size false v h e =
    let f : None ≡ Some v = ap (λ (b : Bool). option_map (λ z. value.Int z) (if b then Some (pos size) else None)) (sym h) ∙ e in
    absurd (cc)

text_again : (bytes : List ℕ) (b : Bool) (v : Value) → is_txt bytes ≡ b → (if b then Some (value.Text bytes) else None) ≡ Some v → IsLiteral v
text_again bytes true v h e =
    let g : value.Text bytes ≡ v = cc in
    rw (← g) (ap (λ (b : Bool). if b then Some (value.Text bytes) else None) h)
text_again bytes false v h e = absurd (cc)

literal_again : (x : Literal) (v : Value) → value_of x ≡ Some v → IsLiteral v
literal_again (literal.Number true size) v e = number_again true size (nat_le size (2 ^ 63)) v refl e
literal_again (literal.Number false size) v e = number_again false size (nat_lt size (2 ^ 63)) v refl e
literal_again (literal.Text bytes) v e = text_again bytes (is_txt bytes) v refl e

record Values (xs : List Literal) (vs : List Value) : Type 0 where
  are : AreLiterals vs
  length_is : length vs ≡ length xs

values_from : (x : Literal) (xs : List Literal) (m : Option Value) (ms : Option (List Value)) (vs : List Value) → value_of x ≡ m → ((ws : List Value) → ms ≡ Some ws → Values xs ws) → values_onto m ms ≡ Some vs → Values (x ∷ xs) vs
values_from x xs None ms vs e f g = absurd (cc)
values_from x xs (Some v) None vs e f g = absurd (cc)
values_from x xs (Some v) (Some ws) vs e f g =
    let h : v ∷ ws ≡ vs = cc in
    let k = f ws refl in
    rw (← h) (record { are = (literal_again x v e, k.are); length_is = omega (arith, k.length_is) })

values_again : (xs : List Literal) (vs : List Value) → values_of xs ≡ Some vs → Values xs vs
values_again [] vs e = let h : [] ≡ vs = cc in rw (← h) (record { are = tt; length_is = refl })
values_again (x ∷ xs) vs e = values_from x xs (value_of x) (values_of xs) vs refl (λ ws f. values_again xs ws f) e

-- names

record Found (n : ℕ) (cols : List Col) (name : List ℕ) (c : ℕ) : Type 0 where
  above : ℕ
  is : c ≡ n + above
  named : name_at cols above ≡ name

by_name : (n : ℕ) (col : Col) (cols : List Col) (name : List ℕ) (c : ℕ) (b : Bool) → pointwise ◌==◌ col.name name ≡ b → (place_from (suc n) cols name ≡ Some c → Found (suc n) cols name c) → (if b then Some n else place_from (suc n) cols name) ≡ Some c → Found n (col ∷ cols) name c
by_name n col cols name c true h f e = let g : n ≡ c = cc in record { above = 0; is = omega arith; named = same_text col.name name (sym h) }
by_name n col cols name c false h f e = let k = f e in record { above = suc k.above; is = omega (arith, k.is); named = k.named }

found : (n : ℕ) (cols : List Col) (name : List ℕ) (c : ℕ) → place_from n cols name ≡ Some c → Found n cols name c
found n [] name c e = absurd (cc)
found n (col ∷ cols) name c e = by_name n col cols name c (pointwise ◌==◌ col.name name) refl (found (suc n) cols name c) e

place_again : (cols : List Col) (name : List ℕ) (c : ℕ) → place_of cols name ≡ Some c → IsPlace cols c
place_again cols name c e =
    let k = found 0 cols name c e in
    let same : c ≡ k.above = omega (arith, k.is) in
    ap (λ (m : List ℕ). place_of cols m) (ap (λ (a : ℕ). name_at cols a) same ∙ k.named) ∙ e

-- tests

compared_again : (cols : List Col) (c : Option ℕ) (o : Op) (v : Option Value) (p : Predicate) → ((d : ℕ) → c ≡ Some d → IsPlace cols d) → ((w : Value) → v ≡ Some w → IsLiteral w) → compared_at c o v ≡ Some p → IsPrintable cols p
compared_again cols None o v p f g e = absurd (cc)
compared_again cols (Some c) o None p f g e = absurd (cc)
compared_again cols (Some c) o (Some w) p f g e = let h : compared c o w ≡ p = cc in rw (← h) (f c refl, g w refl)

one_of_again : (cols : List Col) (c : Option ℕ) (xs : List Literal) (vs : Option (List Value)) (p : Predicate) → 0 < length xs → ((d : ℕ) → c ≡ Some d → IsPlace cols d) → ((ws : List Value) → vs ≡ Some ws → Values xs ws) → one_of_at c vs ≡ Some p → IsPrintable cols p
one_of_again cols None xs vs p some f g e = absurd (cc)
one_of_again cols (Some c) xs None p some f g e = absurd (cc)
one_of_again cols (Some c) xs (Some ws) p some f g e =
    let h : one_of c ws ≡ p = cc in
    let k = g ws refl in
    rw (← h) (f c refl, k.are, omega (arith, k.length_is))

test_again : (cols : List Col) (x : Test) (p : Predicate) → IsTest x → test_meaning cols x ≡ Some p → IsPrintable cols p
test_again cols (Compare column o x) p i e =
    compared_again cols (place_of cols column) o (value_of x) p (λ d f. place_again cols column d f) (λ w f. literal_again x w f) e
test_again cols (OneOf column xs) p i e =
    one_of_again cols (place_of cols column) xs (values_of xs) p i (λ d f. place_again cols column d f) (λ ws f. values_again xs ws f) e

-- trees

along : (cols : List Col) (p q : Predicate) → p ≡ q → IsPrintable cols q → IsPrintable cols p
along cols p q e h = subst (λ (r : Predicate). IsPrintable cols r) (sym e) h

pub printable : (cols : List Col) (t : Tree) (p : Predicate) → IsGrouped t → meaning cols t ≡ Some p → IsPrintable cols p
printable cols (leaf x) p g e = test_again cols x p g e
printable cols (negated t) p g e =
    let k = inner (meaning cols t) p e in along cols p (none_of k.inside) k.is (printable cols t k.inside g.0 k.inside_is)
printable cols (paren t) p g e = printable cols t p g e
printable cols (both t u) p g e =
    let k = sides all_of (meaning cols t) (meaning cols u) p e in
    along cols p (all_of k.left k.right) k.is (printable cols t k.left g.0 k.left_is, printable cols u k.right g.2 k.right_is)
printable cols (either t u) p g e =
    let k = sides any_of (meaning cols t) (meaning cols u) p e in
    along cols p (any_of k.left k.right) k.is (printable cols t k.left g.0 k.left_is, printable cols u k.right g.1 k.right_is)
