-- The order of values and of rows.
use Rattle.std.specs.Prelude.{◌≡◌, ℕ, Bool, true, false, List, Some, nat_eq}
use Rattle.std.proofs.Common.{refl, ap, ◌∙◌, subst, Decides}
use Rattle.std.specs.declared.cmp.Ordering.{Ordering}
use Rattle.std.specs.declared.cmp.Ordering.TheVariants.{Less, Equal, Greater}
use Rattle.std.specs.Ordering.{int_cmp, int_eq, nat_cmp, is_eq, eq_by_cmp, ordering_reverse}
use Rattle.std.specs.Cmp.{IsTotalOrder, IsEquivalence, IsPartialOrder, int_cmp_total, int_eq_equiv, partial_order_from_agreeing_total, signed_Decides}
use Rattle.std.specs.Cmp.Lexicographic.{slice_cmp, pointwise, nat_list_cmp_total, nat_list_eq_equiv, texts_ties, bytes_decides, pointwise_decides, lists_total, lists_ties}
use Rattle.std.specs.Hash as fed
use Rattle.s2_value.specs.declared.values.Value.{Value}
use Rattle.s2_value.specs.declared.values.Value.TheVariants.{Int, Text}

-- numbers by size, texts by bytes, a number before a text
abbrev pub value_cmp : Value → Value → Ordering
value_cmp (Int x) (Int y) = int_cmp x y
value_cmp (Int x) (Text y) = Less
value_cmp (Text x) (Int y) = Greater
value_cmp (Text x) (Text y) = slice_cmp nat_cmp x y

-- the same number, or the same bytes
abbrev pub value_eq : Value → Value → Bool
value_eq (Int x) (Int y) = int_eq x y
value_eq (Int x) (Text y) = false
value_eq (Text x) (Int y) = false
value_eq (Text x) (Text y) = pointwise nat_eq x y

-- rows and keys go value by value
abbrev pub row_cmp : List Value → List Value → Ordering
row_cmp x y = slice_cmp value_cmp x y

abbrev pub row_eq : List Value → List Value → Bool
row_eq x y = pointwise value_eq x y

-- the laws of the order

antisymm : (x y : Value) → value_cmp x y ≡ ordering_reverse (value_cmp y x)
antisymm (Int x) (Int y) = int_cmp_total.antisymm x y
antisymm (Int x) (Text y) = refl
antisymm (Text x) (Int y) = refl
antisymm (Text x) (Text y) = nat_list_cmp_total.antisymm x y

trans : (x y z : Value) → value_cmp x y ≡ Less → value_cmp y z ≡ Less → value_cmp x z ≡ Less
trans (Int x) (Int y) (Int z) p q = int_cmp_total.trans x y z p q
trans (Int x) (Int y) (Text z) p q = refl
trans (Int x) (Text y) (Int z) p q = cc
trans (Int x) (Text y) (Text z) p q = refl
trans (Text x) (Int y) z p q = cc
trans (Text x) (Text y) (Int z) p q = cc
trans (Text x) (Text y) (Text z) p q = nat_list_cmp_total.trans x y z p q

congr : (x y z : Value) → value_cmp x y ≡ Equal → value_cmp x z ≡ value_cmp y z
congr (Int x) (Int y) (Int z) p = int_cmp_total.congr x y z p
congr (Int x) (Int y) (Text z) p = refl
congr (Int x) (Text y) z p = cc
congr (Text x) (Int y) z p = cc
congr (Text x) (Text y) (Int z) p = refl
congr (Text x) (Text y) (Text z) p = nat_list_cmp_total.congr x y z p

pub value_cmp_total : IsTotalOrder value_cmp
value_cmp_total = record { antisymm = antisymm; trans = trans; congr = congr }

pub value_ties : (x y : Value) → value_eq x y ≡ eq_by_cmp value_cmp x y
value_ties (Int x) (Int y) = refl
value_ties (Int x) (Text y) = refl
value_ties (Text x) (Int y) = refl
value_ties (Text x) (Text y) = texts_ties x y

eq_refl : (x : Value) → value_eq x x ≡ true
eq_refl (Int x) = int_eq_equiv.refl x
eq_refl (Text x) = nat_list_eq_equiv.refl x

eq_symm : (x y : Value) → value_eq x y ≡ value_eq y x
eq_symm (Int x) (Int y) = int_eq_equiv.symm x y
eq_symm (Int x) (Text y) = refl
eq_symm (Text x) (Int y) = refl
eq_symm (Text x) (Text y) = nat_list_eq_equiv.symm x y

eq_congr : (x y z : Value) → value_eq x y ≡ true → value_eq x z ≡ value_eq y z
eq_congr (Int x) (Int y) (Int z) p = int_eq_equiv.congr x y z p
eq_congr (Int x) (Int y) (Text z) p = refl
eq_congr (Int x) (Text y) z p = cc
eq_congr (Text x) (Int y) z p = cc
eq_congr (Text x) (Text y) (Int z) p = refl
eq_congr (Text x) (Text y) (Text z) p = nat_list_eq_equiv.congr x y z p

pub value_eq_equiv : IsEquivalence value_eq
value_eq_equiv = record { refl = eq_refl; symm = eq_symm; congr = eq_congr }

pub value_po : IsPartialOrder value_eq (λ x y. Some (value_cmp x y))
value_po = partial_order_from_agreeing_total value_cmp value_cmp_total (λ x y. refl) value_ties

-- equal values are one value
pub same_value : (x y : Value) → value_eq x y ≡ true → x ≡ y
same_value (Int x) (Int y) e = ap Int ((signed_Decides x y).0 e)
same_value (Int x) (Text y) e = cc
same_value (Text x) (Int y) e = cc
same_value (Text x) (Text y) e = ap Text ((bytes_decides x y).0 e)

value_decides : (x y : Value) → Decides (value_eq x y) (x ≡ y)
value_decides x y = (same_value x y, λ e. subst (λ z. value_eq x z ≡ true) e (eq_refl x))

pub same_row : (xs ys : List Value) → row_eq xs ys ≡ true → xs ≡ ys
same_row xs ys e = (pointwise_decides value_decides xs ys).0 e

-- values and rows between which the order finds no difference are one
pub one_value : (x y : Value) → value_cmp x y ≡ Equal → x ≡ y
one_value x y e = same_value x y (value_ties x y ∙ ap is_eq e)

pub one_row : (xs ys : List Value) → row_cmp xs ys ≡ Equal → xs ≡ ys
one_row xs ys e = same_row xs ys (lists_ties value_cmp value_ties xs ys ∙ ap is_eq e)

pub row_cmp_total : IsTotalOrder row_cmp
row_cmp_total = lists_total value_cmp_total

-- what a hasher is fed
abbrev pub hash_writes : Value → List (List ℕ)
hash_writes (Int x) = fed.i64 x
hash_writes (Text x) = fed.slice fed.u8 x

pub hash_respects : (x y : Value) → value_eq x y ≡ true → hash_writes x ≡ hash_writes y
hash_respects x y e = ap hash_writes (same_value x y e)
