-- The form that is chosen is the first of the shortest.
use Rattle.std.proofs.Common.{◌≡◌, ℕ, ◌+◌, ◌<◌, ◌≤◌, Bool, true, false, nat_lt, cond, List, length, map, Option, None, Some, inl, inr, sym, ap, refl, ◌∙◌, arith}
use Rattle.std.proofs.lemmas.Bool.{cases_lt}
use Rattle.std.proofs.lemmas.Bool.Decides.{nat_tests}
use Rattle.s2_colplain.specs.Packed.{spread}
use Rattle.s2_value.specs.declared.values.Value.{Value}
use Rattle.s2_value.specs.declared.values.ColType.{ColType}
use Rattle.s2_value.specs.declared.values.ColType.TheVariants as kind
use Rattle.s2_colenc.specs.declared.forms.Form.{Form}
use Rattle.s2_colenc.specs.declared.forms.Form.TheVariants.{PlainInt, PackedInt, PlainText, Dictionary, Runs}
use Rattle.s2_colenc.specs.Written.{tag_of, int_of, may_take, form_bytes, IsShortest, IsBlock}
use Rattle.s2_colenc.specs.Sizes.{shorter, choice}

abbrev of_tag : ℕ → Form
of_tag n = cond (nat_lt n 1) PlainInt (cond (nat_lt n 2) PackedInt (cond (nat_lt n 3) PlainText (cond (nat_lt n 4) Dictionary Runs)))

back : (h : Form) → of_tag (tag_of h) ≡ h
back PlainInt = refl
back PackedInt = refl
back PlainText = refl
back Dictionary = refl
back Runs = refl

-- two forms of one tag are one
one_tag : (f g : Form) → tag_of f ≡ tag_of g → f ≡ g
one_tag f g e = sym (back f) ∙ ap of_tag e ∙ back g

-- the first of the shortest of the forms below a tag
record Best (kind : ColType) (vals : List Value) (t : ℕ) (best : Form × ℕ) : Type 0 where
  allowed : may_take kind vals best.0 ≡ true
  size : best.1 ≡ length (form_bytes kind vals best.0)
  below : tag_of best.0 < t
  least : (g : Form) → may_take kind vals g ≡ true → tag_of g < t → best.1 ≤ length (form_bytes kind vals g)
  first : (g : Form) → may_take kind vals g ≡ true → tag_of g < tag_of best.0 → best.1 < length (form_bytes kind vals g)

wins : (kind : ColType) (vals : List Value) (t : ℕ) (best : Form × ℕ) (f : Form) → Best kind vals t best → may_take kind vals f ≡ true → tag_of f ≡ t → length (form_bytes kind vals f) < best.1 → Best kind vals (t + 1) (f, length (form_bytes kind vals f))
wins kind vals t best f b may e l = record {
  allowed = may;
  size = refl;
  below = omega arith;
  least = λ g m h. elim (cases_lt (tag_of g) t) [
    | inl earlier ↦ (let s = b.least g m earlier in omega arith)
    | inr same ↦ (let is : f ≡ g = one_tag f g (omega arith) in let eq : length (form_bytes kind vals f) ≡ length (form_bytes kind vals g) = ap (λ (x : Form). length (form_bytes kind vals x)) is in omega arith)
  ];
  first = λ g m h. (let s = b.least g m (omega arith) in omega arith);
}

stays : (kind : ColType) (vals : List Value) (t : ℕ) (best : Form × ℕ) (f : Form) → Best kind vals t best → tag_of f ≡ t → best.1 ≤ length (form_bytes kind vals f) → Best kind vals (t + 1) best
stays kind vals t best f b e l = record {
  allowed = b.allowed;
  size = b.size;
  below = (let s = b.below in omega arith);
  least = λ g m h. elim (cases_lt (tag_of g) t) [
    | inl earlier ↦ b.least g m earlier
    | inr same ↦ (let is : f ≡ g = one_tag f g (omega arith) in let eq : length (form_bytes kind vals f) ≡ length (form_bytes kind vals g) = ap (λ (x : Form). length (form_bytes kind vals x)) is in omega arith)
  ];
  first = b.first;
}

-- one more form, that may be taken
more : (kind : ColType) (vals : List Value) (t : ℕ) (best : Form × ℕ) (f : Form) → Best kind vals t best → may_take kind vals f ≡ true → tag_of f ≡ t → Best kind vals (t + 1) (shorter best (f, length (form_bytes kind vals f)))
more kind vals t best f b may e = go (nat_lt (length (form_bytes kind vals f)) best.1) refl
  where
    go : (c : Bool) → nat_lt (length (form_bytes kind vals f)) best.1 ≡ c → Best kind vals (t + 1) (cond c (f, length (form_bytes kind vals f)) best)
    go true h = wins kind vals t best f b may e (grind (arith, nat_tests))
    go false h = stays kind vals t best f b e (grind (arith, nat_tests))

-- one more form, that may not
skip : (kind : ColType) (vals : List Value) (t : ℕ) (best : Form × ℕ) (f : Form) → Best kind vals t best → may_take kind vals f ≡ false → tag_of f ≡ t → Best kind vals (t + 1) best
skip kind vals t best f b may e = record {
  allowed = b.allowed;
  size = b.size;
  below = (let s = b.below in omega arith);
  least = λ g m h. elim (cases_lt (tag_of g) t) [
    | inl earlier ↦ b.least g m earlier
    | inr same ↦ (let is : f ≡ g = one_tag f g (omega arith) in let no : may_take kind vals g ≡ false = sym (ap (may_take kind vals) is) ∙ may in absurd (differ (may_take kind vals g) m no))
  ];
  first = b.first;
}
  where
    differ : (x : Bool) → x ≡ true → x ≡ false → ⊥
    differ x p q = cc

-- the first form of the type
begun : (kind : ColType) (vals : List Value) (f : Form) → may_take kind vals f ≡ true → ((g : Form) → may_take kind vals g ≡ true → tag_of f ≤ tag_of g) → Best kind vals (tag_of f + 1) (f, length (form_bytes kind vals f))
begun kind vals f may low = record {
  allowed = may;
  size = refl;
  below = omega arith;
  least = λ g m h. (let s = low g m in let is : f ≡ g = one_tag f g (omega arith) in let eq : length (form_bytes kind vals f) ≡ length (form_bytes kind vals g) = ap (λ (x : Form). length (form_bytes kind vals x)) is in omega arith);
  first = λ g m h. (let s = low g m in absurd (omega arith));
}

-- the first of the shortest of all
ends : (kind : ColType) (vals : List Value) (best : Form × ℕ) → Best kind vals 5 best → IsShortest kind vals best.0
ends kind vals best b = record {
  allowed = b.allowed;
  least = λ g m. (let s = b.least g m (top g) in let e = b.size in omega arith);
  first = λ g m h. (let s = b.first g m h in let e = b.size in omega arith);
}
  where
    top : (g : Form) → tag_of g < 5
    top PlainInt = omega arith
    top PackedInt = omega arith
    top PlainText = omega arith
    top Dictionary = omega arith
    top Runs = omega arith

-- of numbers, with the packed form where it may be taken
pub choice_of_ints : (vals : List Value) (packed : Option ℕ) → packed ≡ cond (may_take kind.Int vals PackedInt) (Some (length (form_bytes kind.Int vals PackedInt))) None → IsShortest kind.Int vals (choice PlainInt (length (form_bytes kind.Int vals PlainInt)) packed (length (form_bytes kind.Int vals Dictionary)) (length (form_bytes kind.Int vals Runs))).0
choice_of_ints vals packed p = go (may_take kind.Int vals PackedInt) refl
  where
    one : Best kind.Int vals 1 (PlainInt, length (form_bytes kind.Int vals PlainInt))
    one = begun kind.Int vals PlainInt refl (λ g m. omega arith)

    after : (best : Form × ℕ) → Best kind.Int vals 2 best → IsShortest kind.Int vals (shorter (shorter best (Dictionary, length (form_bytes kind.Int vals Dictionary))) (Runs, length (form_bytes kind.Int vals Runs))).0
    after best b = ends kind.Int vals _ (more kind.Int vals 4 _ Runs (more kind.Int vals 3 _ Dictionary (skip kind.Int vals 2 best PlainText b refl refl) refl refl) refl refl)

    go : (c : Bool) → may_take kind.Int vals PackedInt ≡ c → IsShortest kind.Int vals (choice PlainInt (length (form_bytes kind.Int vals PlainInt)) packed (length (form_bytes kind.Int vals Dictionary)) (length (form_bytes kind.Int vals Runs))).0
    go true e =
        let some : packed ≡ Some (length (form_bytes kind.Int vals PackedInt)) = p ∙ ap (λ (c : Bool). cond c (Some (length (form_bytes kind.Int vals PackedInt))) None) e in
        rw some (after _ (more kind.Int vals 1 _ PackedInt one e refl))
    go false e =
        let none : packed ≡ None = p ∙ ap (λ (c : Bool). cond c (Some (length (form_bytes kind.Int vals PackedInt))) None) e in
        rw none (after _ (skip kind.Int vals 1 _ PackedInt one e refl))

-- of texts
pub choice_of_texts : (vals : List Value) → IsShortest kind.Text vals (choice PlainText (length (form_bytes kind.Text vals PlainText)) None (length (form_bytes kind.Text vals Dictionary)) (length (form_bytes kind.Text vals Runs))).0
choice_of_texts vals = ends kind.Text vals _ (more kind.Text vals 4 _ Runs (more kind.Text vals 3 _ Dictionary one refl refl) refl refl)
  where
    low : (g : Form) → may_take kind.Text vals g ≡ true → 2 ≤ tag_of g
    low PlainInt m = cc
    low PackedInt m = cc
    low PlainText m = omega arith
    low Dictionary m = omega arith
    low Runs m = omega arith

    one : Best kind.Text vals 3 (PlainText, length (form_bytes kind.Text vals PlainText))
    one = begun kind.Text vals PlainText refl low

-- packed is taken only where greatest less least is below 2^63
pub packs : (kind : ColType) (vals : List Value) → may_take kind vals PackedInt ≡ true → spread (map int_of vals) < 9223372036854775808
packs kind.Int vals m = below (spread (map int_of vals)) m
  where
    below : (n : ℕ) → nat_lt n 9223372036854775808 ≡ true → n < 9223372036854775808
    below n h = grind (arith, nat_tests)
packs kind.Text vals m = cc

-- the shortest form is one
one_form : (kind : ColType) (vals : List Value) (f g : Form) → IsShortest kind vals f → IsShortest kind vals g → f ≡ g
one_form kind vals f g a b = one_tag f g (same (not_below f g a b) (not_below g f b a))
  where
    not_below : (x y : Form) → IsShortest kind vals x → IsShortest kind vals y → tag_of x ≤ tag_of y
    not_below x y p q = elim (cases_lt (tag_of y) (tag_of x)) [
      | inl below ↦ (let less = p.first y q.allowed below in let most = q.least x p.allowed in absurd (omega arith))
      | inr fine ↦ fine
    ]

    same : tag_of f ≤ tag_of g → tag_of g ≤ tag_of f → tag_of f ≡ tag_of g
    same p q = omega arith

pub one_block : (kind : ColType) (vals : List Value) (bytes others : List ℕ) → IsBlock kind vals bytes → IsBlock kind vals others → bytes ≡ others
one_block kind vals bytes others a b = a.same ∙ ap (form_bytes kind vals) (one_form kind vals a.form b.form a.shortest b.shortest) ∙ sym b.same
