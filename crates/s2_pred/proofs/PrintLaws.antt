-- What is printed is grouped, means the same, and nests no deeper than any text of the same meaning.
use Rattle.std.proofs.Common.{◌≡◌, refl, ◌∙◌, ap, ℕ, ◌+◌, ◌≤◌, Bool, true, false, List, [], ◌∷◌, Option, Some, None, length, map, max, nat_le, arith}
use Rattle.std.specs.Option.{option_map}
use Rattle.std.proofs.lemmas.Bool.Decides.{nat_tests}
use Rattle.s2_value.specs.declared.values.Value.{Value}
use Rattle.s2_value.specs.declared.schemas.Col.{Col}
use Rattle.s2_model.specs.declared.predicates.Op.{Op}
use Rattle.s2_pred.specs.declared.types.Test.{Test}
use Rattle.s2_pred.specs.declared.types.Test.TheVariants.{Compare, OneOf}
use Rattle.s2_pred.specs.Trees.{Tree, leaf, negated, paren, both, either, rank, IsGrouped}
use Rattle.s2_pred.specs.Measures.{nesting}
use Rattle.s2_model.specs.Predicates.{Predicate, every_row, compared, one_of, all_of, any_of, none_of}
use Rattle.s2_pred.specs.Meaning.{place_of, value_of, values_of, values_onto, compared_at, one_of_at, test_meaning, joined, meaning}
use Rattle.s2_pred.specs.Printing.{literal_of, wrapped, at_most, printed, AreLiterals, IsPrintable}

le_true : (a b : ℕ) → a ≤ b → nat_le a b ≡ true
le_true a b h = grind (arith, nat_tests)

le_from : (a b : ℕ) → nat_le a b ≡ true → a ≤ b
le_from a b h = grind (arith, nat_tests)

pub low : (n : ℕ) (t : Tree) → rank t ≤ n → at_most n t ≡ t
low n t h = ap (λ (b : Bool). wrapped b t) (le_true (rank t) n h)

rank_two : (t : Tree) → rank t ≤ 2
rank_two (leaf x) = omega arith
rank_two (negated p) = omega arith
rank_two (paren p) = omega arith
rank_two (both p q) = omega arith
rank_two (either p q) = omega arith

-- grouped

record Side (n : ℕ) (t : Tree) : Type 0 where
  grouped : IsGrouped t
  small : rank t ≤ n

by_test : (n : ℕ) (t : Tree) (b : Bool) → nat_le (rank t) n ≡ b → IsGrouped t → Side n (wrapped b t)
by_test n t true e g = record { grouped = g; small = le_from (rank t) n e }
by_test n t false e g = record { grouped = g; small = omega arith }

side : (n : ℕ) (t : Tree) → IsGrouped t → Side n (at_most n t)
side n t g = by_test n t (nat_le (rank t) n) refl g

length-map : (vs : List Value) → length (map literal_of vs) ≡ length vs
length-map [] = refl
length-map (v ∷ vs) = omega (arith, length-map vs)

pub grouped : (cols : List Col) (p : Predicate) → IsPrintable cols p → IsGrouped (printed cols p)
grouped cols every_row h = absurd h
grouped cols (compared c o v) h = tt
grouped cols (one_of c vs) h = omega (arith, length-map vs, h.2)
grouped cols (all_of p q) h =
    let a = side 1 (printed cols p) (grouped cols p h.0) in
    let b = side 0 (printed cols q) (grouped cols q h.1) in
    (a.grouped, a.small, b.grouped, b.small)
grouped cols (any_of p q) h =
    let b = side 1 (printed cols q) (grouped cols q h.1) in
    (grouped cols p h.0, b.grouped, b.small)
grouped cols (none_of p) h = let a = side 0 (printed cols p) (grouped cols p h) in (a.grouped, a.small)

-- the same meaning

wrapped_means : (cols : List Col) (b : Bool) (t : Tree) → meaning cols (wrapped b t) ≡ meaning cols t
wrapped_means cols true t = refl
wrapped_means cols false t = refl

side_means : (cols : List Col) (n : ℕ) (t : Tree) (p : Predicate) → meaning cols t ≡ Some p → meaning cols (at_most n t) ≡ Some p
side_means cols n t p e = wrapped_means cols (nat_le (rank t) n) t ∙ e

literals_mean : (vs : List Value) → AreLiterals vs → values_of (map literal_of vs) ≡ Some vs
literals_mean [] h = refl
literals_mean (v ∷ vs) h = ap (λ (o : Option Value). values_onto o (values_of (map literal_of vs))) h.0 ∙ ap (λ (o : Option (List Value)). values_onto (Some v) o) (literals_mean vs h.1)

joined_means : (make : Predicate → Predicate → Predicate) (m n : Option Predicate) (p q : Predicate) → m ≡ Some p → n ≡ Some q → joined make m n ≡ Some (make p q)
joined_means make m n p q e f = ap (λ (o : Option Predicate). joined make o n) e ∙ ap (λ (o : Option Predicate). joined make (Some p) o) f

pub means : (cols : List Col) (p : Predicate) → IsPrintable cols p → meaning cols (printed cols p) ≡ Some p
means cols every_row h = absurd h
means cols (compared c o v) h =
    ap (λ (k : Option ℕ). compared_at k o (value_of (literal_of v))) h.0 ∙ ap (λ (w : Option Value). compared_at (Some c) o w) h.1
means cols (one_of c vs) h =
    ap (λ (k : Option ℕ). one_of_at k (values_of (map literal_of vs))) h.0 ∙ ap (λ (ws : Option (List Value)). one_of_at (Some c) ws) (literals_mean vs h.1)
means cols (all_of p q) h =
    joined_means all_of _ _ p q (side_means cols 1 (printed cols p) p (means cols p h.0)) (side_means cols 0 (printed cols q) q (means cols q h.1))
means cols (any_of p q) h =
    joined_means any_of _ _ p q (means cols p h.0) (side_means cols 1 (printed cols q) q (means cols q h.1))
means cols (none_of p) h = ap (λ (o : Option Predicate). option_map none_of o) (side_means cols 0 (printed cols p) p (means cols p h))

-- no deeper

record IsLeaf (t : Tree) : Type 0 where
  rank_is : rank t ≡ 0
  nesting_is : nesting t ≡ 0

compared_leaf : (cols : List Col) (c : Option ℕ) (o : Op) (v : Option Value) (p : Predicate) → compared_at c o v ≡ Some p → IsLeaf (printed cols p)
compared_leaf cols None o v p e = absurd (cc)
compared_leaf cols (Some c) o None p e = absurd (cc)
compared_leaf cols (Some c) o (Some w) p e = let f : compared c o w ≡ p = cc in rw (← f) (record { rank_is = refl; nesting_is = refl })

one_of_leaf : (cols : List Col) (c : Option ℕ) (vs : Option (List Value)) (p : Predicate) → one_of_at c vs ≡ Some p → IsLeaf (printed cols p)
one_of_leaf cols None vs p e = absurd (cc)
one_of_leaf cols (Some c) None p e = absurd (cc)
one_of_leaf cols (Some c) (Some ws) p e = let f : one_of c ws ≡ p = cc in rw (← f) (record { rank_is = refl; nesting_is = refl })

test_leaf : (cols : List Col) (x : Test) (p : Predicate) → test_meaning cols x ≡ Some p → IsLeaf (printed cols p)
test_leaf cols (Compare column o x) p e = compared_leaf cols (place_of cols column) o (value_of x) p e
test_leaf cols (OneOf column xs) p e = one_of_leaf cols (place_of cols column) (values_of xs) p e

-- what two sides mean
pub record Sides (make : Predicate → Predicate → Predicate) (m n : Option Predicate) (p : Predicate) : Type 0 where
  pub left : Predicate
  pub right : Predicate
  pub left_is : m ≡ Some left
  pub right_is : n ≡ Some right
  pub is : p ≡ make left right

pub sides : (make : Predicate → Predicate → Predicate) (m n : Option Predicate) (p : Predicate) → joined make m n ≡ Some p → Sides make m n p
sides make None n p e = absurd (cc)
sides make (Some a) None p e = absurd (cc)
sides make (Some a) (Some b) p e = record { left = a; right = b; left_is = refl; right_is = refl; is = cc }

pub record Inner (m : Option Predicate) (p : Predicate) : Type 0 where
  pub inside : Predicate
  pub inside_is : m ≡ Some inside
  pub is : p ≡ none_of inside

pub inner : (m : Option Predicate) (p : Predicate) → option_map none_of m ≡ Some p → Inner m p
inner None p e = absurd (cc)
inner (Some a) p e = record { inside = a; inside_is = refl; is = cc }

wrapped_nests : (b : Bool) (t : Tree) → nesting (wrapped b t) ≤ nesting t + 1
wrapped_nests true t = omega arith
wrapped_nests false t = omega arith

abbrev Shallow : List Col → Tree → Type 0
Shallow cols t = (p : Predicate) → meaning cols t ≡ Some p → (n : ℕ) → rank t ≤ n → nesting (at_most n (printed cols p)) ≤ nesting t

low_nests : (n m : ℕ) (t : Tree) → rank t ≤ n → nesting t ≤ m → nesting (at_most n t) ≤ m
low_nests n m t r h = rw (low n t r) h

max_least : (a b c d : ℕ) → a ≤ c → b ≤ d → max a b ≤ max c d
max_least a b c d h k = grind (arith, nat_tests)

leaf_shallow : (cols : List Col) (x : Test) → Shallow cols (leaf x)
leaf_shallow cols x p e n r = let k = test_leaf cols x p e in low_nests n 0 (printed cols p) (omega (arith, k.rank_is)) (omega (arith, k.nesting_is))

negated_shallow : (cols : List Col) (t : Tree) → Shallow cols t → rank t ≤ 0 → Shallow cols (negated t)
negated_shallow cols t f g p e n r =
    let k = inner (meaning cols t) p e in
    rw k.is (low_nests n (nesting t + 1) (printed cols (none_of k.inside)) (omega arith) (omega (arith, f k.inside k.inside_is 0 g)))

plain_nests : (cols : List Col) (t : Tree) → Shallow cols t → (p : Predicate) → meaning cols t ≡ Some p → nesting (printed cols p) ≤ nesting t
plain_nests cols t f p e = rw (low 2 (printed cols p) (rank_two (printed cols p))) at (f p e 2 (rank_two t))

paren_shallow : (cols : List Col) (t : Tree) → Shallow cols t → Shallow cols (paren t)
paren_shallow cols t f p e n r =
    omega (arith, wrapped_nests (nat_le (rank (printed cols p)) n) (printed cols p), plain_nests cols t f p e)

both_shallow : (cols : List Col) (t u : Tree) → Shallow cols t → Shallow cols u → rank t ≤ 1 → rank u ≤ 0 → Shallow cols (both t u)
both_shallow cols t u f g rt ru p e n r =
    let k = sides all_of (meaning cols t) (meaning cols u) p e in
    rw k.is (low_nests n (max (nesting t) (nesting u)) (printed cols (all_of k.left k.right)) r
    (max_least _ _ _ _ (f k.left k.left_is 1 rt) (g k.right k.right_is 0 ru)))

either_shallow : (cols : List Col) (t u : Tree) → Shallow cols t → Shallow cols u → rank u ≤ 1 → Shallow cols (either t u)
either_shallow cols t u f g ru p e n r =
    let k = sides any_of (meaning cols t) (meaning cols u) p e in
    rw k.is (low_nests n (max (nesting t) (nesting u)) (printed cols (any_of k.left k.right)) r
    (max_least _ _ _ _ (plain_nests cols t f k.left k.left_is) (g k.right k.right_is 1 ru)))

shallow : (cols : List Col) (t : Tree) → IsGrouped t → Shallow cols t
shallow cols (leaf x) g = leaf_shallow cols x
shallow cols (negated t) g = negated_shallow cols t (shallow cols t g.0) g.1
shallow cols (paren t) g = paren_shallow cols t (shallow cols t g)
shallow cols (both t u) g = both_shallow cols t u (shallow cols t g.0) (shallow cols u g.2) g.1 g.3
shallow cols (either t u) g = either_shallow cols t u (shallow cols t g.0) (shallow cols u g.1) g.2

pub no_deeper : (cols : List Col) (t : Tree) (p : Predicate) → IsGrouped t → meaning cols t ≡ Some p → nesting (printed cols p) ≤ nesting t
no_deeper cols t p g e = plain_nests cols t (shallow cols t g) p e
