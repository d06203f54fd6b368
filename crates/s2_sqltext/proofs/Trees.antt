-- A printed predicate has the tests of the one that was written, in their order, and as many comparisons.
use Rattle.std.proofs.Common.{◌≡◌, ℕ, ◌+◌, ◌≤◌, Bool, true, false, List, [], ◌∷◌, ◌++◌, Option, Some, None, map, nat_le, nat_lt, ◌||◌, refl, sym, ap, subst, ◌∙◌, arith}
use Rattle.std.specs.Option.{option_map}
use Rattle.std.proofs.lemmas.Bool.Decides.{nat_tests}
use Rattle.s2_value.specs.declared.values.Value.{Value}
use Rattle.s2_value.specs.declared.schemas.Col.{Col}
use Rattle.s2_token.specs.declared.types.Literal.{Literal}
use Rattle.s2_model.specs.declared.predicates.Op.{Op}
use Rattle.s2_model.specs.Predicates.{Predicate, every_row, compared, one_of, all_of, any_of, none_of}
use Rattle.s2_pred.specs.declared.types.Test.{Test}
use Rattle.s2_pred.specs.declared.types.Test.TheVariants.{Compare, OneOf}
use Rattle.s2_pred.specs.Trees.{Tree, leaf, negated, paren, both, either, rank, IsGrouped}
use Rattle.s2_pred.specs.Postfix.{tests}
use Rattle.s2_pred.specs.Measures.{nesting, comparisons, all_comparisons}
use Rattle.s2_pred.specs.Meaning.{place_of, value_of, values_of, values_onto, compared_at, one_of_at, test_meaning, joined, meaning}
use Rattle.s2_pred.specs.Printing.{literal_of, wrapped, at_most, printed, IsWritten, IsPrintable, IsWritten-printable}
use Rattle.s2_line.specs.Words.{WheresFit}
use Rattle.s2_judge.specs.Kinds.{tests_in, is_large_tree}
use Rattle.s2_build.specs.Statements.{where_of}
use Rattle.s2_resolve.proofs.Lists.{neither}
use Rattle.s2_sqltext.specs.Printing.{where_line, WhereIsWritten}
use Rattle.s2_sqltext.proofs.Items.{some_is, map_join, map_length}
use Rattle.s2_sqltext.proofs.Plain.{plain, literal_back, name_back}

-- what holds of printed predicates
pub record PredLaw : Type 0 where
  pub grouped : (cols : List Col) (p : Predicate) → IsPrintable cols p → IsGrouped (printed cols p)
  pub same : (cols : List Col) (p : Predicate) → IsPrintable cols p → meaning cols (printed cols p) ≡ Some p
  pub printable : (cols : List Col) (p : Predicate) (tree : Tree) → IsGrouped tree → meaning cols tree ≡ Some p → IsPrintable cols p
  pub no_deeper : (cols : List Col) (p : Predicate) (tree : Tree) → IsGrouped tree → meaning cols tree ≡ Some p → nesting (printed cols p) ≤ nesting tree

abbrev pub plain_test : Test → Test
plain_test (Compare column o x) = Compare column o (plain x)
plain_test (OneOf column xs) = OneOf column (map plain xs)

-- ---- what a meaning came from

values_step : (x : Literal) (xs : List Literal) (m : Option Value) (ms : Option (List Value)) (vs : List Value) → value_of x ≡ m
    → ((ws : List Value) → ms ≡ Some ws → map literal_of ws ≡ map plain xs) → values_onto m ms ≡ Some vs → map literal_of vs ≡ map plain (x ∷ xs)
values_step x xs None ms vs e f g = absurd cc
values_step x xs (Some v) None vs e f g = absurd cc
values_step x xs (Some v) (Some ws) vs e f g =
    let h : v ∷ ws ≡ vs = cc in
    ap (λ zs. map literal_of zs) (sym h) ∙ ap (λ z. z ∷ map literal_of ws) (literal_back x v e) ∙ ap (λ zs. plain x ∷ zs) (f ws refl)

values_back : (xs : List Literal) (vs : List Value) → values_of xs ≡ Some vs → map literal_of vs ≡ map plain xs
values_back [] vs e = let h : [] ≡ vs = cc in ap (λ zs. map literal_of zs) (sym h)
values_back (x ∷ xs) vs e = values_step x xs (value_of x) (values_of xs) vs refl (λ ws f. values_back xs ws f) e

compared_tests : (cols : List Col) (column : List ℕ) (x : Literal) (o : Op) (c : Option ℕ) (v : Option Value) (p : Predicate) → place_of cols column ≡ c → value_of x ≡ v
    → compared_at c o v ≡ Some p → tests (printed cols p) ≡ plain_test (Compare column o x) ∷ []
compared_tests cols column x o None v p f g e = absurd cc
compared_tests cols column x o (Some c) None p f g e = absurd cc
compared_tests cols column x o (Some c) (Some w) p f g e =
    let h : compared c o w ≡ p = cc in
    ap (λ (q : Predicate). tests (printed cols q)) (sym h)
    ∙ ap (λ (n : List ℕ). Compare n o (literal_of w) ∷ []) (name_back cols column c f)
    ∙ ap (λ (y : Literal). Compare column o y ∷ []) (literal_back x w g)

one_of_tests : (cols : List Col) (column : List ℕ) (xs : List Literal) (c : Option ℕ) (vs : Option (List Value)) (p : Predicate) → place_of cols column ≡ c → values_of xs ≡ vs
    → one_of_at c vs ≡ Some p → tests (printed cols p) ≡ plain_test (OneOf column xs) ∷ []
one_of_tests cols column xs None vs p f g e = absurd cc
one_of_tests cols column xs (Some c) None p f g e = absurd cc
one_of_tests cols column xs (Some c) (Some ws) p f g e =
    let h : one_of c ws ≡ p = cc in
    ap (λ (q : Predicate). tests (printed cols q)) (sym h)
    ∙ ap (λ (n : List ℕ). OneOf n (map literal_of ws) ∷ []) (name_back cols column c f)
    ∙ ap (λ (ys : List Literal). OneOf column ys ∷ []) (values_back xs ws g)

test_tests : (cols : List Col) (x : Test) (p : Predicate) → test_meaning cols x ≡ Some p → tests (printed cols p) ≡ plain_test x ∷ []
test_tests cols (Compare column o x) p e = compared_tests cols column x o (place_of cols column) (value_of x) p refl refl e
test_tests cols (OneOf column xs) p e = one_of_tests cols column xs (place_of cols column) (values_of xs) p refl refl e

record Sides (make : Predicate → Predicate → Predicate) (m n : Option Predicate) (p : Predicate) : Type 0 where
  left : Predicate
  right : Predicate
  left_is : m ≡ Some left
  right_is : n ≡ Some right
  is : p ≡ make left right

sides : (make : Predicate → Predicate → Predicate) (m n : Option Predicate) (p : Predicate) → joined make m n ≡ Some p → Sides make m n p
sides make None n p e = absurd cc
sides make (Some a) None p e = absurd cc
sides make (Some a) (Some b) p e = record { left = a; right = b; left_is = refl; right_is = refl; is = cc }

record Inner (m : Option Predicate) (p : Predicate) : Type 0 where
  inside : Predicate
  inside_is : m ≡ Some inside
  is : p ≡ none_of inside

inner : (m : Option Predicate) (p : Predicate) → option_map none_of m ≡ Some p → Inner m p
inner None p e = absurd cc
inner (Some a) p e = record { inside = a; inside_is = refl; is = cc }

-- ---- the tests

wrapped_tests : (b : Bool) (t : Tree) → tests (wrapped b t) ≡ tests t
wrapped_tests true t = refl
wrapped_tests false t = refl

side_tests : (n : ℕ) (t : Tree) → tests (at_most n t) ≡ tests t
side_tests n t = wrapped_tests (nat_le (rank t) n) t

joined_tests : (a b c d : List Test) (s t : List Test) → a ≡ c → b ≡ d → c ≡ map plain_test s → d ≡ map plain_test t → a ++ b ≡ map plain_test (s ++ t)
joined_tests a b c d s t e f g h = ap (λ x. x ++ b) (e ∙ g) ∙ ap (λ x. map plain_test s ++ x) (f ∙ h) ∙ sym (map_join plain_test s t)

pub tests_back : (cols : List Col) (t : Tree) (p : Predicate) → meaning cols t ≡ Some p → tests (printed cols p) ≡ map plain_test (tests t)
tests_back cols (leaf x) p e = test_tests cols x p e
tests_back cols (negated t) p e =
    let k = inner (meaning cols t) p e in
    ap (λ (q : Predicate). tests (printed cols q)) k.is ∙ side_tests 0 (printed cols k.inside) ∙ tests_back cols t k.inside k.inside_is
tests_back cols (paren t) p e = tests_back cols t p e
tests_back cols (both t u) p e =
    let k = sides all_of (meaning cols t) (meaning cols u) p e in
    ap (λ (q : Predicate). tests (printed cols q)) k.is
    ∙ joined_tests (tests (at_most 1 (printed cols k.left))) (tests (at_most 0 (printed cols k.right))) (tests (printed cols k.left)) (tests (printed cols k.right)) (tests t) (tests u)
    (side_tests 1 (printed cols k.left)) (side_tests 0 (printed cols k.right)) (tests_back cols t k.left k.left_is) (tests_back cols u k.right k.right_is)
tests_back cols (either t u) p e =
    let k = sides any_of (meaning cols t) (meaning cols u) p e in
    ap (λ (q : Predicate). tests (printed cols q)) k.is
    ∙ joined_tests (tests (printed cols k.left)) (tests (at_most 1 (printed cols k.right))) (tests (printed cols k.left)) (tests (printed cols k.right)) (tests t) (tests u)
    refl (side_tests 1 (printed cols k.right)) (tests_back cols t k.left k.left_is) (tests_back cols u k.right k.right_is)

-- ---- as many comparisons

all_comparisons-append : (xs ys : List Test) → all_comparisons (xs ++ ys) ≡ all_comparisons xs + all_comparisons ys
all_comparisons-append [] ys = omega arith
all_comparisons-append (x ∷ xs) ys = omega (arith, all_comparisons-append xs ys)

comparisons-tests : (t : Tree) → all_comparisons (tests t) ≡ comparisons t
comparisons-tests (leaf x) = omega arith
comparisons-tests (negated p) = comparisons-tests p
comparisons-tests (paren p) = comparisons-tests p
comparisons-tests (both p q) = omega (arith, all_comparisons-append (tests p) (tests q), comparisons-tests p, comparisons-tests q)
comparisons-tests (either p q) = omega (arith, all_comparisons-append (tests p) (tests q), comparisons-tests p, comparisons-tests q)

plain_comparisons : (xs : List Test) → all_comparisons (map plain_test xs) ≡ all_comparisons xs
plain_comparisons [] = refl
plain_comparisons (Compare column o x ∷ xs) = ap (λ (n : ℕ). 1 + n) (plain_comparisons xs)
plain_comparisons (OneOf column ys ∷ xs) = omega (arith, map_length plain ys, plain_comparisons xs)

as_many : (cols : List Col) (t : Tree) (p : Predicate) → meaning cols t ≡ Some p → comparisons (printed cols p) ≡ comparisons t
as_many cols t p e = sym (comparisons-tests (printed cols p)) ∙ ap all_comparisons (tests_back cols t p e) ∙ plain_comparisons (tests t) ∙ comparisons-tests t

-- ---- the predicate of a statement

some_line : (cols : List Col) (p : Predicate) → IsPrintable cols p → where_line cols p ≡ Some (printed cols p)
some_line cols every_row h = absurd h
some_line cols (compared c o v) h = refl
some_line cols (one_of c vs) h = refl
some_line cols (all_of p q) h = refl
some_line cols (any_of p q) h = refl
some_line cols (none_of p) h = refl

some_written : (p : Predicate) → IsWritten p → WhereIsWritten p
some_written every_row h = tt
some_written (compared c o v) h = h
some_written (one_of c vs) h = h
some_written (all_of p q) h = h
some_written (any_of p q) h = h
some_written (none_of p) h = h

pub record PlainWhere (cols : List Col) (wheres : Option Tree) (pred : Predicate) : Type 0 where
  pub same_tests : tests_in (where_line cols pred) ≡ map plain_test (tests_in wheres)
  pub means : where_of cols (where_line cols pred) ≡ Some pred
  pub fits : WheresFit IsGrouped (where_line cols pred)
  pub small : is_large_tree wheres ≡ false → is_large_tree (where_line cols pred) ≡ false
  pub written : WhereIsWritten pred

no_larger : (a b c d : ℕ) → a ≡ c → b ≤ d → (nat_lt 64 c || nat_lt 16 d) ≡ false → (nat_lt 64 a || nat_lt 16 b) ≡ false
no_larger a b c d e f h =
    let p = neither (nat_lt 64 c) (nat_lt 16 d) h in
    let many : nat_lt 64 a ≡ false = ap (λ (n : ℕ). nat_lt 64 n) e ∙ p.0 in
    let deep : nat_lt 16 b ≡ false = grind (arith, nat_tests, p.1) in
    rw (many, deep) refl

tree_where : PredLaw → (cols : List Col) (t : Tree) (p : Predicate) → IsGrouped t → meaning cols t ≡ Some p → PlainWhere cols (Some t) p
tree_where law cols t p g e =
    let ok = law.printable cols p t g e in
    let is = some_line cols p ok in
    record {
      same_tests = ap (λ (w : Option Tree). tests_in w) is ∙ tests_back cols t p e;
      means = ap (λ (w : Option Tree). where_of cols w) is ∙ law.same cols p ok;
      fits = subst (λ (w : Option Tree). WheresFit IsGrouped w) (sym is) (law.grouped cols p ok);
      small = λ h. ap (λ (w : Option Tree). is_large_tree w) is ∙ no_larger (comparisons (printed cols p)) (nesting (printed cols p)) (comparisons t) (nesting t) (as_many cols t p e) (law.no_deeper cols p t g e) h;
      written = some_written p (IsWritten-printable cols p ok);
    }

all_rows : (cols : List Col) → PlainWhere cols None every_row
all_rows cols = record { same_tests = refl; means = refl; fits = tt; small = λ h. refl; written = tt }

pub plain_where : PredLaw → (cols : List Col) (wheres : Option Tree) (pred : Predicate) → WheresFit IsGrouped wheres → where_of cols wheres ≡ Some pred → PlainWhere cols wheres pred
plain_where law cols None pred g e = subst (λ (p : Predicate). PlainWhere cols None p) (some_is every_row pred e) (all_rows cols)
plain_where law cols (Some t) pred g e = tree_where law cols t pred g e
