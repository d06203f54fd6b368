-- The counts over the postfix form are those of the tree.
use Rattle.std.proofs.Common.{◌≡◌, sym, ◌∙◌, ap, ℕ, ◌+◌, List, [], ◌∷◌, ◌++◌, min, max, arith}
use Rattle.std.proofs.lemmas.Bool.Decides.{nat_tests}
use Rattle.std.proofs.lemmas.List.{append_assoc, append-nil}
use Rattle.s2_pred.specs.declared.types.Test.{Test}
use Rattle.s2_pred.specs.declared.types.Join.{Join}
use Rattle.s2_pred.specs.declared.types.Join.TheVariants as join
use Rattle.s2_pred.specs.Trees.{Tree, leaf, negated, paren, both, either}
use Rattle.s2_pred.specs.Postfix.{joins, tests}
use Rattle.s2_pred.specs.Measures.{nesting, comparisons, most, all_comparisons, heights, first_height}

all_comparisons-append : (xs ys : List Test) → all_comparisons (xs ++ ys) ≡ all_comparisons xs + all_comparisons ys
all_comparisons-append [] ys = omega arith
all_comparisons-append (x ∷ xs) ys = omega (arith, all_comparisons-append xs ys)

pub comparisons-tests : (t : Tree) → all_comparisons (tests t) ≡ comparisons t
comparisons-tests (leaf x) = omega arith
comparisons-tests (negated p) = comparisons-tests p
comparisons-tests (paren p) = comparisons-tests p
comparisons-tests (both p q) = omega (arith, all_comparisons-append (tests p) (tests q), comparisons-tests p, comparisons-tests q)
comparisons-tests (either p q) = omega (arith, all_comparisons-append (tests p) (tests q), comparisons-tests p, comparisons-tests q)

raise_least : (d m : ℕ) → min (min d m + 1) m ≡ min (d + 1) m
raise_least d m = grind (arith, nat_tests)

merge_least : (a b m : ℕ) → max (min a m) (min b m) ≡ min (max a b) m
merge_least a b m = grind (arith, nat_tests)

zero_least : (m : ℕ) → min 0 m ≡ 0
zero_least m = grind (arith, nat_tests)

regroup : (a b : List Join) (j : Join) (js : List Join) → (a ++ b ++ j ∷ []) ++ js ≡ a ++ (b ++ j ∷ js)
regroup a b j js = append_assoc (a ++ b) (j ∷ []) js ∙ append_assoc a b (j ∷ js)

pub heights-tree : (t : Tree) (js : List Join) (hs : List ℕ) → heights (joins t ++ js) hs ≡ heights js (min (nesting t) most ∷ hs)
heights-tree (leaf x) js hs = ap (λ (h : ℕ). heights js (h ∷ hs)) (sym (zero_least most))
heights-tree (negated p) js hs =
    ap (λ (ks : List Join). heights ks hs) (append_assoc (joins p) (join.Not ∷ []) js)
    ∙ heights-tree p (join.Not ∷ js) hs
    ∙ ap (λ (h : ℕ). heights js (h ∷ hs)) (raise_least (nesting p) most)
heights-tree (paren p) js hs =
    ap (λ (ks : List Join). heights ks hs) (append_assoc (joins p) (join.Paren ∷ []) js)
    ∙ heights-tree p (join.Paren ∷ js) hs
    ∙ ap (λ (h : ℕ). heights js (h ∷ hs)) (raise_least (nesting p) most)
heights-tree (both p q) js hs =
    ap (λ (ks : List Join). heights ks hs) (regroup (joins p) (joins q) join.And js)
    ∙ heights-tree p (joins q ++ join.And ∷ js) hs
    ∙ heights-tree q (join.And ∷ js) (min (nesting p) most ∷ hs)
    ∙ ap (λ (h : ℕ). heights js (h ∷ hs)) (merge_least (nesting p) (nesting q) most)
heights-tree (either p q) js hs =
    ap (λ (ks : List Join). heights ks hs) (regroup (joins p) (joins q) join.Or js)
    ∙ heights-tree p (joins q ++ join.Or ∷ js) hs
    ∙ heights-tree q (join.Or ∷ js) (min (nesting p) most ∷ hs)
    ∙ ap (λ (h : ℕ). heights js (h ∷ hs)) (merge_least (nesting p) (nesting q) most)

pub nesting-joins : (t : Tree) → first_height (heights (joins t) []) ≡ min (nesting t) most
nesting-joins t =
    ap (λ (js : List Join). first_height (heights js [])) (sym (append-nil (joins t))) ∙ ap first_height (heights-tree t [] [])

-- the counts of the fields of a written predicate

pub counted : (t : Tree) (xs : List Test) → tests t ≡ xs → min (all_comparisons xs) most ≡ min (comparisons t) most
counted t xs e = ap (λ (n : ℕ). min n most) (ap all_comparisons (sym e) ∙ comparisons-tests t)

pub nested : (t : Tree) (js : List Join) → joins t ≡ js → first_height (heights js []) ≡ min (nesting t) most
nested t js e = ap (λ (ks : List Join). first_height (heights ks [])) (sym e) ∙ nesting-joins t
