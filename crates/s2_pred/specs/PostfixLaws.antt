-- A tree comes back from its postfix form.
use Rattle.std.specs.Prelude.{◌≡◌, List, [], ◌∷◌, ◌++◌, refl}
use Rattle.std.proofs.Common.{sym, ◌∙◌, ap}
use Rattle.std.proofs.lemmas.List.{append_assoc, append-nil}
use Rattle.s2_pred.specs.declared.types.Test.{Test}
use Rattle.s2_pred.specs.declared.types.Join.{Join}
use Rattle.s2_pred.specs.declared.types.Join.TheVariants as join
use Rattle.s2_pred.specs.Trees.{Tree, leaf, negated, paren, both, either}
use Rattle.s2_pred.specs.Postfix.{tests, joins, Made, all_made, tree_of, first_tree}

abbrev with_tree : Tree → List Tree → List Test → Made
with_tree t trees xs = record { trees = t ∷ trees; left = xs }

abbrev over : List Tree → List Test → Made
over trees xs = record { trees = trees; left = xs }

regroup : (a b : List Join) (j : Join) (js : List Join) → (a ++ b ++ j ∷ []) ++ js ≡ a ++ (b ++ j ∷ js)
regroup a b j js = append_assoc (a ++ b) (j ∷ []) js ∙ append_assoc a b (j ∷ js)

two : (j : Join) (a b js : List Join) (trees : List Tree) (x y xs : List Test) → all_made ((a ++ b ++ j ∷ []) ++ js) (over trees ((x ++ y) ++ xs)) ≡ all_made (a ++ (b ++ j ∷ js)) (over trees (x ++ (y ++ xs)))
two j a b js trees x y xs =
    ap (λ (ks : List Join). all_made ks (over trees ((x ++ y) ++ xs))) (regroup a b j js)
    ∙ ap (λ (ys : List Test). all_made (a ++ (b ++ j ∷ js)) (over trees ys)) (append_assoc x y xs)

-- the joins of a tree, over its tests, add the tree
pub made-tree : (t : Tree) (js : List Join) (trees : List Tree) (xs : List Test) → all_made (joins t ++ js) (over trees (tests t ++ xs)) ≡ all_made js (with_tree t trees xs)
made-tree (leaf x) js trees xs = refl
made-tree (negated p) js trees xs =
    ap (λ (ks : List Join). all_made ks (over trees (tests p ++ xs))) (append_assoc (joins p) (join.Not ∷ []) js)
    ∙ made-tree p (join.Not ∷ js) trees xs
made-tree (paren p) js trees xs =
    ap (λ (ks : List Join). all_made ks (over trees (tests p ++ xs))) (append_assoc (joins p) (join.Paren ∷ []) js)
    ∙ made-tree p (join.Paren ∷ js) trees xs
made-tree (both p q) js trees xs = two join.And (joins p) (joins q) js trees (tests p) (tests q) xs ∙ made-tree p (joins q ++ join.And ∷ js) trees (tests q ++ xs) ∙ made-tree q (join.And ∷ js) (p ∷ trees) xs
made-tree (either p q) js trees xs = two join.Or (joins p) (joins q) js trees (tests p) (tests q) xs ∙ made-tree p (joins q ++ join.Or ∷ js) trees (tests q ++ xs) ∙ made-tree q (join.Or ∷ js) (p ∷ trees) xs

-- the postfix form of a tree is one of this tree alone
pub tree_of-tree : (t : Tree) → tree_of (joins t) (tests t) ≡ t
tree_of-tree t =
    ap (λ (ks : List Join). first_tree (all_made ks (over [] (tests t))).trees) (sym (append-nil (joins t)))
    ∙ ap (λ (ys : List Test). first_tree (all_made (joins t ++ []) (over [] ys)).trees) (sym (append-nil (tests t)))
    ∙ ap (λ (m : Made). first_tree m.trees) (made-tree t [] [] [])
