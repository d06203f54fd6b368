-- What is built from the postfix form is the meaning of the tree.
use Rattle.std.proofs.Common.{◌≡◌, refl, sym, ◌∙◌, ap, List, [], ◌∷◌, ◌++◌, Option, Some, None}
use Rattle.std.specs.Option.{option_map}
use Rattle.std.proofs.lemmas.List.{append_assoc, append-nil}
use Rattle.s2_value.specs.declared.schemas.Col.{Col}
use Rattle.s2_pred.specs.declared.types.Test.{Test}
use Rattle.s2_pred.specs.declared.types.Join.{Join}
use Rattle.s2_pred.specs.declared.types.Join.TheVariants as join
use Rattle.s2_pred.specs.Trees.{Tree, leaf, negated, paren, both, either}
use Rattle.s2_pred.specs.Postfix.{joins, tests}
use Rattle.s2_model.specs.Predicates.{Predicate, all_of, any_of, none_of}
use Rattle.s2_pred.specs.Meaning.{meaning, joined}
use Rattle.s2_pred.specs.Building.{Building, with_leaf, built_on, outcome}

abbrev over : List Predicate → List Test → Option Building
over ps xs = Some (record { built = ps; left = xs })

pub none_stays : (cols : List Col) (js : List Join) → built_on cols js None ≡ None
none_stays cols [] = refl
none_stays cols (j ∷ js) = refl

regroup : (a b : List Join) (j : Join) (js : List Join) → (a ++ b ++ j ∷ []) ++ js ≡ a ++ (b ++ j ∷ js)
regroup a b j js = append_assoc (a ++ b) (j ∷ []) js ∙ append_assoc a b (j ∷ js)

two : (cols : List Col) (j : Join) (a b js : List Join) (ps : List Predicate) (x y xs : List Test) → built_on cols ((a ++ b ++ j ∷ []) ++ js) (over ps ((x ++ y) ++ xs)) ≡ built_on cols (a ++ (b ++ j ∷ js)) (over ps (x ++ (y ++ xs)))
two cols j a b js ps x y xs =
    ap (λ (ks : List Join). built_on cols ks (over ps ((x ++ y) ++ xs))) (regroup a b j js)
    ∙ ap (λ (ys : List Test). built_on cols (a ++ (b ++ j ∷ js)) (over ps ys)) (append_assoc x y xs)

not_built : (cols : List Col) (js : List Join) (m : Option Predicate) (ps : List Predicate) (xs : List Test) → built_on cols (join.Not ∷ js) (with_leaf m ps xs) ≡ built_on cols js (with_leaf (option_map none_of m) ps xs)
not_built cols js None ps xs = sym (none_stays cols js)
not_built cols js (Some p) ps xs = refl

paren_built : (cols : List Col) (js : List Join) (m : Option Predicate) (ps : List Predicate) (xs : List Test) → built_on cols (join.Paren ∷ js) (with_leaf m ps xs) ≡ built_on cols js (with_leaf m ps xs)
paren_built cols js None ps xs = sym (none_stays cols js)
paren_built cols js (Some p) ps xs = refl

and_last : (cols : List Col) (js : List Join) (a : Predicate) (m : Option Predicate) (ps : List Predicate) (xs : List Test) → built_on cols (join.And ∷ js) (with_leaf m (a ∷ ps) xs) ≡ built_on cols js (with_leaf (joined all_of (Some a) m) ps xs)
and_last cols js a None ps xs = sym (none_stays cols js)
and_last cols js a (Some b) ps xs = refl

or_last : (cols : List Col) (js : List Join) (a : Predicate) (m : Option Predicate) (ps : List Predicate) (xs : List Test) → built_on cols (join.Or ∷ js) (with_leaf m (a ∷ ps) xs) ≡ built_on cols js (with_leaf (joined any_of (Some a) m) ps xs)
or_last cols js a None ps xs = sym (none_stays cols js)
or_last cols js a (Some b) ps xs = refl

abbrev Builds : List Col → Tree → Type 0
Builds cols t = (js : List Join) (ps : List Predicate) (xs : List Test) → built_on cols (joins t ++ js) (over ps (tests t ++ xs)) ≡ built_on cols js (with_leaf (meaning cols t) ps xs)

and_built : (cols : List Col) (q : Tree) → Builds cols q → (js : List Join) (m : Option Predicate) (ps : List Predicate) (xs : List Test) → built_on cols (joins q ++ join.And ∷ js) (with_leaf m ps (tests q ++ xs)) ≡ built_on cols js (with_leaf (joined all_of m (meaning cols q)) ps xs)
and_built cols q f js None ps xs = none_stays cols (joins q ++ join.And ∷ js) ∙ sym (none_stays cols js)
and_built cols q f js (Some a) ps xs = f (join.And ∷ js) (a ∷ ps) xs ∙ and_last cols js a (meaning cols q) ps xs

or_built : (cols : List Col) (q : Tree) → Builds cols q → (js : List Join) (m : Option Predicate) (ps : List Predicate) (xs : List Test) → built_on cols (joins q ++ join.Or ∷ js) (with_leaf m ps (tests q ++ xs)) ≡ built_on cols js (with_leaf (joined any_of m (meaning cols q)) ps xs)
or_built cols q f js None ps xs = none_stays cols (joins q ++ join.Or ∷ js) ∙ sym (none_stays cols js)
or_built cols q f js (Some a) ps xs = f (join.Or ∷ js) (a ∷ ps) xs ∙ or_last cols js a (meaning cols q) ps xs

pub builds : (cols : List Col) (t : Tree) → Builds cols t
builds cols (leaf x) js ps xs = refl
builds cols (negated p) js ps xs =
    ap (λ (ks : List Join). built_on cols ks (over ps (tests p ++ xs))) (append_assoc (joins p) (join.Not ∷ []) js)
    ∙ builds cols p (join.Not ∷ js) ps xs
    ∙ not_built cols js (meaning cols p) ps xs
builds cols (paren p) js ps xs =
    ap (λ (ks : List Join). built_on cols ks (over ps (tests p ++ xs))) (append_assoc (joins p) (join.Paren ∷ []) js)
    ∙ builds cols p (join.Paren ∷ js) ps xs
    ∙ paren_built cols js (meaning cols p) ps xs
builds cols (both p q) js ps xs =
    two cols join.And (joins p) (joins q) js ps (tests p) (tests q) xs
    ∙ builds cols p (joins q ++ join.And ∷ js) ps (tests q ++ xs)
    ∙ and_built cols q (builds cols q) js (meaning cols p) ps xs
builds cols (either p q) js ps xs =
    two cols join.Or (joins p) (joins q) js ps (tests p) (tests q) xs
    ∙ builds cols p (joins q ++ join.Or ∷ js) ps (tests q ++ xs)
    ∙ or_built cols q (builds cols q) js (meaning cols p) ps xs

one_leaf : (m : Option Predicate) → outcome (with_leaf m [] []) ≡ m
one_leaf None = refl
one_leaf (Some p) = refl

abbrev made_of : List Col → List Join → List Test → Option Predicate
made_of cols js xs = outcome (built_on cols js (over [] xs))

pub meaning-built : (cols : List Col) (t : Tree) → made_of cols (joins t) (tests t) ≡ meaning cols t
meaning-built cols t =
    ap (λ (js : List Join). made_of cols js (tests t)) (sym (append-nil (joins t)))
    ∙ ap (λ (xs : List Test). made_of cols (joins t ++ []) xs) (sym (append-nil (tests t)))
    ∙ ap outcome (builds cols t [] [] [])
    ∙ one_leaf (meaning cols t)

-- of the fields of a written predicate
pub built-fields : (cols : List Col) (t : Tree) (js : List Join) (xs : List Test) → joins t ≡ js → tests t ≡ xs → meaning cols t ≡ made_of cols js xs
built-fields cols t js xs e f =
    sym (meaning-built cols t)
    ∙ ap (λ (ks : List Join). made_of cols ks (tests t)) e
    ∙ ap (λ (ys : List Test). made_of cols js ys) f
