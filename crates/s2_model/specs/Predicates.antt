-- A predicate as a tree, wherever its nodes lie in memory; it is stored as its postfix form.
use Rattle.std.specs.Prelude.{◌≡◌, ℕ, List, [], ◌∷◌, ◌++◌, refl, if◌then◌else◌, ◌==◌}
use Rattle.std.specs.Coded.{Coded, code_by, coded×, coded_list, coded_ℕ}
use Rattle.std.proofs.Common.{sym, ◌∙◌, ap}
use Rattle.std.proofs.lemmas.List.{append_assoc, append-nil}
use Rattle.s2_value.specs.declared.values.Value.{Value}
use Rattle.s2_value.specs.contracts.values.Value as value
use Rattle.s2_model.specs.declared.predicates.Op.{Op}
use Rattle.s2_model.specs.declared.predicates.Op.TheVariants.{Eq}
use Rattle.s2_model.specs.contracts.predicates.Op as op
use Rattle.s2_model.specs.declared.predicates.Pred.{Pred}
use Rattle.s2_model.specs.declared.predicates.Pred.TheVariants.{All, Cmp, OneOf, And', Or', Not'}

pub data Predicate : Type 0 where
  every_row : Predicate
  compared : (place : ℕ) (op : Op) (with : Value) → Predicate
  one_of : (place : ℕ) (values : List Value) → Predicate
  all_of : (left right : Predicate) → Predicate
  any_of : (left right : Predicate) → Predicate
  none_of : (inner : Predicate) → Predicate

-- the tree of a predicate in memory
abbrev pub predicate_of : Pred → Predicate
predicate_of All = every_row
predicate_of (Cmp c o v) = compared c o v
predicate_of (OneOf c vs) = one_of c vs
predicate_of (And' a p b q) = all_of (predicate_of p) (predicate_of q)
predicate_of (Or' a p b q) = any_of (predicate_of p) (predicate_of q)
predicate_of (Not' a p) = none_of (predicate_of p)

-- the postfix form: a node is its kind, its column, its comparison and its values

abbrev pub Node : Type 0
Node = ℕ × (ℕ × (Op × List Value))

abbrev pub postfix : Predicate → List Node
postfix every_row = (0, (0, (Eq, []))) ∷ []
postfix (compared c o v) = (1, (c, (o, v ∷ []))) ∷ []
postfix (one_of c vs) = (2, (c, (Eq, vs))) ∷ []
postfix (none_of p) = postfix p ++ (3, (0, (Eq, []))) ∷ []
postfix (all_of p q) = postfix p ++ postfix q ++ (4, (0, (Eq, []))) ∷ []
postfix (any_of p q) = postfix p ++ postfix q ++ (5, (0, (Eq, []))) ∷ []

abbrev pub compared_with : ℕ → Op → List Value → Predicate
compared_with c o [] = every_row
compared_with c o (v ∷ vs) = compared c o v

abbrev pub with_none : List Predicate → List Predicate
with_none [] = []
with_none (p ∷ made) = none_of p ∷ made

abbrev pub with_two : (Predicate → Predicate → Predicate) → List Predicate → List Predicate
with_two make (q ∷ p ∷ made) = make p q ∷ made
with_two make made = made

abbrev pub with_node : ℕ → ℕ → Op → List Value → List Predicate → List Predicate
with_node k c o vs made =
    if k == 0 then every_row ∷ made
    else if k == 1 then compared_with c o vs ∷ made
    else if k == 2 then one_of c vs ∷ made
    else if k == 3 then with_none made
    else if k == 4 then with_two all_of made
    else with_two any_of made

abbrev pub with_nodes : List Node → List Predicate → List Predicate
with_nodes [] made = made
with_nodes (n ∷ ns) made = with_nodes ns (with_node n.0 n.1.0 n.1.1.0 n.1.1.1 made)

abbrev pub first_of : List Predicate → Predicate
first_of [] = every_row
first_of (p ∷ made) = p

abbrev pub from_postfix : List Node → Predicate
from_postfix ns = first_of (with_nodes ns [])

two : (a b : List Node) (n : Node) (ns : List Node) (made : List Predicate) → with_nodes ((a ++ b ++ n ∷ []) ++ ns) made ≡ with_nodes (a ++ (b ++ n ∷ ns)) made
two a b n ns made = ap (λ (all : List Node). with_nodes all made) (append_assoc (a ++ b) (n ∷ []) ns ∙ append_assoc a b (n ∷ ns))

-- the nodes of a predicate add it
pub postfix-with : (p : Predicate) (ns : List Node) (made : List Predicate) → with_nodes (postfix p ++ ns) made ≡ with_nodes ns (p ∷ made)
postfix-with every_row ns made = refl
postfix-with (compared c o v) ns made = refl
postfix-with (one_of c vs) ns made = refl
postfix-with (none_of p) ns made =
    ap (λ (all : List Node). with_nodes all made) (append_assoc (postfix p) ((3, (0, (Eq, []))) ∷ []) ns)
    ∙ postfix-with p ((3, (0, (Eq, []))) ∷ ns) made
postfix-with (all_of p q) ns made =
    two (postfix p) (postfix q) (4, (0, (Eq, []))) ns made
    ∙ postfix-with p (postfix q ++ (4, (0, (Eq, []))) ∷ ns) made
    ∙ postfix-with q ((4, (0, (Eq, []))) ∷ ns) (p ∷ made)
postfix-with (any_of p q) ns made =
    two (postfix p) (postfix q) (5, (0, (Eq, []))) ns made
    ∙ postfix-with p (postfix q ++ (5, (0, (Eq, []))) ∷ ns) made
    ∙ postfix-with q ((5, (0, (Eq, []))) ∷ ns) (p ∷ made)

-- a predicate comes back from its postfix form
pub from-postfix : (p : Predicate) → from_postfix (postfix p) ≡ p
from-postfix p =
    ap (λ (all : List Node). first_of (with_nodes all [])) (sym (append-nil (postfix p)))
    ∙ ap first_of (postfix-with p [] [])

abbrev pub predicate_code : Coded Predicate
predicate_code =
    code_by (List Node) (coded_list (coded× coded_ℕ (coded× coded_ℕ (coded× op.the_row.coded (coded_list value.the_row.coded))))) postfix from_postfix from-postfix
