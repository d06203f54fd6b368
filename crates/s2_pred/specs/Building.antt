-- Internal: the meaning over the postfix form.
use Rattle.std.specs.Prelude.{List, [], ◌∷◌, Option, Some, None}
use Rattle.s2_value.specs.declared.schemas.Col.{Col}
use Rattle.s2_pred.specs.declared.types.Test.{Test}
use Rattle.s2_pred.specs.declared.types.Join.{Join}
use Rattle.s2_pred.specs.declared.types.Join.TheVariants as join
use Rattle.s2_model.specs.Predicates.{Predicate, every_row, all_of, any_of, none_of}
use Rattle.s2_pred.specs.Meaning.{test_meaning}

pub record Building : Type 0 where
  pub built : List Predicate  -- the last one first
  pub left : List Test

abbrev pub with_leaf : Option Predicate → List Predicate → List Test → Option Building
with_leaf None ps xs = None
with_leaf (Some p) ps xs = Some (record { built = p ∷ ps; left = xs })

abbrev pub leaf_built : List Col → List Predicate → List Test → Option Building
leaf_built cols ps [] = Some (record { built = ps; left = [] })
leaf_built cols ps (x ∷ xs) = with_leaf (test_meaning cols x) ps xs

abbrev pub one_built : List Predicate → List Predicate
one_built [] = []
one_built (p ∷ ps) = none_of p ∷ ps

abbrev pub last_built : (Predicate → Predicate → Predicate) → Predicate → List Predicate → List Predicate
last_built make q [] = q ∷ []
last_built make q (p ∷ ps) = make p q ∷ ps

abbrev pub two_built : (Predicate → Predicate → Predicate) → List Predicate → List Predicate
two_built make [] = []
two_built make (q ∷ ps) = last_built make q ps

abbrev pub built : List Col → Join → Building → Option Building
built cols join.Test b = leaf_built cols b.built b.left
built cols join.Not b = Some (record { built = one_built b.built; left = b.left })
built cols join.Paren b = Some b
built cols join.And b = Some (record { built = two_built all_of b.built; left = b.left })
built cols join.Or b = Some (record { built = two_built any_of b.built; left = b.left })

-- the joins in turn, up to one that doesn't come out
abbrev pub built_on : List Col → List Join → Option Building → Option Building
built_on cols [] b = b
built_on cols (j ∷ js) None = None
built_on cols (j ∷ js) (Some b) = built_on cols js (built cols j b)

abbrev pub first_built : List Predicate → Predicate
first_built [] = every_row
first_built (p ∷ ps) = p

abbrev pub outcome : Option Building → Option Predicate
outcome None = None
outcome (Some b) = Some (first_built b.built)
