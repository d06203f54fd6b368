-- The postfix form of a tree: its tests in order of standing, and how they are joined.
use Rattle.std.specs.Prelude.{◌≡◌, List, [], ◌∷◌, ◌++◌}
use Rattle.s2_pred.specs.declared.types.Test.{Test}
use Rattle.s2_pred.specs.declared.types.Test.TheVariants.{OneOf}
use Rattle.s2_pred.specs.declared.types.Join.{Join}
use Rattle.s2_pred.specs.declared.types.Join.TheVariants as join
use Rattle.s2_pred.specs.Trees.{Tree, leaf, negated, paren, both, either}

-- the tests in order of standing
abbrev pub tests : Tree → List Test
tests (leaf x) = x ∷ []
tests (negated p) = tests p
tests (paren p) = tests p
tests (both p q) = tests p ++ tests q
tests (either p q) = tests p ++ tests q

-- each tree after its parts
abbrev pub joins : Tree → List Join
joins (leaf x) = join.Test ∷ []
joins (negated p) = joins p ++ join.Not ∷ []
joins (paren p) = joins p ++ join.Paren ∷ []
joins (both p q) = joins p ++ joins q ++ join.And ∷ []
joins (either p q) = joins p ++ joins q ++ join.Or ∷ []

-- back from the postfix form

pub record Made : Type 0 where
  pub trees : List Tree  -- the last one first
  pub left : List Test

abbrev pub with_test : List Tree → List Test → Made
with_test trees [] = record { trees = trees; left = [] }
with_test trees (x ∷ xs) = record { trees = leaf x ∷ trees; left = xs }

abbrev pub with_one : (Tree → Tree) → List Tree → List Test → Made
with_one make [] xs = record { trees = []; left = xs }
with_one make (p ∷ trees) xs = record { trees = make p ∷ trees; left = xs }

abbrev pub with_last : (Tree → Tree → Tree) → Tree → List Tree → List Test → Made
with_last make q [] xs = record { trees = q ∷ []; left = xs }
with_last make q (p ∷ trees) xs = record { trees = make p q ∷ trees; left = xs }

abbrev pub with_two : (Tree → Tree → Tree) → List Tree → List Test → Made
with_two make [] xs = record { trees = []; left = xs }
with_two make (q ∷ trees) xs = with_last make q trees xs

abbrev pub made : Join → Made → Made
made join.Test m = with_test m.trees m.left
made join.Not m = with_one negated m.trees m.left
made join.Paren m = with_one paren m.trees m.left
made join.And m = with_two both m.trees m.left
made join.Or m = with_two either m.trees m.left

abbrev pub all_made : List Join → Made → Made
all_made [] m = m
all_made (j ∷ js) m = all_made js (made j m)

abbrev pub first_tree : List Tree → Tree
first_tree [] = leaf (OneOf [] [])
first_tree (p ∷ trees) = p

-- the tree of a postfix form
abbrev pub tree_of : List Join → List Test → Tree
tree_of js xs = first_tree (all_made js (record { trees = []; left = xs })).trees

-- it is the postfix form of its tree
abbrev pub IsPostfix : List Join → List Test → Type 0
IsPostfix js xs = (joins (tree_of js xs) ≡ js) × (tests (tree_of js xs) ≡ xs)
