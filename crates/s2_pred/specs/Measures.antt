-- How deep a predicate nests, and how many comparisons it has.
use Rattle.std.specs.Prelude.{ℕ, ◌+◌, ◌-◌, ◌^◌, List, [], ◌∷◌, length, min, max}
use Rattle.s2_pred.specs.declared.types.Test.{Test}
use Rattle.s2_pred.specs.declared.types.Test.TheVariants.{Compare, OneOf}
use Rattle.s2_pred.specs.declared.types.Join.{Join}
use Rattle.s2_pred.specs.declared.types.Join.TheVariants as join
use Rattle.s2_pred.specs.Trees.{Tree, leaf, negated, paren, both, either}

-- how many NOTs and written parentheses are open at once at most; those of an IN don't count
abbrev pub nesting : Tree → ℕ
nesting (leaf x) = 0
nesting (negated p) = nesting p + 1
nesting (paren p) = nesting p + 1
nesting (both p q) = max (nesting p) (nesting q)
nesting (either p q) = max (nesting p) (nesting q)

-- an IN has one for each of its values
abbrev pub test_comparisons : Test → ℕ
test_comparisons (Compare column op literal) = 1
test_comparisons (OneOf column literals) = length literals

abbrev pub comparisons : Tree → ℕ
comparisons (leaf x) = test_comparisons x
comparisons (negated p) = comparisons p
comparisons (paren p) = comparisons p
comparisons (both p q) = comparisons p + comparisons q
comparisons (either p q) = comparisons p + comparisons q

-- the greatest number that the counts tell
abbrev pub most : ℕ
most = 2 ^ 64 - 1

-- the counts as the code has them, over the postfix form

abbrev pub all_comparisons : List Test → ℕ
all_comparisons [] = 0
all_comparisons (x ∷ xs) = test_comparisons x + all_comparisons xs

abbrev pub raised : List ℕ → List ℕ
raised [] = []
raised (h ∷ hs) = min (h + 1) most ∷ hs

abbrev pub merged_with : ℕ → List ℕ → List ℕ
merged_with b [] = b ∷ []
merged_with b (a ∷ hs) = max a b ∷ hs

abbrev pub merged : List ℕ → List ℕ
merged [] = []
merged (b ∷ hs) = merged_with b hs

abbrev pub height : Join → List ℕ → List ℕ
height join.Test hs = 0 ∷ hs
height join.Not hs = raised hs
height join.Paren hs = raised hs
height join.And hs = merged hs
height join.Or hs = merged hs

abbrev pub heights : List Join → List ℕ → List ℕ
heights [] hs = hs
heights (j ∷ js) hs = heights js (height j hs)

abbrev pub first_height : List ℕ → ℕ
first_height [] = 0
first_height (h ∷ hs) = h
