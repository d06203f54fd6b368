-- A dictionary of values, and the values that codes stand for.
use Rattle.std.specs.Prelude.{◌≡◌, ℕ, List, [], ◌∷◌, ◌++◌, map, fold, slice_index_or, pos, if◌then◌else◌}
use Rattle.std.specs.List.{list_any}
use Rattle.s2_value.specs.declared.values.Value.{Value}
use Rattle.s2_value.specs.declared.values.Value.TheVariants.{Int}
use Rattle.s2_value.specs.Order.{value_eq}

-- with the value at the end, unless it is there
abbrev pub with_value : List Value → Value → List Value
with_value dict v = if list_any (value_eq v) dict then dict else dict ++ v ∷ []

-- the distinct values in the order of their first appearance
abbrev pub dictionary_of : List Value → List Value
dictionary_of vals = fold with_value [] vals

-- the values of the codes
abbrev pub decoded : List Value → List ℕ → List Value
decoded dict codes = map (λ c. slice_index_or dict c (Int (pos 0))) codes
