-- Rows as columns, and columns as rows.
use Rattle.std.specs.Prelude.{ℕ, zero, suc, ◌+◌, List, [], ◌∷◌, map, slice_index_or, pos, replicate}
use Rattle.s2_value.specs.declared.values.Value.{Value}
use Rattle.s2_value.specs.declared.values.Value.TheVariants.{Int}

abbrev pub RowOf : Type 0
RowOf = List Value

-- the values of the rows at place c
abbrev pub column : ℕ → List RowOf → List Value
column c rows = map (λ r. slice_index_or r c (Int (pos 0))) rows

-- w columns from place c on
abbrev pub columns_from : ℕ → ℕ → List RowOf → List (List Value)
columns_from c zero rows = []
columns_from c (suc w) rows = column c rows ∷ columns_from (c + 1) w rows

abbrev pub columns_of : ℕ → List RowOf → List (List Value)
columns_of w rows = columns_from 0 w rows

-- each value before its row
abbrev pub beside : List Value → List RowOf → List RowOf
beside [] rows = []
beside (v ∷ vals) [] = []
beside (v ∷ vals) (r ∷ rows) = (v ∷ r) ∷ beside vals rows

-- n rows of these columns
abbrev pub rows_of : ℕ → List (List Value) → List RowOf
rows_of n [] = replicate n []
rows_of n (vals ∷ columns) = beside vals (rows_of n columns)

-- row i of these columns
abbrev pub row_at : List (List Value) → ℕ → RowOf
row_at columns i = map (λ vals. slice_index_or vals i (Int (pos 0))) columns
