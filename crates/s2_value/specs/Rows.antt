-- Rows and keys.
use Rattle.std.specs.Prelude.{ℕ, Bool, true, false, List, [], ◌∷◌, ◌&&◌, map, slice_index_or, pos}
use Rattle.s2_value.specs.declared.values.Value.{Value}
use Rattle.s2_value.specs.declared.values.Value.TheVariants.{Int, Text}
use Rattle.s2_value.specs.declared.values.ColType.{ColType}
use Rattle.s2_value.specs.declared.values.ColType.TheVariants as kind
use Rattle.s2_value.specs.declared.schemas.Col.{Col}

-- the value is of the type
abbrev pub is_of : ColType → Value → Bool
is_of kind.Int (Int x) = true
is_of kind.Int (Text x) = false
is_of kind.Text (Int x) = false
is_of kind.Text (Text x) = true

-- as many values as columns, each of its type
abbrev pub fits_columns : List Col → List Value → Bool
fits_columns [] [] = true
fits_columns [] (v ∷ vs) = false
fits_columns (c ∷ cs) [] = false
fits_columns (c ∷ cs) (v ∷ vs) = is_of c.kind v && fits_columns cs vs

-- the row's values at the columns of a key
abbrev pub key_of : List ℕ → List Value → List Value
key_of places row = map (λ p. slice_index_or row p (Int (pos 0))) places
