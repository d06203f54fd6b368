-- A schema's keys, and the rows that fit it.
use Rattle.std.specs.Prelude.{ℕ, Bool, List, [], ◌++◌, slice_index_or}
use Rattle.s2_value.specs.declared.values.Value.{Value}
use Rattle.s2_value.specs.declared.schemas.Schema.{Schema}
use Rattle.s2_value.specs.Rows.{fits_columns, key_of}

-- unique keys, then indexes, each the list of its columns
abbrev pub keys_of : Schema → List (List ℕ)
keys_of schema = schema.uniques ++ schema.indexes

-- the row has one value of the right type per column
abbrev pub fits : Schema → List Value → Bool
fits schema row = fits_columns schema.cols row

-- the row's values at the columns of key j, from 0
abbrev pub key : Schema → ℕ → List Value → List Value
key schema j row = key_of (slice_index_or (keys_of schema) j []) row
