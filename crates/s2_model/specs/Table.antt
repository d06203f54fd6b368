-- A table is a list of rows with their numbers, the numbers strictly rising.
use Rattle.std.specs.Prelude.{◌≡◌, ℕ, Bool, true, false, List, [], ◌∷◌, Option, Some, None, filter, fold, not, nat_lt, if◌then◌else◌, ◌==◌}
use Rattle.std.specs.List.{list_any}
use Rattle.s2_value.specs.declared.values.Value.{Value}
use Rattle.s2_model.specs.declared.entries.Change.{Change}
use Rattle.s2_model.specs.declared.entries.Change.TheVariants.{Put, Drop}

abbrev pub RowOf : Type 0
RowOf = List Value

abbrev pub Table : Type 0
Table = List (ℕ × RowOf)

-- the row of a number, if there is one
abbrev pub row_at : Table → ℕ → Option RowOf
row_at [] n = None
row_at (p ∷ rows) n = if p.0 == n then Some p.1 else row_at rows n

-- the row takes the place of the row of its number, or goes to its place in the order
abbrev pub put_row : ℕ → RowOf → Table → Table
put_row n x [] = (n, x) ∷ []
put_row n x (p ∷ rows) =
    if nat_lt n p.0 then (n, x) ∷ p ∷ rows
    else (if n == p.0 then (n, x) ∷ rows else p ∷ put_row n x rows)

-- no row has the number any more
abbrev pub drop_row : ℕ → Table → Table
drop_row n rows = filter (λ p. not (p.0 == n)) rows

abbrev pub apply_change : Table → Change → Table
apply_change rows (Put n x) = put_row n x rows
apply_change rows (Drop n) = drop_row n rows

-- the changes in turn
abbrev pub apply : Table → List Change → Table
apply rows changes = fold apply_change rows changes

-- the row number of a change
abbrev pub number_of : Change → ℕ
number_of (Put n x) = n
number_of (Drop n) = n

-- some of the changes is of this row
abbrev pub touches : List Change → ℕ → Bool
touches changes n = list_any (λ c. number_of c == n) changes

-- the numbers rise strictly from above low
abbrev pub rises_above : ℕ → Table → Bool
rises_above low [] = true
rises_above low (p ∷ rows) = if nat_lt low p.0 then rises_above p.0 rows else false

-- the numbers rise strictly, from 1 on
abbrev pub IsTable : Table → Type 0
IsTable rows = rises_above 0 rows ≡ true
