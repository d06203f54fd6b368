-- Lists of distinct column places, and what a schema's parts obey.
use Rattle.std.specs.Prelude.{ℕ, Bool, true, List, [], ◌∷◌, length, nat_le, nat_lt, not, ◌&&◌, ◌==◌}
use Rattle.std.specs.List.{list_any, list_all}

-- the place is among these
abbrev pub has_place : ℕ → List ℕ → Bool
has_place p places = list_any (λ q. q == p) places

-- no place stands twice: none is among those after it
abbrev pub are_distinct : List ℕ → Bool
are_distinct [] = true
are_distinct (p ∷ later) = not (has_place p later) && are_distinct later

-- between low and high, both included
abbrev pub is_between : ℕ → ℕ → ℕ → Bool
is_between low high n = nat_le low n && nat_le n high

-- each place is below the number of columns
abbrev pub are_below : ℕ → List ℕ → Bool
are_below columns places = list_all (λ p. nat_lt p columns) places

-- a key has 1 to 4 columns of the table
abbrev pub is_key : ℕ → List ℕ → Bool
is_key columns places = is_between 1 4 (length places) && are_below columns places

-- 1 to 16 columns, at most 4 unique keys and 8 indexes, and a sort key of at most 4 columns, none where there is no sort key
abbrev pub is_schema : ℕ → List (List ℕ) → List (List ℕ) → List ℕ → Bool
is_schema columns uniques indexes sort =
    is_between 1 16 columns && nat_le (length uniques) 4 && nat_le (length indexes) 8
    && list_all (is_key columns) uniques && list_all (is_key columns) indexes
    && nat_le (length sort) 4 && are_below columns sort
