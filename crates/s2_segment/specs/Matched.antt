-- Index blocks that are judged by a look at each offset.
use Rattle.std.specs.Prelude.{◌≡◌, ℕ, ◌+◌, Bool, true, ◌&&◌, nat_lt, List, [], ◌∷◌, length, map, slice_index_or}
use Rattle.std.specs.List.{list_all}
use Rattle.std.specs.Ordering.{is_eq}
use Rattle.s2_value.specs.declared.values.Value.{Value}
use Rattle.s2_value.specs.Order.{row_cmp}
use Rattle.s2_value.specs.Rows.{key_of}
use Rattle.s2_segindex.specs.Groups.{Group}
use Rattle.s2_segindex.specs.Blocks.{are_offsets}
use Rattle.s2_segindex.specs.Places.{groups_in, IsIndex}
use Rattle.s2_segindex.specs.Spells.{block_of}
use Rattle.s2_segment.specs.Rows.{RowOf}

-- there is a row at the place, and it has the key
abbrev pub has_key : List RowOf → List ℕ → List Value → ℕ → Bool
has_key rows places key o = nat_lt o (length rows) && is_eq (row_cmp (key_of places (slice_index_or rows o [])) key)

-- each offset of the group is of a row that has the group's key
abbrev pub is_matched : List RowOf → List ℕ → Group → Bool
is_matched rows places group = list_all (has_key rows places group.0) group.1

-- how many offsets the groups have
abbrev pub offsets_many : List Group → ℕ
offsets_many [] = 0
offsets_many (g ∷ groups) = length g.1 + offsets_many groups

-- the groups have as many offsets as there are rows, each of a row that has its group's key
pub record AreMatched (rows : List RowOf) (places : List ℕ) (groups : List Group) : Type 0 where
  pub matched : list_all (is_matched rows places) groups ≡ true
  pub many : offsets_many groups ≡ length rows

-- the block of groups with keys of so many columns, whose offsets rise and are of n rows
pub record IsBlock (width n : ℕ) (bytes : List ℕ) : Type 0 where
  pub index : IsIndex width bytes
  pub same : bytes ≡ block_of (groups_in width bytes)
  pub offsets : list_all (λ g. are_offsets n g.1) (groups_in width bytes) ≡ true
