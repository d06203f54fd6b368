-- Row numbers, by the blocks of sixteen in which they stand.
use Rattle.std.specs.Prelude.{ℕ, ◌/◌, ◌%◌, ◌*◌, ◌^◌, Bool, false, ◌&&◌, nat_lt, List, Option, None, Some, slice_index_or}
use Rattle.std.specs.List.{filter, flat_map, range_with_len}
use Rattle.std.specs.Map.{lookup}
use Rattle.std.specs.Ordering.{nat_cmp}
use Rattle.std.specs.BTreeMap.{is_at}

-- whether the number has its flag among those of its block
abbrev pub is_flagged : Option (List Bool) → ℕ → Bool
is_flagged None n = false
is_flagged (Some flags) n = nat_lt n (2 ^ 64) && slice_index_or flags (n % 16) false

-- whether a number is among those of the blocks
abbrev pub is_among : List (ℕ × List Bool) → ℕ → Bool
is_among blocks n = is_flagged (lookup (is_at (nat_cmp (n / 16))) blocks) n

-- the sixteen numbers that may stand in a block
unfoldable pub sixteen : ℕ → List ℕ
sixteen block = range_with_len (block * 16) 16

-- the numbers of a block
abbrev pub numbers_of : ℕ × List Bool → List ℕ
numbers_of e = filter (is_flagged (Some e.1)) (sixteen e.0)

-- all numbers, block by block
abbrev pub numbers_in : List (ℕ × List Bool) → List ℕ
numbers_in blocks = flat_map numbers_of blocks
