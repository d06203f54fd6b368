-- The groups of an index: the distinct keys of the rows, each with the offsets of the rows that have it.
use Rattle.std.specs.Prelude.{ℕ, ◌+◌, Bool, true, ◌&&◌, List, [], ◌∷◌, map, Option, None, Some, if◌then◌else◌}
use Rattle.std.specs.Ordering.{is_lt, match_ordering}
use Rattle.std.specs.Map.{lookup, keys_of}
use Rattle.std.specs.BTreeMap.{is_at}
use Rattle.s2_value.specs.declared.values.Value.{Value}
use Rattle.s2_value.specs.Order.{row_cmp, row_eq}

-- a key, and the offsets of the rows that have it
abbrev pub Group : Type 0
Group = List Value × List ℕ

-- the places, from n on, of the keys that equal this one
abbrev pub places_from : ℕ → List (List Value) → List Value → List ℕ
places_from n [] key = []
places_from n (k ∷ keys) key = if row_eq k key then n ∷ places_from (n + 1) keys key else places_from (n + 1) keys key

-- with a key at its place among keys that rise; a key that is there already changes nothing
abbrev pub with_key : List Value → List (List Value) → List (List Value)
with_key key [] = key ∷ []
with_key key (k ∷ keys) = match_ordering (row_cmp key k) (key ∷ k ∷ keys) (k ∷ keys) (k ∷ with_key key keys)

-- each key once, rising
abbrev pub distinct_keys : List (List Value) → List (List Value)
distinct_keys [] = []
distinct_keys (key ∷ keys) = with_key key (distinct_keys keys)

-- the groups of rows with these keys
unfoldable pub groups_of : List (List Value) → List Group
groups_of keys = map (λ k. (k, places_from 0 keys k)) (distinct_keys keys)

-- the offsets of a key, where a group has it
abbrev pub offsets_at_key : List Value → List Group → Option (List ℕ)
offsets_at_key key groups = lookup (is_at (row_cmp key)) groups

-- at least one place
abbrev pub some_places : List ℕ → Option (List ℕ)
some_places [] = None
some_places (i ∷ is) = Some (i ∷ is)

-- the key is above the one before it
abbrev pub is_above : Option (List Value) → List Value → Bool
is_above None key = true
is_above (Some before) key = is_lt (row_cmp before key)

-- each key is above the one before it
abbrev pub are_rising : Option (List Value) → List (List Value) → Bool
are_rising before [] = true
are_rising before (k ∷ keys) = is_above before k && are_rising (Some k) keys
