-- Which bytes are the index block of which groups.
use Rattle.std.specs.Prelude.{◌≡◌, ℕ, ◌+◌, ◌*◌, ◌<◌, ⊤, FitsSigned, Bool, true, nat_le, ◌&&◌, List, [], ◌∷◌, ◌++◌, length, None}
use Rattle.std.specs.Int.{w64}
use Rattle.std.specs.List.{flat_map, AllByRecursion}
use Rattle.std.specs.Map.{keys_of}
use Rattle.byteorder.specs.Endian.{little_bytes}
use Rattle.s2_colbytes.specs.Numbers.{spelled}
use Rattle.s2_value.specs.Bytes.{key_bytes}
use Rattle.s2_value.specs.Text.{is_txt}
use Rattle.s2_value.specs.declared.values.Value.{Value}
use Rattle.s2_value.specs.declared.values.Value.TheVariants.{Int, Text}
use Rattle.s2_value.specs.declared.values.ColType.{ColType}
use Rattle.s2_value.specs.declared.values.ColType.TheVariants as kind
use Rattle.s2_segindex.specs.Groups.{Group, are_rising}
use Rattle.s2_segindex.specs.Blocks.{are_offsets}

-- the key's bytes, how many offsets there are, and the offsets
abbrev pub group_bytes : Group → List ℕ
group_bytes group = key_bytes group.0 ++ (little_bytes 2 (length group.1) ++ spelled 2 group.1)

-- where each group stands, the first at this place
abbrev pub starts_from : ℕ → List Group → List ℕ
starts_from place [] = []
starts_from place (g ∷ groups) = place ∷ starts_from (place + length (group_bytes g)) groups

-- how many groups there are, where each stands, and the groups
unfoldable pub block_of : List Group → List ℕ
block_of groups = little_bytes 4 (length groups) ++ (spelled 4 (starts_from (4 + 4 * length groups) groups) ++ flat_map group_bytes groups)

-- a key of at most 16 values, and at most 8,192 offsets
abbrev pub is_small : Group → Bool
is_small group = nat_le (length group.0) 16 && nat_le (length group.1) 8192

-- a value of the type
abbrev pub IsValueOf : ColType → Value → Type 0
IsValueOf kind.Int (Int x) = FitsSigned w64 x
IsValueOf kind.Int (Text t) = ⊥
IsValueOf kind.Text (Int x) = ⊥
IsValueOf kind.Text (Text t) = is_txt t ≡ true

-- a value of each type
abbrev pub IsKeyOf : List ColType → List Value → Type 0
IsKeyOf [] [] = ⊤
IsKeyOf [] (v ∷ vals) = ⊥
IsKeyOf (kind ∷ kinds) [] = ⊥
IsKeyOf (kind ∷ kinds) (v ∷ vals) = IsValueOf kind v × IsKeyOf kinds vals

-- a key of the types, and at least one offset; they rise strictly and are below n
pub record IsGroup (kinds : List ColType) (n : ℕ) (group : Group) : Type 0 where
  pub key : IsKeyOf kinds group.0
  pub offsets : are_offsets n group.1 ≡ true
  pub narrow : AllByRecursion (λ o. o < 65536) group.1
  pub few : length group.1 < 65536

-- the groups rise strictly by key, and their starts fit in four bytes
pub record Spells (kinds : List ColType) (n : ℕ) (list : List Group) (bytes : List ℕ) : Type 0 where
  pub groups : AllByRecursion (IsGroup kinds n) list
  pub rising : are_rising None (keys_of list) ≡ true
  pub few : length list < 4294967296
  pub starts : AllByRecursion (λ s. s < 4294967296) (starts_from (4 + 4 * length list) list)
  pub same : bytes ≡ block_of list
