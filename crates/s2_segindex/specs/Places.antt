-- Where the parts of an index block stand, for one that was read.
use Rattle.std.specs.Prelude.{◌≡◌, ℕ, zero, suc, ◌+◌, ◌*◌, ◌≤◌, ℤ, pos, Bool, true, ◌&&◌, ◌==◌, nat_le, nat_lt, List, [], ◌∷◌, length, take, drop, map, if◌then◌else◌, Option, None, Some}
use Rattle.std.specs.List.{list_all}
use Rattle.std.specs.Map.{keys_of}
use Rattle.byteorder.specs.Endian.{little_number}
use Rattle.s2_colbytes.specs.Numbers.{numbers, spelled, signed}
use Rattle.s2_value.specs.declared.values.Value.{Value}
use Rattle.s2_value.specs.declared.values.Value.TheVariants.{Int, Text}
use Rattle.s2_segindex.specs.Groups.{Group, are_rising}

-- the number at the front, 0 where it isn't whole
abbrev pub number_in : List ℕ → ℤ
number_in bytes = if nat_lt (length bytes) 8 then pos 0 else signed (little_number 8 bytes)

-- the text at the front, and the bytes after it
abbrev pub text_in : List ℕ → List ℕ
text_in [] = []
text_in (len ∷ bytes) = take len bytes

abbrev pub after_text : List ℕ → List ℕ
after_text [] = []
after_text (len ∷ bytes) = drop len bytes

-- the value at the front, and the bytes after it
abbrev pub value_in : List ℕ → Value
value_in [] = Int (pos 0)
value_in (tag ∷ bytes) = if tag == 1 then Int (number_in bytes) else Text (text_in bytes)

abbrev pub after_value : List ℕ → List ℕ
after_value [] = []
after_value (tag ∷ bytes) = if tag == 1 then drop 8 bytes else after_text bytes

-- the key of so many values at the front, and the bytes after it
abbrev pub key_in : ℕ → List ℕ → List Value
key_in zero bytes = []
key_in (suc width) bytes = value_in bytes ∷ key_in width (after_value bytes)

abbrev pub after_key : ℕ → List ℕ → List ℕ
after_key zero bytes = bytes
after_key (suc width) bytes = after_key width (after_value bytes)

-- the offsets at the front, behind how many they are
abbrev pub offsets_in : List ℕ → List ℕ
offsets_in bytes = numbers 2 (little_number 2 bytes) (drop 2 bytes)

abbrev pub group_in : ℕ → List ℕ → Group
group_in width bytes = (key_in width bytes, offsets_in (after_key width bytes))

-- where the groups stand
abbrev pub starts_in : List ℕ → List ℕ
starts_in bytes = numbers 4 (little_number 4 bytes) (drop 4 bytes)

abbrev pub groups_in : ℕ → List ℕ → List Group
groups_in width bytes = map (λ start. group_in width (drop start bytes)) (starts_in bytes)

-- the offsets at the front are whole
abbrev pub has_offsets : List ℕ → Bool
has_offsets bytes = nat_le (2 + 2 * little_number 2 bytes) (length bytes)

-- a group stands there whose offsets are whole
abbrev pub is_start : ℕ → List ℕ → ℕ → Bool
is_start width bytes start = nat_le start (length bytes) && has_offsets (after_key width (drop start bytes))

-- the starts are whole, a group stands at each, and the keys rise
pub record IsIndex (width : ℕ) (bytes : List ℕ) : Type 0 where
  pub whole : 4 + 4 * little_number 4 bytes ≤ length bytes
  pub starts : list_all (is_start width bytes) (starts_in bytes) ≡ true
  pub rising : are_rising None (keys_of (groups_in width bytes)) ≡ true

-- the bytes of offsets
abbrev pub offset_bytes : Option (List ℕ) → Option (List ℕ)
offset_bytes None = None
offset_bytes (Some offsets) = Some (spelled 2 offsets)
