-- The bytes of a key, and its hash.
use Rattle.std.specs.Prelude.{ℕ, ◌*◌, ◌%◌, ◌^◌, ℤ, List, ◌∷◌, length, fold, bit_xor}
use Rattle.std.specs.List.{flat_map}
use Rattle.std.specs.Int.{w64, cast_unsigned}
use Rattle.byteorder.specs.Endian.{little_bytes}
use Rattle.s2_value.specs.declared.values.Value.{Value}
use Rattle.s2_value.specs.declared.values.Value.TheVariants.{Int, Text}

-- the eight bytes of a 64-bit whole number in two's complement, the lowest first
abbrev pub number_bytes : ℤ → List ℕ
number_bytes x = little_bytes 8 (cast_unsigned w64 x)

-- 01 and the number, or 02, the text's length and its bytes
abbrev pub value_bytes : Value → List ℕ
value_bytes (Int x) = 1 ∷ number_bytes x
value_bytes (Text t) = 2 ∷ length t ∷ t

-- the bytes of its values in order
abbrev pub key_bytes : List Value → List ℕ
key_bytes key = flat_map value_bytes key

-- 64-bit FNV-1a, from a hash so far
abbrev pub fnv_from : ℕ → List ℕ → ℕ
fnv_from hash bytes = fold (λ h b. (bit_xor h b * 1099511628211) % 2 ^ 64) hash bytes

abbrev pub fnv : List ℕ → ℕ
fnv bytes = fnv_from 14695981039346656037 bytes

-- the hash of key j: of the byte j and then the key's bytes
abbrev pub key_hash : ℕ → List Value → ℕ
key_hash j key = fnv (j ∷ key_bytes key)
