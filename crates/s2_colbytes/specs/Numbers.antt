-- Numbers of a fixed width, one after the other.
use Rattle.std.specs.Prelude.{◌≡◌, ℕ, zero, suc, ◌+◌, ◌*◌, ◌/◌, ◌%◌, ◌^◌, ◌<◌, ℤ, List, [], ◌∷◌, length, drop, map, slice_index}
use Rattle.std.specs.List.{flat_map}
use Rattle.std.specs.Int.{w64, cast_signed, cast_unsigned}
use Rattle.byteorder.specs.Endian.{little_number, little_bytes}

-- each is a byte
abbrev pub IsBytes : List ℕ → Type 0
IsBytes bytes = (i : ℕ) → slice_index bytes i < 256

-- the numbers in w bytes each, the lowest byte first
abbrev pub spelled : ℕ → List ℕ → List ℕ
spelled w xs = flat_map (little_bytes w) xs

-- the first n numbers of w bytes each
abbrev pub numbers : ℕ → ℕ → List ℕ → List ℕ
numbers w zero bytes = []
numbers w (suc n) bytes = little_number w bytes ∷ numbers w n (drop w bytes)

-- a signed number of 8 bytes, in two's complement
abbrev pub signed : ℕ → ℤ
signed x = cast_signed w64 x

abbrev pub int_bytes : ℤ → List ℕ
int_bytes x = little_bytes 8 (cast_unsigned w64 x)

-- the number that all the bytes are, the lowest first
abbrev pub number_of : List ℕ → ℕ
number_of [] = 0
number_of (b ∷ bs) = b + 256 * number_of bs

-- the lowest n bytes of x, the lowest first
abbrev pub bytes_of : ℕ → ℕ → List ℕ
bytes_of zero x = []
bytes_of (suc n) x = x % 256 ∷ bytes_of n (x / 256)
