-- Packed numbers: a base, a width, and for each number its distance from the base in as many bits.
use Rattle.std.specs.Prelude.{◌≡◌, ℕ, zero, suc, ◌+◌, ◌-◌, ◌*◌, ◌/◌, ◌%◌, ◌^◌, ℤ, pos, ◌+ℤ◌, int_lt, FitsSigned, ◌≤◌, ◌-ℤ◌, unsigned_abs, min, max, Bool, false, List, [], ◌∷◌, ◌++◌, length, map, nat_lt, slice_index, Result, Ok}
use Rattle.std.specs.List.{list_any}
use Rattle.std.specs.Int.{w64, leading_zeros}
use Rattle.byteorder.specs.Endian.{little_number}
use Rattle.s2_colbytes.specs.declared.ColErr.{ColErr}
use Rattle.s2_colbytes.specs.declared.ColErr.TheVariants.{BadWidth, Overflow}
use Rattle.s2_colbytes.specs.Reading.{◌>>=◌, front_at, unless}
use Rattle.s2_colbytes.specs.Numbers.{signed, int_bytes, number_of, bytes_of}

-- the number in the width bits from bit width * i on: bit b is bit b of the number that the bytes are, the lowest byte first, which is bit b % 8 of byte b / 8
unfoldable pub field : ℕ → ℕ → ℕ → ℕ
field width i n = n / 2 ^ (width * i) % 2 ^ width

-- how many bytes n fields take
abbrev pub packed_len : ℕ → ℕ → ℕ
packed_len width n = (n * width + 7) / 8

-- n numbers from place i on
abbrev pub unpacked_from : ℤ → ℕ → ℕ → ℕ → ℕ → List ℤ
unpacked_from base width bits i zero = []
unpacked_from base width bits i (suc n) = (base +ℤ pos (field width i bits)) ∷ unpacked_from base width bits (i + 1) n

abbrev pub unpacked : ℤ → ℕ → ℕ → List ℕ → List ℤ
unpacked base width n bytes = unpacked_from base width (number_of bytes) 0 n

-- above the greatest number
abbrev pub is_over : ℤ → Bool
is_over x = int_lt (pos 9223372036854775807) x

-- the base, the width and the bytes after them, or the first fault
unfoldable pub head_at : List ℕ → Result (ℤ × ℕ × List ℕ) ColErr
head_at bytes = do
  head ← front_at 9 bytes
  width ← unless (nat_lt 63 (slice_index head.0 8)) BadWidth (slice_index head.0 8)
  Ok (signed (little_number 8 head.0), width, head.1)

-- the numbers and the bytes after them, or the first fault
unfoldable pub packed_at : ℕ → List ℕ → Result (List ℤ × List ℕ) ColErr
packed_at n bytes = do
  head ← head_at bytes
  body ← front_at (packed_len head.1 n) head.2
  xs ← unless (list_any is_over (unpacked head.0 head.1 n body.0)) Overflow (unpacked head.0 head.1 n body.0)
  Ok (xs, body.1)

-- the bytes have all the fields, and no number is too great
pub record IsPacked (base : ℤ) (width n : ℕ) (bytes : List ℕ) : Type 0 where
  pub number : FitsSigned w64 base
  pub narrow : width ≤ 63
  pub whole : n * width ≤ 8 * length bytes
  pub fits : list_any is_over (unpacked base width n bytes) ≡ false

-- how far a number is above the least one, -2^63
abbrev pub rank : ℤ → ℕ
rank x = unsigned_abs (x +ℤ pos 9223372036854775808)

-- the number of a rank
abbrev pub of_rank : ℕ → ℤ
of_rank r = pos r -ℤ pos 9223372036854775808

-- the least and the greatest rank of the numbers
abbrev pub least_rank : List ℤ → ℕ
least_rank [] = 18446744073709551615
least_rank (x ∷ xs) = min (rank x) (least_rank xs)

abbrev pub greatest_rank : List ℤ → ℕ
greatest_rank [] = 0
greatest_rank (x ∷ xs) = max (rank x) (greatest_rank xs)

-- how many binary digits a number below 2^64 has, none for 0
abbrev pub digits : ℕ → ℕ
digits n = 64 - leading_zeros w64 n

-- the greatest number less the least one
abbrev pub spread : List ℤ → ℕ
spread xs = greatest_rank xs - least_rank xs

-- fields of w bits as one number, the first lowest
abbrev pub pack : ℕ → List ℕ → ℕ
pack w [] = 0
pack w (f ∷ fs) = f + 2 ^ w * pack w fs

-- the distances from a base
abbrev pub distances : ℕ → List ℤ → List ℕ
distances base xs = map (λ x. rank x - base) xs

-- the fields' bytes, with unused bits 0
abbrev pub field_bytes : ℕ → ℕ → List ℤ → List ℕ
field_bytes base w xs = bytes_of (packed_len w (length xs)) (pack w (distances base xs))

-- the body: the least number as base, as many bits as the spread has digits
abbrev pub packed_ints : List ℤ → List ℕ
packed_ints xs = int_bytes (of_rank (least_rank xs)) ++ digits (spread xs) ∷ field_bytes (least_rank xs) (digits (spread xs)) xs
