-- Plain numbers: eight bytes each.
use Rattle.std.specs.Prelude.{ℕ, ◌*◌, ℤ, List, map, Result, Ok}
use Rattle.std.specs.List.{flat_map}
use Rattle.s2_colbytes.specs.declared.ColErr.{ColErr}
use Rattle.s2_colbytes.specs.Reading.{◌>>=◌, front_at}
use Rattle.s2_colbytes.specs.Numbers.{numbers, signed, int_bytes}

-- the body
abbrev pub plain_ints : List ℤ → List ℕ
plain_ints xs = flat_map int_bytes xs

-- the first n numbers
abbrev pub ints_in : ℕ → List ℕ → List ℤ
ints_in n bytes = map signed (numbers 8 n bytes)

-- the numbers and the bytes after them, or the first fault
unfoldable pub ints_at : ℕ → List ℕ → Result (List ℤ × List ℕ) ColErr
ints_at n bytes = do
  body ← front_at (8 * n) bytes
  Ok (ints_in n body.0, body.1)
