-- Codes: for each value its place in a dictionary, in two bytes.
use Rattle.std.specs.Prelude.{◌≡◌, ℕ, ◌*◌, Bool, List, length, nat_le, Result, Ok, Err}
use Rattle.std.specs.List.{list_any}
use Rattle.s2_colbytes.specs.declared.ColErr.{ColErr}
use Rattle.s2_colbytes.specs.declared.ColErr.TheVariants.{BadCode}
use Rattle.s2_colbytes.specs.Reading.{◌>>=◌, front_at, unless}
use Rattle.s2_colbytes.specs.Numbers.{numbers}

-- some code isn't below d
abbrev pub has_bad_code : ℕ → List ℕ → Bool
has_bad_code d codes = list_any (λ c. nat_le d c) codes

-- the codes and the bytes after them, or the first fault
unfoldable pub codes_at : ℕ → ℕ → List ℕ → Result (List ℕ × List ℕ) ColErr
codes_at n d bytes = do
  body ← front_at (2 * n) bytes
  codes ← unless (has_bad_code d (numbers 2 n body.0)) BadCode (numbers 2 n body.0)
  Ok (codes, body.1)
