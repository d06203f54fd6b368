-- Run lengths: how often each of the runs' values stands, in two bytes.
use Rattle.std.specs.Prelude.{◌≡◌, ℕ, ◌*◌, Bool, not, List, length, sum, nat_eq, Result, Ok, Err}
use Rattle.std.specs.List.{list_any}
use Rattle.s2_colbytes.specs.declared.ColErr.{ColErr}
use Rattle.s2_colbytes.specs.declared.ColErr.TheVariants.{EmptyRun, BadRuns}
use Rattle.s2_colbytes.specs.Reading.{◌>>=◌, front_at, unless}
use Rattle.s2_colbytes.specs.Numbers.{numbers}

-- some run is empty
abbrev pub has_empty : List ℕ → Bool
has_empty lens = list_any (λ l. nat_eq l 0) lens

-- the lengths of m runs of n values, and the bytes after them, or the first fault
unfoldable pub lens_at : ℕ → ℕ → List ℕ → Result (List ℕ × List ℕ) ColErr
lens_at n m bytes = do
  body ← front_at (2 * m) bytes
  full ← unless (has_empty (numbers 2 m body.0)) EmptyRun (numbers 2 m body.0)
  lens ← unless (not (nat_eq (sum full) n)) BadRuns full
  Ok (lens, body.1)
