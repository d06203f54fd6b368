-- Blocks that are passed over by their lengths.
use Rattle.std.specs.Prelude.{ℕ, zero, suc, ◌/◌, List, [], length, Option, None, Some, Result, Ok, Err}
use Rattle.s2_colbytes.specs.Numbers.{numbers}
use Rattle.s2_segindex.specs.Reading.{◌>>=◌}
use Rattle.s2_segment.specs.declared.faults.SegErr.{SegErr}
use Rattle.s2_segment.specs.Parts.{block_at}

-- the bytes after k blocks
abbrev pub after_blocks : ℕ → List ℕ → Result (List ℕ) SegErr
after_blocks zero bytes = Ok bytes
after_blocks (suc k) bytes = do
  block ← block_at bytes
  after_blocks k block.1

-- the block after k blocks and j more
abbrev pub block_after : ℕ → ℕ → List ℕ → Result (List ℕ) SegErr
block_after k j bytes = do
  later ← after_blocks k bytes
  rest ← after_blocks j later
  block ← block_at rest
  Ok block.0

-- the numbers of two bytes, where there are any
abbrev pub listed : Option (List ℕ) → List ℕ
listed None = []
listed (Some bytes) = numbers 2 (length bytes / 2) bytes
