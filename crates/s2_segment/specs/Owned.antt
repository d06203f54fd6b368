-- Files that were judged: a schema, and bytes that are a file of it.
use Rattle.std.specs.Prelude.{◌≡◌, ℕ, List, Result, Ok, Err}
use Rattle.s2_value.specs.declared.schemas.Schema.{Schema}
use Rattle.s2_colbytes.specs.Numbers.{IsBytes}
use Rattle.s2_segindex.specs.Reading.{◌>>=◌}
use Rattle.s2_segment.specs.declared.faults.SegErr.{SegErr}
use Rattle.s2_segment.specs.Rows.{RowOf}
use Rattle.s2_segment.specs.Parts.{Parts}
use Rattle.s2_segment.specs.Checks.{file_at, rows_in, content_read}

pub record FileOf : Type 0 where
  pub schema : Schema
  pub bytes : List ℕ

-- the file of a schema and its bytes
abbrev pub kept : Schema → List ℕ → FileOf
kept schema bytes = record { schema = schema; bytes = bytes }

-- the row numbers of a file with their rows
abbrev pub content_in : FileOf → List (ℕ × RowOf)
content_in file = content_read (file_at file.schema file.bytes)

-- the file of the schema that the bytes are, or the first fault
abbrev pub judged : Schema → List ℕ → Result FileOf SegErr
judged schema bytes = file_at schema bytes >>= (λ (parts : Parts). Ok (kept schema bytes))

-- the rows of the file that the bytes are, or the first fault
abbrev pub rows_at : Schema → List ℕ → Result (List RowOf) SegErr
rows_at schema bytes = file_at schema bytes >>= (λ (parts : Parts). Ok (rows_in parts))

-- the bytes are a file with these rows
pub record IsFile (schema : Schema) (bytes : List ℕ) (rows : List RowOf) : Type 0 where
  pub parts : Parts
  pub narrow : IsBytes bytes
  pub read : file_at schema bytes ≡ Ok parts
  pub are : rows ≡ rows_in parts
