-- What is checked of a file's parts together: the order of its rows, and its indexes.
use Rattle.std.specs.Prelude.{◌≡◌, ℕ, ◌+◌, nat_eq, List, [], ◌∷◌, length, map, zip, if◌then◌else◌, Option, None, Some, Result, Ok, Err}
use Rattle.std.specs.Cmp.Lexicographic.{pointwise}
use Rattle.s2_value.specs.declared.schemas.Schema.{Schema}
use Rattle.s2_value.specs.Schemas.{keys_of}
use Rattle.s2_value.specs.Rows.{key_of}
use Rattle.s2_model.specs.Laws.{is_in_file_order}
use Rattle.s2_model.specs.Files.{rows_of_file}
use Rattle.s2_colenc.specs.Column.{values_of}
use Rattle.s2_segindex.specs.Reading.{◌>>=◌}
use Rattle.s2_segindex.specs.Groups.{groups_of}
use Rattle.s2_segindex.specs.Spells.{block_of}
use Rattle.s2_segment.specs.declared.faults.SegErr.{SegErr}
use Rattle.s2_segment.specs.declared.faults.SegErr.TheVariants as fault
use Rattle.s2_segment.specs.Rows.{RowOf, rows_of}
use Rattle.s2_segment.specs.Parts.{Parts, Indexed, parts_at}

-- the rows that the columns name
abbrev pub rows_in : Parts → List RowOf
rows_in parts = rows_of (length parts.ids) (map values_of parts.columns)

-- the row numbers with their rows
abbrev pub content_of : Parts → List (ℕ × RowOf)
content_of parts = zip parts.ids (rows_in parts)

-- the index block of the rows for a key
abbrev pub key_block : List RowOf → List ℕ → List ℕ
key_block rows key = block_of (groups_of (map (key_of key) rows))

-- the first index, from number j on, whose block isn't that of the rows
abbrev pub first_wrong : ℕ → List Indexed → List (List ℕ) → List RowOf → Option ℕ
first_wrong j [] keys rows = None
first_wrong j (index ∷ indexes) [] rows = None
first_wrong j (index ∷ indexes) (key ∷ keys) rows =
    if pointwise nat_eq index.1 (key_block rows key) then first_wrong (j + 1) indexes keys rows else Some j

abbrev pub index_fault : Option ℕ → Option SegErr
index_fault None = None
index_fault (Some j) = Some (fault.WrongIndex j)

-- what is wrong with the parts together, if anything: the order of the rows, then the indexes
abbrev pub fault_of : Schema → List (ℕ × RowOf) → List Indexed → List RowOf → Option SegErr
fault_of schema content indexes rows =
    if is_in_file_order schema content then index_fault (first_wrong 0 indexes (keys_of schema) rows) else Some fault.Unordered

abbrev pub fault_in : Schema → Parts → Option SegErr
fault_in schema parts = fault_of schema (content_of parts) parts.indexes (rows_in parts)

abbrev pub unless_fault : {X : Type 0} → Option SegErr → X → Result X SegErr
unless_fault None x = Ok x
unless_fault (Some e) x = Err e

-- the parts of a file whose rows are in order, and whose indexes are those of the rows
unfoldable pub file_at : Schema → List ℕ → Result Parts SegErr
file_at schema bytes = do
  parts ← parts_at schema bytes
  unless_fault (fault_in schema parts) parts

-- the rows of a file, none where the bytes are no file
abbrev pub content_read : Result Parts SegErr → List (ℕ × RowOf)
content_read (Ok parts) = content_of parts
content_read (Err e) = []
