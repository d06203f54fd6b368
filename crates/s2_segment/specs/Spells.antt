-- Which bytes are the file of which rows: its parts one after the other.
use Rattle.std.specs.Prelude.{◌≡◌, ℕ, ◌<◌, ◌≤◌, ⊤, true, List, [], ◌∷◌, ◌++◌, length, map, Ok}
use Rattle.std.specs.List.{flat_map, AllByRecursion}
use Rattle.byteorder.specs.Endian.{little_bytes}
use Rattle.s2_colbytes.specs.Numbers.{spelled}
use Rattle.s2_value.specs.declared.values.Value.{Value}
use Rattle.s2_value.specs.declared.schemas.Col.{Col}
use Rattle.s2_value.specs.declared.schemas.Schema.{Schema}
use Rattle.s2_value.specs.Rows.{key_of}
use Rattle.s2_value.specs.Schemas.{keys_of}
use Rattle.s2_segindex.specs.Groups.{groups_of}
use Rattle.s2_model.specs.Files.{row_numbers, rows_of_file, rows_fit}
use Rattle.s2_model.specs.Laws.{is_in_file_order}
use Rattle.s2_colenc.specs.Spells as column
use Rattle.s2_segment.specs.Rows.{RowOf, columns_of}
use Rattle.s2_segment.specs.Parts.{Parts, Indexed, magic, are_ids}
use Rattle.s2_segment.specs.Checks.{key_block, content_of, file_at}

-- "S2SG", the version, how many columns and keys the schema has, and how many rows there are
abbrev pub head_of : Schema → ℕ → List ℕ
head_of schema n = magic ++ (1 ∷ length schema.cols ∷ length (keys_of schema) ∷ little_bytes 4 n)

-- a block behind its length
abbrev pub framed : List ℕ → List ℕ
framed block = little_bytes 4 (length block) ++ block

-- the length of a block fits in four bytes
abbrev pub IsShort : List ℕ → Type 0
IsShort block = length block < 4294967296

-- a block for each column, which spells its values
abbrev pub AreColumns : List Col → List (List Value) → List (List ℕ) → Type 0
AreColumns [] [] [] = ⊤
AreColumns (col ∷ cols) (vals ∷ columns) (block ∷ blocks) = column.Spells col.kind vals block × (IsShort block × AreColumns cols columns blocks)
AreColumns _ _ _ = ⊥

-- the index blocks of the rows, of unique keys and then of indexes
abbrev pub key_blocks : Schema → List RowOf → List (List ℕ)
key_blocks schema rows = map (key_block rows) (keys_of schema)

-- the bytes are the file of these row numbers and rows
pub record Spells (schema : Schema) (content : List (ℕ × RowOf)) (bytes : List ℕ) : Type 0 where
  pub blocks : List (List ℕ)
  pub some : 1 ≤ length content
  pub few : length content ≤ 8192
  pub fit : rows_fit schema content ≡ true
  pub ids : are_ids (row_numbers content) ≡ true
  pub narrow : AllByRecursion (λ i. i < 18446744073709551616) (row_numbers content)
  pub order : is_in_file_order schema content ≡ true
  pub columns : AreColumns schema.cols (columns_of (length schema.cols) (rows_of_file content)) blocks
  pub short : AllByRecursion IsShort (key_blocks schema (rows_of_file content))
  pub same : bytes ≡ head_of schema (length content) ++ (spelled 8 (row_numbers content) ++ (flat_map framed blocks ++ flat_map framed (key_blocks schema (rows_of_file content))))

-- the groups of the rows for a key, and their block
abbrev pub index_of : List RowOf → List ℕ → Indexed
index_of rows key = (groups_of (map (key_of key) rows), key_block rows key)

-- the bytes are read, and as these row numbers and rows, with the indexes of the rows
pub record ReadAs (schema : Schema) (content : List (ℕ × RowOf)) (bytes : List ℕ) : Type 0 where
  pub parts : Parts
  pub read : file_at schema bytes ≡ Ok parts
  pub content_is : content_of parts ≡ content
  pub indexes : parts.indexes ≡ map (index_of (rows_of_file content)) (keys_of schema)
