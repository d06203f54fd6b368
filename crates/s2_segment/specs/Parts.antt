-- How a segment file is read: its parts in turn, or the first fault.
use Rattle.std.specs.Prelude.{ℕ, ◌+◌, ◌*◌, Bool, not, ◌&&◌, ◌==◌, nat_eq, nat_lt, List, [], ◌∷◌, length, take, drop, map, slice_index, slice_index_or, Result, Ok, Err}
use Rattle.std.specs.List.{list_all}
use Rattle.std.specs.Cmp.Lexicographic.{pointwise}
use Rattle.byteorder.specs.Endian.{little_number}
use Rattle.s2_colbytes.specs.declared.ColErr.{ColErr}
use Rattle.s2_colbytes.specs.Numbers.{numbers}
use Rattle.s2_value.specs.declared.values.Value.{Value}
use Rattle.s2_value.specs.declared.values.ColType.{ColType}
use Rattle.s2_value.specs.declared.values.ColType.TheVariants as kind
use Rattle.s2_value.specs.declared.schemas.Col.{Col}
use Rattle.s2_value.specs.declared.schemas.Schema.{Schema}
use Rattle.s2_value.specs.Columns.{are_distinct, is_between}
use Rattle.s2_value.specs.Schemas.{keys_of}
use Rattle.s2_colenc.specs.declared.views.Body.{Body}
use Rattle.s2_colenc.specs.Column.{column_at}
use Rattle.s2_segindex.specs.declared.faults.IndexErr.{IndexErr}
use Rattle.s2_segindex.specs.Reading.{◌>>=◌, front_or, number_or, unless, alone_or}
use Rattle.s2_segindex.specs.Groups.{Group}
use Rattle.s2_segindex.specs.Blocks.{index_at}
use Rattle.s2_segment.specs.declared.faults.SegErr.{SegErr}
use Rattle.s2_segment.specs.declared.faults.SegErr.TheVariants as fault

-- the groups of an index, and the bytes of its block
abbrev pub Indexed : Type 0
Indexed = List Group × List ℕ

-- what stands in a file: the row numbers, the columns, and the indexes of unique keys and indexes
pub record Parts : Type 0 where
  pub ids : List ℕ
  pub columns : List Body
  pub indexes : List Indexed

-- "S2SG"
abbrev pub magic : List ℕ
magic = 83 ∷ 50 ∷ 83 ∷ 71 ∷ []

abbrev pub has_magic : List ℕ → Bool
has_magic head = pointwise nat_eq (take 4 head) magic

-- as many columns and keys as the schema has
abbrev pub has_shape : Schema → List ℕ → Bool
has_shape schema head = slice_index head 5 == length schema.cols && slice_index head 6 == length (keys_of schema)

-- how many rows
abbrev pub count_in : List ℕ → ℕ
count_in head = little_number 4 (drop 7 head)

-- the number of rows, and the bytes after the head of 11 bytes
unfoldable pub head_at : Schema → List ℕ → Result (ℕ × List ℕ) SegErr
head_at schema bytes = do
  front ← front_or fault.Short 11 bytes
  named ← unless (not (has_magic front.0)) fault.BadMagic front
  first ← unless (not (slice_index named.0 4 == 1)) fault.BadVersion named
  shaped ← unless (not (has_shape schema first.0)) fault.BadShape first
  unless (not (is_between 1 8192 (count_in shaped.0))) fault.BadCount (count_in shaped.0, shaped.1)

-- row numbers are positive, and none stands twice
abbrev pub are_ids : List ℕ → Bool
are_ids ids = list_all (λ i. nat_lt 0 i) ids && are_distinct ids

-- n row numbers
unfoldable pub ids_at : ℕ → List ℕ → Result (List ℕ × List ℕ) SegErr
ids_at n bytes = do
  front ← front_or fault.Short (8 * n) bytes
  unless (not (are_ids (numbers 8 n front.0))) fault.BadRows (numbers 8 n front.0, front.1)

-- a block behind its length
unfoldable pub block_at : List ℕ → Result (List ℕ × List ℕ) SegErr
block_at bytes = do
  size ← number_or fault.Short 4 bytes
  front_or fault.Short size.0 size.1

-- the faults of column c and of index j
abbrev pub in_column : {X : Type 0} → ℕ → Result X ColErr → Result X SegErr
in_column c (Ok x) = Ok x
in_column c (Err e) = Err (fault.Column c e)

abbrev pub in_index : {X : Type 0} → ℕ → Result X IndexErr → Result X SegErr
in_index j (Ok x) = Ok x
in_index j (Err e) = Err (fault.Index j e)

-- with something before what was read
abbrev pub with_first : {X : Type 0} → X → Result (List X × List ℕ) SegErr → Result (List X × List ℕ) SegErr
with_first x (Ok y) = Ok (x ∷ y.0, y.1)
with_first x (Err e) = Err e

-- column c, of n values
unfoldable pub one_column_at : ℕ → ℕ → ColType → List ℕ → Result (Body × List ℕ) SegErr
one_column_at n c kind bytes = do
  block ← block_at bytes
  body ← in_column c (column_at kind n block.0)
  Ok (body, block.1)

-- a column for each of these, from number c on
abbrev pub columns_at : ℕ → ℕ → List Col → List ℕ → Result (List Body × List ℕ) SegErr
columns_at n c [] bytes = Ok ([], bytes)
columns_at n c (col ∷ cols) bytes = do
  one ← one_column_at n c col.kind bytes
  with_first one.0 (columns_at n (c + 1) cols one.1)

-- the types of a key's columns
abbrev pub kinds_of : List Col → List ℕ → List ColType
kinds_of cols key = map (λ p. slice_index_or (map (λ col. col.kind) cols) p kind.Int) key

-- index j, of n rows
unfoldable pub one_index_at : ℕ → ℕ → List ColType → List ℕ → Result (Indexed × List ℕ) SegErr
one_index_at n j kinds bytes = do
  block ← block_at bytes
  groups ← in_index j (index_at kinds n block.0)
  Ok ((groups, block.0), block.1)

-- an index for each of these keys, from number j on
abbrev pub indexes_at : ℕ → ℕ → List Col → List (List ℕ) → List ℕ → Result (List Indexed × List ℕ) SegErr
indexes_at n j cols [] bytes = Ok ([], bytes)
indexes_at n j cols (key ∷ keys) bytes = do
  one ← one_index_at n j (kinds_of cols key) bytes
  with_first one.0 (indexes_at n (j + 1) cols keys one.1)

-- all the parts, with no byte after them
unfoldable pub parts_at : Schema → List ℕ → Result Parts SegErr
parts_at schema bytes = do
  head ← head_at schema bytes
  ids ← ids_at head.0 head.1
  columns ← columns_at head.0 0 schema.cols ids.1
  indexes ← indexes_at head.0 0 schema.cols (keys_of schema) columns.1
  alone_or fault.Trailing (record { ids = ids.0; columns = columns.0; indexes = indexes.0 }) indexes.1
