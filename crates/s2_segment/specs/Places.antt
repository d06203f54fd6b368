-- What a view keeps of a file.
use Rattle.std.specs.Prelude.{◌≡◌, ℕ, ◌+◌, ◌*◌, ◌<◌, ◌≤◌, Bool, true, nat_eq, List, [], ◌∷◌, ◌++◌, length, map, replicate, slice_index_or, Result, Ok, Err}
use Rattle.std.specs.List.{list_all}
use Rattle.s2_value.specs.declared.values.Value.{Value}
use Rattle.s2_colenc.specs.declared.views.Body.{Body}
use Rattle.s2_colenc.specs.Column.{values_of}
use Rattle.s2_segment.specs.declared.faults.SegErr.{SegErr}
use Rattle.s2_segment.specs.declared.indexed.IndexBlock.{IndexBlock}
use Rattle.s2_segment.specs.Parts.{Indexed}

-- an index block without where it lies in memory
abbrev pub seen : IndexBlock → Indexed
seen block = (block.index, block.bytes.now)

-- the column has n values
abbrev pub has_count : ℕ → Body → Bool
has_count n column = nat_eq (length (values_of column)) n

-- the row has w values
abbrev pub has_width : ℕ → List Value → Bool
has_width w row = nat_eq (length row) w

-- 1 to 8,192 rows, the bytes of their numbers, and columns of as many values
pub record IsView (n : ℕ) (ids : List ℕ) (columns : List Body) : Type 0 where
  pub some : 1 ≤ n
  pub few : n ≤ 8192
  pub whole : length ids ≡ 8 * n
  pub full : list_all (has_count n) columns ≡ true

-- with what was read before
abbrev pub with_front : {X : Type 0} → List X → Result (List X × List ℕ) SegErr → Result (List X × List ℕ) SegErr
with_front front (Ok y) = Ok (front ++ y.0, y.1)
with_front front (Err e) = Err e
