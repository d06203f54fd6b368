-- What holds of every history whose entries fit.
use Rattle.std.specs.Prelude.{◌≡◌, ◌≤◌, ◌<◌, ◌+◌, ℕ, Bool, true, false, List, [], ◌∷◌, Some, length, map, nat_le, ◌&&◌, if◌then◌else◌, ◌==◌, is_some, count_by, sum_by}
use Rattle.std.specs.List.{list_any, AllByRecursion}
use Rattle.s2_value.specs.declared.schemas.Schema.{Schema}
use Rattle.s2_value.specs.Columns.{are_distinct}
use Rattle.s2_model.specs.declared.entries.Entry.{Entry}
use Rattle.s2_model.specs.declared.entries.What.{What}
use Rattle.s2_model.specs.declared.entries.What.TheVariants.{Move, Flush, Merge, Upload, Evict, Vacuum, Commit}
use Rattle.s2_model.specs.declared.scripts.Options.{Options}
use Rattle.s2_model.specs.Table.{Table, RowOf, row_at, IsTable}
use Rattle.s2_model.specs.History.{History, ◌▷◌, upto, state, next, is_session, pin_of}
use Rattle.s2_model.specs.Held.{holds}
use Rattle.s2_model.specs.Placement.{Version, Spot, Segment, Placement, placement, placed_rows, lives, is_living, is_in_use, is_free, is_visible, is_alive, is_unmarked, spot_ids, rows_by}
use Rattle.s2_model.specs.Plan.{rests_in, row_ids, stands_before}
use Rattle.s2_model.specs.Fits.{AllFit, rise_from, last_segment}

-- rows by rising number; two rows of one number stay two
abbrev pub into_order : ℕ × RowOf → Table → Table
into_order p [] = p ∷ []
into_order p (q ∷ rows) = if nat_le p.0 q.0 then p ∷ q ∷ rows else q ∷ into_order p rows

abbrev pub by_number : Table → Table
by_number [] = []
by_number (p ∷ rows) = into_order p (by_number rows)

-- at each timestamp from the horizon on the placed rows are together the content, and no number is placed twice
pub record PlacedIsState (H : History) : Type 0 where
  pub rows : (r : ℕ) → (placement H).horizon ≤ r → r ≤ length H → by_number (placed_rows r H) ≡ state (upto r H)
  pub once : (r : ℕ) → IsTable (state (upto r H))

-- each held row that there is has a living version
abbrev pub HeldRowsAreStored : History → Type 0
HeldRowsAreStored H = (k n : ℕ) → holds H k n ≡ true → is_some (row_at (state H) n) ≡ true → lives (placement H).versions n ≡ true

-- a law on every history whose entries fit
abbrev pub OfHistories : (History → Type 0) → Type 0
OfHistories P = (schema : Schema) (options : Options) (H : History) → AllFit schema options H → P H

-- the law on histories
pub record IsPlaced (H : History) : Type 0 where
  pub placed : PlacedIsState H
  pub stored : HeldRowsAreStored H

abbrev pub HistoriesArePlaced : Type 0
HistoriesArePlaced = OfHistories IsPlaced

-- the same, place by place

-- how often a row is placed at r: its visible versions, and its unmarked places in living segments
abbrev pub times_in_versions : ℕ → ℕ → List Version → ℕ
times_in_versions r n versions = count_by (λ v. v.id == n && is_visible r v) versions

abbrev pub times_in_segment : ℕ → ℕ → Segment → ℕ
times_in_segment r n s = if is_alive r s then count_by (λ x. x.id == n && is_unmarked r x) s.spots else 0

abbrev pub times_placed : ℕ → ℕ → Placement → ℕ
times_placed r n P = times_in_versions r n P.versions + sum_by (times_in_segment r n) P.segments

-- wherever the version is visible, it has the content's row
abbrev pub VersionIsRow : History → Version → Type 0
VersionIsRow H v = (r : ℕ) → r ≤ length H → is_visible r v ≡ true → row_at (state (upto r H)) v.id ≡ Some v.row

-- wherever the place counts, its row has been the same since the segment's base
abbrev pub PlaceLasts : History → Segment → Spot → Type 0
PlaceLasts H s x = (r : ℕ) → r ≤ length H → is_alive r s ≡ true → is_unmarked r x ≡ true
    → (q : ℕ) → s.base ≤ q → q ≤ r → row_at (state (upto q H)) x.id ≡ row_at (state (upto s.base H)) x.id

-- no time of the placement lies after the history, and a segment's base isn't after its birth
pub record PlacesAreRows (H : History) : Type 0 where
  pub versions : AllByRecursion (VersionIsRow H) (placement H).versions
  pub places : AllByRecursion (λ s. AllByRecursion (PlaceLasts H s) s.spots) (placement H).segments
  pub times : (r n : ℕ) → (placement H).horizon ≤ r → r ≤ length H
      → times_placed r n (placement H) ≡ (if is_some (row_at (state (upto r H)) n) then 1 else 0)
  pub living : AllByRecursion (λ v. is_living v ≡ true → row_at (state H) v.id ≡ Some v.row) (placement H).versions
  pub bases : AllByRecursion (λ s. s.base ≤ s.born) (placement H).segments
  pub births : AllByRecursion (λ s. s.born ≤ length H) (placement H).segments

abbrev pub PlacedRowsAreRows : Type 0
PlacedRowsAreRows = OfHistories PlacesAreRows

-- a row that rests in some segments is a row of the content: so are the unmarked rows of a plan's inputs at its base
abbrev pub RestingRowsAreRows : Type 0
RestingRowsAreRows = OfHistories (λ H. (numbers : List ℕ) (n : ℕ) → rests_in numbers (placement H).segments n ≡ true → is_some (row_at (state H) n) ≡ true)

-- some living segment has the row at an unmarked place
abbrev pub lies_in : List Segment → ℕ → Bool
lies_in segments n = list_any (λ s. is_in_use s && list_any (λ x. x.id == n && is_free x) s.spots) segments

-- each row stands strictly before the next one in file order
abbrev pub in_order_from : Schema → ℕ × RowOf → Table → Bool
in_order_from schema p [] = true
in_order_from schema p (q ∷ rows) = stands_before schema p q && in_order_from schema q rows

abbrev pub is_in_file_order : Schema → Table → Bool
is_in_file_order schema [] = true
is_in_file_order schema (p ∷ rows) = in_order_from schema p rows

-- a segment of this base has at least one row and at most segment_rows; its row numbers are distinct, each has a row at the base, and these rows are in file order
pub record IsFile (schema : Schema) (options : Options) (H : History) (b : ℕ) (ids : List ℕ) : Type 0 where
  pub rows : row_ids (rows_by (state (upto b H)) ids) ≡ ids
  pub order : is_in_file_order schema (rows_by (state (upto b H)) ids) ≡ true
  pub distinct : are_distinct ids ≡ true
  pub from : AllByRecursion (λ n. 1 ≤ n) ids
  pub below : AllByRecursion (λ n. n < next H) ids
  pub some : 1 ≤ length ids
  pub most : length ids ≤ options.segment_rows

-- segments have files, and their numbers rise from 1 to the last that was given
pub record SegmentsHaveFiles (schema : Schema) (options : Options) (H : History) : Type 0 where
  pub files : AllByRecursion (λ s. IsFile schema options H s.base (spot_ids s.spots)) (placement H).segments
  pub rising : rise_from 0 (map (λ s. s.number) (placement H).segments) ≡ true
  pub named : AllByRecursion (λ s. s.number ≤ last_segment H) (placement H).segments

abbrev pub SegmentsAreFiles : Type 0
SegmentsAreFiles = (schema : Schema) (options : Options) (H : History) → AllFit schema options H → SegmentsHaveFiles schema options H

-- the three facts on numbers, with who holds a row
pub record NumbersAreRight (H : History) : Type 0 where
  pub once : (n : ℕ) → times_placed (length H) n (placement H) ≤ 1
  pub rows_from : (n : ℕ) → is_some (row_at (state H) n) ≡ true → 1 ≤ n
  pub rows_below : (n : ℕ) → is_some (row_at (state H) n) ≡ true → n < next H
  pub placed_from : (n : ℕ) → 1 ≤ times_placed (length H) n (placement H) → 1 ≤ n
  pub placed_below : (n : ℕ) → 1 ≤ times_placed (length H) n (placement H) → n < next H
  pub held_from : (k n : ℕ) → holds H k n ≡ true → 1 ≤ n
  pub held_below : (k n : ℕ) → holds H k n ≡ true → n < next H
  pub held_lies : (k n : ℕ) → holds H k n ≡ true → lies_in (placement H).segments n ≡ false
  pub one_holder : (j k n : ℕ) → holds H j n ≡ true → holds H k n ≡ true → j ≡ k
  pub by_session : (k n : ℕ) → holds H k n ≡ true → is_session k ≡ true

abbrev pub RowNumbersAreRight : Type 0
RowNumbersAreRight = OfHistories NumbersAreRight

-- the horizon is at most the length and each open pin
pub record IsPinned (H : History) : Type 0 where
  pub by : (placement H).horizon ≤ length H
  pub pins : (k t : ℕ) → is_session k ≡ true → pin_of H k ≡ Some t → (placement H).horizon ≤ t

abbrev pub HorizonsArePinned : Type 0
HorizonsArePinned = OfHistories IsPinned

-- an entry that says where rows lie, and not what they are
abbrev pub is_physical : What → Bool
is_physical (Move places) = true
is_physical (Flush f) = true
is_physical (Merge m) = true
is_physical (Upload number) = true
is_physical (Evict numbers) = true
is_physical (Vacuum h) = true
is_physical _ = false

-- such an entry changes no content, and no placed row at a timestamp from the new horizon on
pub record ChangesNoRow (H : History) (e : Entry) : Type 0 where
  pub content : state (H ▷ e) ≡ state H
  pub horizon : (placement H).horizon ≤ (placement (H ▷ e)).horizon
  pub placed : (r : ℕ) → (placement (H ▷ e)).horizon ≤ r → r ≤ length H → by_number (placed_rows r (H ▷ e)) ≡ by_number (placed_rows r H)

abbrev pub PhysicalEntriesChangeNoRow : Type 0
PhysicalEntriesChangeNoRow = (schema : Schema) (options : Options) (H : History) (e : Entry) → AllFit schema options (H ▷ e) → is_physical e.what ≡ true → ChangesNoRow H e

-- only COMMIT changes the content: so what holds of the content, as that unique keys are distinct, holds after each other entry
abbrev pub is_commit : What → Bool
is_commit Commit = true
is_commit _ = false

abbrev pub OnlyCommitsChange : Type 0
OnlyCommitsChange = (H : History) (e : Entry) → is_commit e.what ≡ false → state (H ▷ e) ≡ state H
