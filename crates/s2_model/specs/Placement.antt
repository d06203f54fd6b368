-- Where the rows lie: versions in the row store, and places in segments, each with the times between which they count.
use Rattle.std.specs.Prelude.{ℕ, Bool, true, false, List, [], ◌∷◌, ◌++◌, Option, Some, None, map, filter, filter_map, flat_map, option_map, length, not, nat_le, ◌&&◌, if◌then◌else◌, ◌==◌, is_some}
use Rattle.std.specs.List.{list_any, enumerate_from}
use Rattle.s2_model.specs.declared.entries.Change.{Change}
use Rattle.s2_model.specs.declared.entries.Change.TheVariants.{Put, Drop}
use Rattle.s2_model.specs.declared.entries.FlushNote.{FlushNote}
use Rattle.s2_model.specs.declared.entries.MergeNote.{MergeNote}
use Rattle.s2_model.specs.declared.entries.What.{What}
use Rattle.s2_model.specs.declared.entries.What.TheVariants.{Commit, Move, Flush, Merge, Upload, Evict, Vacuum}
use Rattle.s2_model.specs.Table.{Table, RowOf, row_at, touches}
use Rattle.s2_model.specs.History.{History, ◌▷◌, upto, state, pending}

-- a version in the row store: it is visible from its begin on, until its end
pub record Version : Type 0 where
  pub id : ℕ
  pub row : RowOf
  pub begin : ℕ
  pub stop : Option ℕ

-- the place of a row in a segment: it counts until it is marked
pub record Spot : Type 0 where
  pub id : ℕ
  pub mark : Option ℕ

-- a segment: its rows, in file order, are those of the content at its base; it is alive from its birth until its death
pub record Segment : Type 0 where
  pub number : ℕ
  pub spots : List Spot
  pub base : ℕ
  pub born : ℕ
  pub died : Option ℕ
  pub stored : Bool
  pub here : Bool

-- the segments stand in the order of their numbers
pub record Placement : Type 0 where
  pub versions : List Version
  pub segments : List Segment
  pub horizon : ℕ

abbrev pub contains_number : List ℕ → ℕ → Bool
contains_number ns n = list_any (λ m. m == n) ns

abbrev pub contains_place : List (ℕ × ℕ) → ℕ → ℕ → Bool
contains_place places s o = list_any (λ p. p.0 == s && p.1 == o) places

-- what times say

-- a time that is set and has come
abbrev pub is_done : ℕ → Option ℕ → Bool
is_done r None = false
is_done r (Some t) = nat_le t r

abbrev pub is_visible : ℕ → Version → Bool
is_visible r v = nat_le v.begin r && not (is_done r v.stop)

abbrev pub is_alive : ℕ → Segment → Bool
is_alive r s = nat_le s.born r && not (is_done r s.died)

abbrev pub is_unmarked : ℕ → Spot → Bool
is_unmarked r x = not (is_done r x.mark)

-- the same after all entries
abbrev pub is_living : Version → Bool
is_living v = not (is_some v.stop)

abbrev pub is_in_use : Segment → Bool
is_in_use s = not (is_some s.died)

abbrev pub is_free : Spot → Bool
is_free x = not (is_some x.mark)

-- the row has a living version
abbrev pub lives : List Version → ℕ → Bool
lives versions n = list_any (λ v. v.id == n && is_living v) versions

-- a time once set stays
abbrev pub set_at : ℕ → Option ℕ → Option ℕ
set_at t None = Some t
set_at t (Some u) = Some u

-- versions

abbrev pub end_version : ℕ → Version → Version
end_version t v = record v { stop = set_at t v.stop }

-- the living versions of these rows end at t
abbrev pub ended : ℕ → (ℕ → Bool) → List Version → List Version
ended t test versions = map (λ v. if test v.id then end_version t v else v) versions

abbrev pub new_version : ℕ → ℕ → RowOf → Version
new_version t n x = record { id = n; row = x; begin = t; stop = None }

-- a version of each changed row that its last change puts
abbrev pub begun : ℕ → List Change → List Version
begun t [] = []
begun t (Put n x ∷ changes) = if touches changes n then begun t changes else new_version t n x ∷ begun t changes
begun t (Drop n ∷ changes) = begun t changes

-- a version of each of these rows, as the content has it
abbrev pub copied : ℕ → Table → List ℕ → List Version
copied t rows ids = filter_map (λ n. option_map (new_version t n) (row_at rows n)) ids

-- segments

abbrev pub set_mark : ℕ → Spot → Spot
set_mark t x = record x { mark = set_at t x.mark }

-- the spots, from offset o on, with those at these offsets marked at t
abbrev pub mark_spots : ℕ → (ℕ → Bool) → ℕ → List Spot → List Spot
mark_spots t test o spots = map (λ p. if test p.0 then set_mark t p.1 else p.1) (enumerate_from o spots)

abbrev pub mark_segment : ℕ → List (ℕ × ℕ) → Segment → Segment
mark_segment t places s = record s { spots = mark_spots t (contains_place places s.number) 0 s.spots }

-- these places are marked at t
abbrev pub marked : ℕ → List (ℕ × ℕ) → List Segment → List Segment
marked t places segments = map (mark_segment t places) segments

-- the rows at those of the offsets, from o on, that are unmarked
abbrev pub free_ids_at : (ℕ → Bool) → ℕ → List Spot → List ℕ
free_ids_at test o spots = flat_map (λ p. if test p.0 && is_free p.1 then p.1.id ∷ [] else []) (enumerate_from o spots)

-- the rows at those of the places that are alive and unmarked
abbrev pub moved_ids : List (ℕ × ℕ) → List Segment → List ℕ
moved_ids places segments =
    flat_map (λ s. if is_in_use s then free_ids_at (contains_place places s.number) 0 s.spots else []) segments

-- the spots of new rows from offset o on; those at these offsets are marked from their birth
abbrev pub new_spots : ℕ → (ℕ → Bool) → ℕ → List ℕ → List Spot
new_spots t test o ids = map (λ p. record { id = p.1; mark = if test p.0 then Some t else None }) (enumerate_from o ids)

-- a segment that is born at t, local, and not stored yet
abbrev pub new_segment : ℕ → ℕ → ℕ → List Spot → Segment
new_segment t number base spots =
    record { number = number; spots = spots; base = base; born = t; died = None; stored = false; here = true }

abbrev pub flushed_segment : ℕ → FlushNote → Segment
flushed_segment t f = new_segment t f.seg f.base (new_spots t (contains_number f.marked) 0 f.rows)

abbrev pub merged_segments : ℕ → MergeNote → List Segment
merged_segments t m =
    map (λ new. new_segment t new.0 m.base (new_spots t (contains_place m.marked new.0) 0 new.1)) m.news

-- the rows of the unmarked spots
abbrev pub free_ids : List Spot → List ℕ
free_ids spots = map (λ x. x.id) (filter is_free spots)

abbrev pub end_segment : ℕ → Segment → Segment
end_segment t s = record s { died = set_at t s.died }

-- the segments of these numbers die at t
abbrev pub died_at : ℕ → List ℕ → List Segment → List Segment
died_at t numbers segments = map (λ s. if contains_number numbers s.number then end_segment t s else s) segments

abbrev pub store_segment : Segment → Segment
store_segment s = record s { stored = true }

abbrev pub drop_file : Segment → Segment
drop_file s = record s { here = false }

-- each kind of entry

-- the living version of each changed row ends, and the last Put begins
abbrev pub after_commit : ℕ → List Change → Placement → Placement
after_commit t changes P = record P { versions = ended t (touches changes) P.versions ++ begun t changes }

-- the places are marked, and versions of their rows begin
abbrev pub after_move : ℕ → List (ℕ × ℕ) → Table → Placement → Placement
after_move t places rows P = record P {
  versions = P.versions ++ copied t rows (moved_ids places P.segments);
  segments = marked t places P.segments;
}

-- the segment is born, and the living versions of its unmarked rows end
abbrev pub after_flush : ℕ → FlushNote → Placement → Placement
after_flush t f P = record P {
  versions = ended t (contains_number (free_ids (flushed_segment t f).spots)) P.versions;
  segments = P.segments ++ flushed_segment t f ∷ [];
}

-- the new segments are born, and the old ones die
abbrev pub after_merge : ℕ → MergeNote → Placement → Placement
after_merge t m P = record P { segments = died_at t m.olds P.segments ++ merged_segments t m }

-- the segment's file is in the blob store
abbrev pub after_upload : ℕ → Placement → Placement
after_upload number P = record P { segments = map (λ s. if s.number == number then store_segment s else s) P.segments }

-- the local files of these segments are dropped
abbrev pub after_evict : List ℕ → Placement → Placement
after_evict numbers P = record P {
  segments = map (λ s. if contains_number numbers s.number then drop_file s else s) P.segments;
}

-- what ended or died at or before the new horizon is removed
abbrev pub after_vacuum : ℕ → Placement → Placement
after_vacuum h P = record {
  versions = filter (λ v. not (is_done h v.stop)) P.versions;
  segments = filter (λ s. not (is_done h s.died)) P.segments;
  horizon = h;
}

-- the placement after an entry of timestamp t, from the content and the actor's pending changes before it
abbrev pub place_after : What → ℕ → Table → List Change → Placement → Placement
place_after Commit t rows changes P = after_commit t changes P
place_after (Move places) t rows changes P = after_move t places rows P
place_after (Flush f) t rows changes P = after_flush t f P
place_after (Merge m) t rows changes P = after_merge t m P
place_after (Upload number) t rows changes P = after_upload number P
place_after (Evict numbers) t rows changes P = after_evict numbers P
place_after (Vacuum h) t rows changes P = after_vacuum h P
place_after _ t rows changes P = P

abbrev pub nothing_placed : Placement
nothing_placed = record { versions = []; segments = []; horizon = 0 }

abbrev pub placement : History → Placement
placement [] = nothing_placed
placement (H ▷ e) = place_after e.what (length (H ▷ e)) (state H) (pending H e.actor) (placement H)

-- the row numbers of places
abbrev pub spot_ids : List Spot → List ℕ
spot_ids spots = map (λ x. x.id) spots

-- the rows of these numbers in a table
abbrev pub rows_by : Table → List ℕ → Table
rows_by rows ids = filter_map (λ n. option_map (λ row. (n, row)) (row_at rows n)) ids

-- the rows at these places, with their values in the content at b
abbrev pub rows_at_base : History → ℕ → List Spot → Table
rows_at_base H b spots = rows_by (state (upto b H)) (spot_ids spots)

-- the rows of a segment, in file order, with their values
abbrev pub rows_of : History → Segment → Table
rows_of H s = rows_at_base H s.base s.spots

-- all rows placed at r: the versions visible then, and the rows at the places alive and unmarked then
abbrev pub visible_rows : ℕ → List Version → Table
visible_rows r versions = map (λ v. (v.id, v.row)) (filter (is_visible r) versions)

abbrev pub segment_rows : ℕ → History → List Segment → Table
segment_rows r H segments =
    flat_map (λ s. rows_at_base H s.base (filter (is_unmarked r) s.spots)) (filter (is_alive r) segments)

abbrev pub placed_rows : ℕ → History → Table
placed_rows r H = visible_rows r (placement H).versions ++ segment_rows r H (placement H).segments
