-- What a flush takes and what a merge writes.
use Rattle.std.specs.Prelude.{ℕ, zero, suc, ◌+◌, ◌*◌, ◌^◌, Bool, List, [], ◌∷◌, Option, filter, find, flat_map, fold, map, option_map, length, take, drop, not, nat_le, ◌&&◌, if◌then◌else◌, ◌==◌}
use Rattle.std.specs.List.{list_any, range_with_len}
use Rattle.std.specs.Ordering.{is_lt, nat_cmp, ordering_then}
use Rattle.s2_value.specs.declared.schemas.Schema.{Schema}
use Rattle.s2_value.specs.Order.{row_cmp}
use Rattle.s2_value.specs.Rows.{key_of}
use Rattle.s2_model.specs.declared.scripts.Options.{Options}
use Rattle.s2_model.specs.Table.{Table, RowOf}
use Rattle.s2_model.specs.History.{History, state}
use Rattle.s2_model.specs.Held.{is_held}
use Rattle.s2_model.specs.Placement.{Segment, Version, placement, lives, is_in_use, is_free, is_living, contains_number}

-- file order: by sort key, then by row number

abbrev pub stands_before : Schema → ℕ × RowOf → ℕ × RowOf → Bool
stands_before schema p q =
    is_lt (ordering_then (row_cmp (key_of schema.sort p.1) (key_of schema.sort q.1)) (nat_cmp p.0 q.0))

abbrev pub into_file_order : Schema → ℕ × RowOf → Table → Table
into_file_order schema p [] = p ∷ []
into_file_order schema p (q ∷ rows) = if stands_before schema p q then p ∷ q ∷ rows else q ∷ into_file_order schema p rows

unfoldable pub file_order : Schema → Table → Table
file_order schema [] = []
file_order schema (p ∷ rows) = into_file_order schema p (file_order schema rows)

abbrev pub row_ids : Table → List ℕ
row_ids rows = map (λ p. p.0) rows

-- a flush

-- the row can be taken by a flush that begins: it has a living version, and nobody holds it
abbrev pub is_takeable : History → ℕ → Bool
is_takeable H n = lives (placement H).versions n && not (is_held H n)

-- a flush takes, by row number, the first segment_rows such rows, in file order
abbrev pub takes : Schema → Options → History → Table
takes schema options H = file_order schema (take options.segment_rows (filter (λ p. is_takeable H p.0) (state H)))

-- the row has a living version that began at or before b
abbrev pub lives_since : ℕ → List Version → ℕ → Bool
lives_since b versions n = list_any (λ v. v.id == n && is_living v && nat_le v.begin b) versions

-- a row that a flush took at b can still be taken: nobody holds it, and its living version is the one from then
abbrev pub can_take : ℕ → History → ℕ → Bool
can_take b H n = lives_since b (placement H).versions n && not (is_held H n)

-- a merge

-- a run: what one FLUSH or one MERGE made, with the number of its rows as written
pub record Run : Type 0 where
  pub born : ℕ
  pub numbers : List ℕ
  pub rows : ℕ

abbrev pub run_of : Segment → Run
run_of s = record { born = s.born; numbers = s.number ∷ []; rows = length s.spots }

abbrev pub joined : Segment → List Run → List Run
joined s [] = run_of s ∷ []
joined s (run ∷ runs) =
    if run.born == s.born
    then record { born = s.born; numbers = s.number ∷ run.numbers; rows = length s.spots + run.rows } ∷ runs
    else run_of s ∷ run ∷ runs

-- segments of one birth are one run; the oldest run comes first
abbrev pub runs_of : List Segment → List Run
runs_of [] = []
runs_of (s ∷ segments) = joined s (runs_of segments)

-- the tiers that a run can be in
unfoldable pub tiers : List ℕ
tiers = range_with_len 0 64

-- a run of so many rows is in the greatest tier t with flush_rows * fanout ^ t rows or more, and in tier 0 if there is none
abbrev pub tier_of : Options → ℕ → ℕ
tier_of options rows =
    fold (λ tier t. if nat_le (options.flush_rows * options.fanout ^ t) rows then t else tier) 0 tiers

abbrev pub runs_in_tier : Options → List Run → ℕ → List Run
runs_in_tier options runs t = filter (λ run. tier_of options run.rows == t) runs

-- the oldest fanout runs of the least tier that has so many
abbrev pub plan_of : Options → List Run → Option (List ℕ)
plan_of options runs =
    option_map (λ t. flat_map (λ run. run.numbers) (take options.fanout (runs_in_tier options runs t)))
    (find (λ t. nat_le options.fanout (length (runs_in_tier options runs t))) tiers)

-- the segments that a merge would replace
unfoldable pub plan : Options → History → Option (List ℕ)
plan options H = plan_of options (runs_of (filter is_in_use (placement H).segments))

-- the row lies at an unmarked place of a living segment of these numbers
abbrev pub rests_in : List ℕ → List Segment → ℕ → Bool
rests_in olds segments n =
    list_any (λ s. contains_number olds s.number && is_in_use s && list_any (λ x. x.id == n && is_free x) s.spots) segments

-- the rows that a merge of these segments writes: their unmarked ones, in file order
abbrev pub writes : Schema → List ℕ → History → Table
writes schema olds H = file_order schema (filter (λ p. rests_in olds (placement H).segments p.0) (state H))

-- the first size of them, and then what is left of them, so many times
abbrev pub cut_times : {X : Type 0} → ℕ → ℕ → List X → List (List X)
cut_times times size [] = []
cut_times zero size (x ∷ xs) = []
cut_times (suc times) size (x ∷ xs) = take size (x ∷ xs) ∷ cut_times times size (drop size (x ∷ xs))

-- cut into pieces of this size, the last one with the rest
abbrev pub cut : {X : Type 0} → ℕ → List X → List (List X)
cut size xs = cut_times (length xs) size xs

-- numbered on from s
abbrev pub numbered : ℕ → List (List ℕ) → List (ℕ × List ℕ)
numbered s [] = []
numbered s (ids ∷ pieces) = (s, ids) ∷ numbered (suc s) pieces
