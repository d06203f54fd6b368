-- What FLUSH, MERGE, UPLOAD, EVICT, VACUUM, MARK and AFTER answer.
use Rattle.std.specs.Prelude.{◌≡◌, ◌⊎◌, ◌≤◌, ℕ, ◌+◌, Bool, true, false, List, [], ◌∷◌, Option, Some, None, find, length, map, option_map, not, nat_lt, ◌&&◌, ◌||◌, if◌then◌else◌, is_some, MatchBool}
use Rattle.std.specs.List.{list_all}
use Rattle.s2_value.specs.declared.schemas.Schema.{Schema}
use Rattle.s2_model.specs.declared.statements.Stmt.{Stmt}
use Rattle.s2_model.specs.declared.statements.Stmt.TheVariants as stmt
use Rattle.s2_model.specs.declared.replies.Refusal.TheVariants.{ReadOnly, LogFull, WriteFault, Overtaken, NotYet}
use Rattle.s2_model.specs.declared.replies.Reply.{Reply}
use Rattle.s2_model.specs.declared.replies.Reply.TheVariants.{Done, Begun, Nothing, Flushed, Merged, Uploaded, Evicted, Vacuumed, Late, Refused}
use Rattle.s2_model.specs.declared.entries.FlushNote.{FlushNote}
use Rattle.s2_model.specs.declared.entries.MergeNote.{MergeNote}
use Rattle.s2_model.specs.declared.entries.What.{What}
use Rattle.s2_model.specs.declared.entries.What.TheVariants as entry
use Rattle.s2_model.specs.declared.scripts.Options.{Options}
use Rattle.s2_model.specs.History.{History, upto, pin_of}
use Rattle.s2_model.specs.Placement.{Segment, placement, is_in_use}
use Rattle.s2_model.specs.Plan.{takes, can_take, plan, writes, row_ids, cut, numbered}
use Rattle.s2_model.specs.Fits.{next_segment, last_segment, offsets_where, carried_places, are_in_use, is_unstored, droppable, least_needed}
use Rattle.s2_model.specs.Verdict.{last_length}

-- a reply and its entries
abbrev pub Answers : Reply → List What → Reply → List What → Type 0
Answers reply whats said made = (said ≡ reply) × (made ≡ whats)

-- the history has no room for another entry of this kind
abbrev pub is_full : History → Bool
is_full H = nat_lt last_length (length H)

-- the greatest number of a segment
abbrev pub most_segments : ℕ
most_segments = 4294967295

abbrev pub is_none_left : {X : Type 0} → List X → Bool
is_none_left [] = true
is_none_left (x ∷ xs) = false

-- a flush

abbrev pub flush_rows_at : Schema → Options → History → ℕ → List ℕ
flush_rows_at schema options H b = row_ids (takes schema options (upto b H))

-- the FLUSH entry of base b that fits
abbrev pub flush_note : Schema → Options → History → ℕ → FlushNote
flush_note schema options H b = record {
  seg = next_segment H;
  base = b;
  rows = flush_rows_at schema options H b;
  marked = offsets_where (λ n. not (can_take b H n)) (flush_rows_at schema options H b);
}

-- LogFull, Late where none of the rows can be taken any more, else the flush
abbrev pub FlushEnds : Schema → Options → History → ℕ → Reply → List What → Type 0
FlushEnds schema options H b said made =
    MatchBool (is_full H || nat_lt most_segments (next_segment H))
    (Answers (Refused LogFull) [] said made)
    (MatchBool (list_all (λ n. not (can_take b H n)) (flush_rows_at schema options H b))
    (Answers (Late b) [] said made)
    (Answers (Flushed (next_segment H)) (entry.Flush (flush_note schema options H b) ∷ []) said made))

abbrev pub is_flush_at : Schema → Options → History → ℕ → Bool
is_flush_at schema options H b = not (is_none_left (takes schema options (upto b H)))

-- a flush in one statement begins at some length from the floor on
pub record FlushesFrom (schema : Schema) (options : Options) (H : History) (floor : ℕ) (said : Reply) (made : List What) : Type 0 where
  pub base : ℕ
  pub from : floor ≤ base
  pub until : base ≤ length H
  pub begins : is_flush_at schema options H base ≡ true
  pub ends : FlushEnds schema options H base said made

-- a merge

abbrev pub merge_pieces : Schema → Options → History → ℕ → List ℕ → List (List ℕ)
merge_pieces schema options H b olds = cut options.segment_rows (row_ids (writes schema olds (upto b H)))

abbrev pub merge_news : Schema → Options → History → ℕ → List ℕ → List (ℕ × List ℕ)
merge_news schema options H b olds = numbered (next_segment H) (merge_pieces schema options H b olds)

-- the MERGE entry of base b that fits
abbrev pub merge_note : Schema → Options → History → ℕ → List ℕ → MergeNote
merge_note schema options H b olds = record {
  base = b;
  olds = olds;
  news = merge_news schema options H b olds;
  marked = carried_places olds (placement H).segments (merge_news schema options H b olds);
}

-- the first of the segments that is dead
abbrev pub first_dead : List Segment → List ℕ → Option ℕ
first_dead segments olds = find (λ n. not (are_in_use segments (n ∷ []))) olds

abbrev pub MergeWrites : Schema → Options → History → ℕ → List ℕ → Option ℕ → Reply → List What → Type 0
MergeWrites schema options H b olds (Some seg) said made = Answers (Refused (Overtaken seg b)) [] said made
MergeWrites schema options H b olds None said made =
    Answers (Merged (map (λ new. new.0) (merge_news schema options H b olds))) (entry.Merge (merge_note schema options H b olds) ∷ []) said made

-- LogFull, Overtaken where an input has died, else the merge
abbrev pub MergeEnds : Schema → Options → History → ℕ → List ℕ → Reply → List What → Type 0
MergeEnds schema options H b olds said made =
    MatchBool (is_full H || nat_lt most_segments (last_segment H + length (merge_pieces schema options H b olds)))
    (Answers (Refused LogFull) [] said made)
    (MergeWrites schema options H b olds (first_dead (placement H).segments olds) said made)

-- a merge in one statement begins at some length from the floor on
pub record MergesFrom (schema : Schema) (options : Options) (H : History) (floor : ℕ) (said : Reply) (made : List What) : Type 0 where
  pub base : ℕ
  pub olds : List ℕ
  pub from : floor ≤ base
  pub until : base ≤ length H
  pub begins : plan options (upto base H) ≡ Some olds
  pub ends : MergeEnds schema options H base olds said made

-- a merge that began at b ends by the plan of b
pub record MergesAt (schema : Schema) (options : Options) (H : History) (b : ℕ) (said : Reply) (made : List What) : Type 0 where
  pub olds : List ℕ
  pub begins : plan options (upto b H) ≡ Some olds
  pub ends : MergeEnds schema options H b olds said made

-- upkeep

-- the least living segment that isn't stored
abbrev pub first_unstored : List Segment → Option ℕ
first_unstored segments = option_map (λ s. s.number) (find (λ s. is_in_use s && not s.stored) segments)

abbrev pub UploadEnds : History → ℕ → Reply → List What → Type 0
UploadEnds H number said made =
    MatchBool (is_full H)
    (Answers (Refused LogFull) [] said made)
    (MatchBool (is_unstored (placement H).segments number)
    (Answers (Uploaded number) (entry.Upload number ∷ []) said made)
    (Answers (Late number) [] said made))

-- the segment was picked at some length from the floor on
pub record UploadsFrom (H : History) (floor : ℕ) (said : Reply) (made : List What) : Type 0 where
  pub number : ℕ
  pub at : ℕ
  pub from : floor ≤ at
  pub until : at ≤ length H
  pub picks : first_unstored (placement (upto at H)).segments ≡ Some number
  pub ends : UploadEnds H number said made

-- the port failed where a living segment isn't stored
pub record UploadFaults (H : History) (said : Reply) (made : List What) : Type 0 where
  pub count : ℕ
  pub unstored : is_some (first_unstored (placement H).segments) ≡ true
  pub says : Answers (Refused (WriteFault count)) [] said made

abbrev pub evict_whats : List ℕ → List What
evict_whats [] = []
evict_whats (n ∷ numbers) = entry.Evict (n ∷ numbers) ∷ []

-- what a statement outside a read-only transaction answers after the history H and which entries it makes. `job` is the base of the
-- session's job, where its BEGIN answered Begun; `is_set` tells of a mark whether a MARK of the run set it by then
abbrev pub WorksAs : Schema → Options → History → ℕ → Option ℕ → (ℕ → Bool) → Stmt → Reply → List What → Type 0
WorksAs schema options H floor job is_set stmt.FlushBegin said made =
    Answers (if is_flush_at schema options H (length H) then Begun else Nothing) [] said made
WorksAs schema options H floor None is_set stmt.FlushEnd said made = Answers Nothing [] said made
WorksAs schema options H floor (Some b) is_set stmt.FlushEnd said made = FlushEnds schema options H b said made
WorksAs schema options H floor job is_set stmt.Flush said made =
    (is_flush_at schema options H (length H) ≡ false) × (said ≡ Nothing) × (made ≡ []) ⊎ FlushesFrom schema options H floor said made
WorksAs schema options H floor job is_set stmt.MergeBegin said made =
    Answers (if is_some (plan options H) then Begun else Nothing) [] said made
WorksAs schema options H floor None is_set stmt.MergeEnd said made = Answers Nothing [] said made
WorksAs schema options H floor (Some b) is_set stmt.MergeEnd said made = MergesAt schema options H b said made
WorksAs schema options H floor job is_set stmt.Merge said made =
    (is_some (plan options H) ≡ false) × (said ≡ Nothing) × (made ≡ []) ⊎ MergesFrom schema options H floor said made
WorksAs schema options H floor job is_set stmt.Upload said made =
    (is_some (first_unstored (placement H).segments) ≡ false) × (said ≡ Nothing) × (made ≡ [])
    ⊎ (UploadFaults H said made ⊎ UploadsFrom H floor said made)
WorksAs schema options H floor job is_set stmt.Evict said made =
    MatchBool (is_full H)
    (Answers (Refused LogFull) [] said made)
    (Answers (Evicted (length (droppable (placement H).segments))) (evict_whats (droppable (placement H).segments)) said made)
WorksAs schema options H floor job is_set stmt.Vacuum said made =
    MatchBool (is_full H)
    (Answers (Refused LogFull) [] said made)
    (Answers (Vacuumed (least_needed H)) (entry.Vacuum (least_needed H) ∷ []) said made)
WorksAs schema options H floor job is_set (stmt.Mark n) said made = Answers Done [] said made
WorksAs schema options H floor job is_set (stmt.After n) said made =
    (is_set n ≡ true) × (said ≡ Done) × (made ≡ []) ⊎ Answers (Refused NotYet) [] said made
WorksAs schema options H floor job is_set _ said made = ⊥

-- inside a read-only transaction such a statement is refused
abbrev pub Works : Schema → Options → History → ℕ → ℕ → Option ℕ → (ℕ → Bool) → Stmt → Reply → List What → Type 0
Works schema options H k floor job is_set statement said made =
    MatchBool (is_some (pin_of H k))
    (Answers (Refused ReadOnly) [] said made)
    (WorksAs schema options H floor job is_set statement said made)
