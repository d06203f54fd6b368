-- When an entry fits the history before it.
use Rattle.std.specs.Prelude.{◌≡◌, ◌≤◌, ℕ, suc, Bool, true, false, List, [], ◌∷◌, Option, Some, None, filter, flat_map, fold, map, min, length, not, nat_le, nat_lt, ◌&&◌, ◌||◌, ◌==◌, is_some, ⊤}
use Rattle.std.specs.List.{list_any, list_all, enumerate_from}
use Rattle.s2_value.specs.declared.schemas.Schema.{Schema}
use Rattle.s2_value.specs.Schemas.{fits}
use Rattle.s2_model.specs.declared.entries.Entry.{Entry}
use Rattle.s2_model.specs.declared.entries.Change.{Change}
use Rattle.s2_model.specs.declared.entries.Change.TheVariants.{Put, Drop}
use Rattle.s2_model.specs.declared.entries.FlushNote.{FlushNote}
use Rattle.s2_model.specs.declared.entries.MergeNote.{MergeNote}
use Rattle.s2_model.specs.declared.entries.What.{What}
use Rattle.s2_model.specs.declared.entries.What.TheVariants.{Begin, Write, Commit, Rollback, Pin, Unpin, Move, Flush, Merge, Upload, Evict, Vacuum}
use Rattle.s2_model.specs.declared.scripts.Options.{Options}
use Rattle.s2_model.specs.Table.{row_at, number_of}
use Rattle.s2_model.specs.History.{History, ◌▷◌, upto, is_session, is_running, pin_of, is_open, pending, next, view}
use Rattle.s2_model.specs.Held.{sessions, is_held_by_other}
use Rattle.s2_model.specs.Placement.{Segment, Spot, placement, lives, is_in_use, is_free}
use Rattle.s2_model.specs.Plan.{takes, can_take, plan, writes, rests_in, row_ids, cut, numbered}

-- who makes an entry

abbrev pub is_unpinned_session : History → ℕ → Bool
is_unpinned_session H k = is_session k && not (is_some (pin_of H k))

-- the worker of this number, or a session that isn't inside a pin
abbrev pub may_make : ℕ → History → ℕ → Bool
may_make worker H k = k == worker || is_unpinned_session H k

-- a write

-- a row is in the row store where it has a living version or a pending Put of the actor
abbrev pub puts : Change → ℕ → Bool
puts (Put m x) n = m == n
puts (Drop m) n = false

abbrev pub is_in_store : History → ℕ → ℕ → Bool
is_in_store H k n = lives (placement H).versions n || list_any (λ c. puts c n) (pending H k)

-- a row that there is can be written where the actor sees it, nobody else holds it, and it is in the row store
abbrev pub is_writable : History → ℕ → ℕ → Bool
is_writable H k n = is_some (row_at (view H k) n) && not (is_held_by_other H k n) && is_in_store H k n

abbrev pub put_fits : Schema → Change → Bool
put_fits schema (Put n x) = fits schema x
put_fits schema (Drop n) = true

-- the numbers rise
abbrev pub rise_from : ℕ → List ℕ → Bool
rise_from m [] = true
rise_from m (n ∷ ns) = nat_lt m n && rise_from n ns

abbrev pub rise : List ℕ → Bool
rise [] = true
rise (n ∷ ns) = rise_from n ns

-- the changes are Puts of the numbers from n on
abbrev pub put_on_from : ℕ → List Change → Bool
put_on_from n [] = true
put_on_from n (Put m x ∷ changes) = m == n && put_on_from (suc n) changes
put_on_from n (Drop m ∷ changes) = false

pub record WriteFits (schema : Schema) (H : History) (k : ℕ) (changes : List Change) : Type 0 where
  pub by : is_unpinned_session H k ≡ true
  pub some : nat_lt 0 (length changes) ≡ true
  pub most : nat_le (length changes) 65536 ≡ true
  pub rising : rise (map number_of changes) ≡ true
  pub rows : list_all (put_fits schema) changes ≡ true
  pub old : list_all (λ c. not (nat_lt (number_of c) (next H)) || is_writable H k (number_of c)) changes ≡ true
  pub new : put_on_from (next H) (filter (λ c. nat_le (next H) (number_of c)) changes) ≡ true

-- the last entry is a write of this actor
abbrev pub is_write : What → Bool
is_write (Write changes) = true
is_write _ = false

abbrev pub follows_write : History → ℕ → Bool
follows_write [] k = false
follows_write (H ▷ e) k = e.actor == k && is_write e.what

-- a move

abbrev pub is_free_at : ℕ → ℕ → List Spot → Bool
is_free_at o i [] = false
is_free_at o i (x ∷ spots) = (i == o && is_free x) || is_free_at o (suc i) spots

-- the place is alive and unmarked
abbrev pub is_free_place : List Segment → ℕ × ℕ → Bool
is_free_place segments p = list_any (λ s. s.number == p.0 && is_in_use s && is_free_at p.1 0 s.spots) segments

-- places go by segment, then by offset
abbrev pub place_lt : ℕ × ℕ → ℕ × ℕ → Bool
place_lt p q = nat_lt p.0 q.0 || (p.0 == q.0 && nat_lt p.1 q.1)

abbrev pub places_rise_from : ℕ × ℕ → List (ℕ × ℕ) → Bool
places_rise_from p [] = true
places_rise_from p (q ∷ places) = place_lt p q && places_rise_from q places

abbrev pub places_rise : List (ℕ × ℕ) → Bool
places_rise [] = true
places_rise (p ∷ places) = places_rise_from p places

pub record MoveFits (H : History) (k : ℕ) (places : List (ℕ × ℕ)) : Type 0 where
  pub by : is_unpinned_session H k ≡ true
  pub some : nat_lt 0 (length places) ≡ true
  pub rising : places_rise places ≡ true
  pub free : list_all (is_free_place (placement H).segments) places ≡ true

-- new segments

-- the number that the last new segment got, 0 where there was none
abbrev pub last_number : List (ℕ × List ℕ) → ℕ → ℕ
last_number news was = fold (λ n new. new.0) was news

abbrev pub last_segment_after : What → ℕ → ℕ
last_segment_after (Flush f) was = f.seg
last_segment_after (Merge m) was = last_number m.news was
last_segment_after _ was = was

abbrev pub last_segment : History → ℕ
last_segment [] = 0
last_segment (H ▷ e) = last_segment_after e.what (last_segment H)

-- segments are numbered from 1 on
abbrev pub next_segment : History → ℕ
next_segment H = suc (last_segment H)

-- the offsets of the numbers that pass, rising
abbrev pub offsets_where : (ℕ → Bool) → List ℕ → List ℕ
offsets_where test ids = map (λ p. p.0) (filter (λ p. test p.1) (enumerate_from 0 ids))

-- the rows are those that a flush took at the base; the marked ones are exactly those that can't be taken now, and aren't all
pub record FlushFits (schema : Schema) (options : Options) (H : History) (k : ℕ) (f : FlushNote) : Type 0 where
  pub by : may_make 17 H k ≡ true
  pub number : f.seg ≡ next_segment H
  pub base : f.base ≤ length H
  pub some : nat_lt 0 (length f.rows) ≡ true
  pub rows : f.rows ≡ row_ids (takes schema options (upto f.base H))
  pub marks : f.marked ≡ offsets_where (λ n. not (can_take f.base H n)) f.rows
  pub not_all : nat_lt (length f.marked) (length f.rows) ≡ true

-- each of the numbers is that of a living segment
abbrev pub are_in_use : List Segment → List ℕ → Bool
are_in_use segments numbers = list_all (λ n. list_any (λ s. s.number == n && is_in_use s) segments) numbers

-- the places of the new segments whose old place is marked
abbrev pub carried_places : List ℕ → List Segment → List (ℕ × List ℕ) → List (ℕ × ℕ)
carried_places olds segments news =
    flat_map (λ new. map (λ o. (new.0, o)) (offsets_where (λ n. not (rests_in olds segments n)) new.1)) news

-- the old segments are the plan at the base, all alive now; the new ones are what the merge writes, numbered on
pub record MergeFits (schema : Schema) (options : Options) (H : History) (k : ℕ) (m : MergeNote) : Type 0 where
  pub by : may_make 18 H k ≡ true
  pub base : m.base ≤ length H
  pub olds : plan options (upto m.base H) ≡ Some m.olds
  pub alive : are_in_use (placement H).segments m.olds ≡ true
  pub news : m.news ≡ numbered (next_segment H) (cut options.segment_rows (row_ids (writes schema m.olds (upto m.base H))))
  pub marks : m.marked ≡ carried_places m.olds (placement H).segments m.news

-- upkeep

abbrev pub is_unstored : List Segment → ℕ → Bool
is_unstored segments n = list_any (λ s. s.number == n && is_in_use s && not s.stored) segments

-- the segments whose local files can be dropped: stored, local, and not vacuumed yet
abbrev pub droppable : List Segment → List ℕ
droppable segments = map (λ s. s.number) (filter (λ s. s.stored && s.here) segments)

-- the least of the length and the open pins' timestamps
abbrev pub least_pin : ℕ → Option ℕ → ℕ
least_pin h None = h
least_pin h (Some t) = min h t

unfoldable pub least_needed : History → ℕ
least_needed H = fold (λ h k. least_pin h (pin_of H k)) (length H) sessions

-- the fields of each kind of entry

pub record BeginFits (H : History) (k : ℕ) : Type 0 where
  pub by : is_session k ≡ true
  pub idle : is_open H k ≡ false

pub record UploadFits (H : History) (k : ℕ) (number : ℕ) : Type 0 where
  pub by : may_make 19 H k ≡ true
  pub unstored : is_unstored (placement H).segments number ≡ true

pub record EvictFits (H : History) (k : ℕ) (numbers : List ℕ) : Type 0 where
  pub by : may_make 19 H k ≡ true
  pub some : nat_lt 0 (length numbers) ≡ true
  pub all : numbers ≡ droppable (placement H).segments

pub record VacuumFits (H : History) (k : ℕ) (h : ℕ) : Type 0 where
  pub by : may_make 17 H k ≡ true
  pub least : h ≡ least_needed H

abbrev pub FitsAs : Schema → Options → History → ℕ → What → Type 0
FitsAs schema options H k Begin = BeginFits H k
FitsAs schema options H k (Write changes) = WriteFits schema H k changes
FitsAs schema options H k Commit = (is_running H k || follows_write H k) ≡ true
FitsAs schema options H k Rollback = is_running H k ≡ true
FitsAs schema options H k Pin = BeginFits H k
FitsAs schema options H k Unpin = is_some (pin_of H k) ≡ true
FitsAs schema options H k (Move places) = MoveFits H k places
FitsAs schema options H k (Flush f) = FlushFits schema options H k f
FitsAs schema options H k (Merge m) = MergeFits schema options H k m
FitsAs schema options H k (Upload number) = UploadFits H k number
FitsAs schema options H k (Evict numbers) = EvictFits H k numbers
FitsAs schema options H k (Vacuum h) = VacuumFits H k h

-- the entry fits the history before it
abbrev pub Fits : Schema → Options → History → Entry → Type 0
Fits schema options H e = FitsAs schema options H e.actor e.what

-- each entry fits the history before it
abbrev pub AllFit : Schema → Options → History → Type 0
AllFit schema options [] = ⊤
AllFit schema options (H ▷ e) = AllFit schema options H × Fits schema options H e
