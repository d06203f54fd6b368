-- The content after a history with each actor's open writes, as a fold over the entries keeps it.
use Rattle.std.specs.Prelude.{◌≡◌, ℕ, suc, ◌+◌, ◌<◌, ◌≤◌, Bool, true, false, List, [], ◌∷◌, Option, Some, None, length, map, filter, slice_index_or, not, ◌&&◌, ◌||◌, ◌==◌, if◌then◌else◌, is_some, unwrap_or, nat_lt, nat_le}
use Rattle.std.specs.List.{find, list_all}
use Rattle.std.specs.Option.{option_map, option_or}
use Rattle.s2_value.specs.declared.schemas.Schema.{Schema}
use Rattle.s2_value.specs.declared.values.Value.{Value}
use Rattle.s2_value.specs.Rows.{key_of}
use Rattle.s2_model.specs.declared.entries.Change.{Change}
use Rattle.s2_model.specs.declared.entries.Change.TheVariants.{Put, Drop}
use Rattle.s2_model.specs.declared.entries.What.{What}
use Rattle.s2_model.specs.declared.outcomes.Said.{Said}
use Rattle.s2_model.specs.declared.replies.Reply.{Reply}
use Rattle.s2_model.specs.declared.replies.Reply.TheVariants.{Changed, Done, Rows, Refused}
use Rattle.s2_model.specs.declared.replies.Refusal.{Refusal}
use Rattle.s2_model.specs.declared.replies.Refusal.TheVariants.{LogFull, TooManyRows, Locked, OutOfRange, LockedValue, Duplicate, ReadOnly, NoTransaction, AlreadyOpen, Memory}
use Rattle.s2_model.specs.declared.statements.Stmt.{Stmt}
use Rattle.s2_model.specs.declared.statements.Stmt.TheVariants.{Insert, Update, Delete}
use Rattle.s2_model.specs.Table.{Table, row_at, apply, touches, number_of, IsTable}
use Rattle.s2_model.specs.History.{History, state, pending, greatest, upto, own, extended, is_session, is_running, pin_of}
use Rattle.s2_model.specs.Held.{sessions, has_value}
use Rattle.s2_model.specs.Fits.{rise, put_fits, put_on_from}
use Rattle.s2_model.specs.Verdict.{Ruled, first_some, first_from, puts_from, updated, too_many, out_of_range, duplicate, write_or, refused, last_length}
use Rattle.s2_model.specs.Legal.{Answers, pin_for}

-- the open writes of an actor, where each of the 256 numbers has its own
abbrev pub open_of : List (List Change) → ℕ → List Change
open_of ws k = slice_index_or ws k []

-- the content, the open writes and the greatest row number are those after the history
pub record IsWorld (rows : Table) (ws : List (List Change)) (last : ℕ) (H : History) : Type 0 where
  pub content : rows ≡ state H
  pub actors : length ws ≡ 256
  pub writes : (k : ℕ) → k < 256 → open_of ws k ≡ pending H k
  pub number : last ≡ greatest H

-- whether an actor is in a transaction that writes, and whether it reads at a pin
abbrev pub flag_of : List Bool → ℕ → Bool
flag_of flags k = slice_index_or flags k false

-- the flags of each actor are those after the history
pub record IsBounds (running pinned : List Bool) (H : History) : Type 0 where
  pub running_actors : length running ≡ 256
  pub pinned_actors : length pinned ≡ 256
  pub runs : (k : ℕ) → k < 256 → flag_of running k ≡ is_running H k
  pub pins : (k : ℕ) → k < 256 → flag_of pinned k ≡ is_some (pin_of H k)

-- the history ends at the session's pin, if it has one
abbrev pub PinIsLast : History → ℕ → Type 0
PinIsLast H k = (t : ℕ) → pin_of H k ≡ Some t → t ≡ length H

-- the same, unless the statement ends the pin
abbrev pub IsAtPin : History → ℕ → Stmt → Type 0
IsAtPin H k stmt = (t : ℕ) → pin_for (pin_of H k) stmt ≡ Some t → t ≡ length H

-- what an actor sees
abbrev pub view_in : Table → List (List Change) → ℕ → Table
view_in rows ws k = apply rows (open_of ws k)

-- at a pin it sees the content alone
abbrev pub seen_in : Bool → Table → List (List Change) → ℕ → Table
seen_in pinned rows ws k = if pinned then rows else view_in rows ws k

-- at each time the numbers of the rows that an actor sees rise
abbrev pub AreTables : History → Type 0
AreTables H = (r k : ℕ) → IsTable (apply (state (upto r H)) (pending (upto r H) k))

-- there is a row of this number among those that the actor sees
abbrev pub sees_in : Table → List (List Change) → ℕ → ℕ → Bool
sees_in rows ws k n = is_some (row_at (view_in rows ws k) n)

-- the least session but this one that holds the row
abbrev pub holder_in : List (List Change) → ℕ → ℕ → Option ℕ
holder_in ws k n = find (λ j. not (j == k) && touches (open_of ws j) n) sessions

-- the first row that another holds
abbrev pub locked_in : List (List Change) → ℕ → Table → Option Refusal
locked_in ws k rows = first_some (λ p. option_map (λ j. Locked p.0 j) (holder_in ws k p.0)) rows

-- a row that there is is seen, and nobody else holds it
abbrev pub is_writable_in : Table → List (List Change) → ℕ → ℕ → Bool
is_writable_in rows ws k n = sees_in rows ws k n && not (is_some (holder_in ws k n))

-- the changes of a write to the rows that it matches; n is the next free number
abbrev pub changes_from : Stmt → Table → ℕ → List Change
changes_from (Insert xs) rows n = puts_from n xs
changes_from (Update sets pred) rows n = map (updated sets) rows
changes_from (Delete pred) rows n = map (λ p. Drop p.0) rows
changes_from _ rows n = []

-- an actor holds the value of the key
abbrev pub holds_value_in : Table → List (List Change) → ℕ → List ℕ → List Value → Bool
holds_value_in rows ws j key v = has_value key rows (open_of ws j) v

-- the least session but this one that holds it
abbrev pub value_holder_in : Table → List (List Change) → ℕ → List ℕ → List Value → Option ℕ
value_holder_in rows ws k key v = find (λ j. not (j == k) && holds_value_in rows ws j key v) sessions

abbrev pub locked_value_at_in : Table → List (List Change) → ℕ → ℕ → List ℕ → Change → Option Refusal
locked_value_at_in rows ws k i key (Put n x) = option_map (λ j. LockedValue i n j) (value_holder_in rows ws k key (key_of key x))
locked_value_at_in rows ws k i key (Drop n) = None

-- the least key, then the least row, then the least holder
abbrev pub locked_value_in : Table → List (List Change) → ℕ → List (List ℕ) → List Change → Option Refusal
locked_value_in rows ws k keys cs = first_from 1 (λ i key. first_some (locked_value_at_in rows ws k i key) cs) keys

-- two rows that the actor would see have one value of a key
abbrev pub duplicate_in : Table → List (List Change) → ℕ → List (List ℕ) → List Change → Option Refusal
duplicate_in rows ws k keys cs = duplicate (apply (view_in rows ws k) cs) keys cs

-- the first refusal of a write that matches these rows
abbrev pub refusal_in : List (List ℕ) → Table → List (List Change) → ℕ → Stmt → Table → List Change → Option Refusal
refusal_in keys rows ws k stmt found cs =
    option_or (too_many cs) (option_or (locked_in ws k found) (option_or (out_of_range stmt found)
    (option_or (locked_value_in rows ws k keys cs) (duplicate_in rows ws k keys cs))))

abbrev pub write_in : List (List ℕ) → Table → List (List Change) → Bool → ℕ → Stmt → Table → List Change → Ruled
write_in keys rows ws running k stmt found cs = write_or (refusal_in keys rows ws k stmt found cs) [] running cs

-- unless the history has no room
abbrev pub room_in : ℕ → Ruled → Ruled
room_in count other = if nat_lt last_length count then refused LogFull else other

-- the replies that a verdict on the built statements has
abbrev pub is_ruled_refusal : Refusal → Bool
is_ruled_refusal LogFull = true
is_ruled_refusal TooManyRows = true
is_ruled_refusal (Locked row holder) = true
is_ruled_refusal (OutOfRange row) = true
is_ruled_refusal (LockedValue key row holder) = true
is_ruled_refusal (Duplicate key row) = true
is_ruled_refusal ReadOnly = true
is_ruled_refusal NoTransaction = true
is_ruled_refusal AlreadyOpen = true
is_ruled_refusal _ = false

abbrev pub is_ruled : Reply → Bool
is_ruled (Changed n) = true
is_ruled Done = true
is_ruled (Rows cells) = true
is_ruled (Refused r) = is_ruled_refusal r
is_ruled _ = false

-- want of memory
abbrev pub is_memory_refusal : Refusal → Bool
is_memory_refusal Memory = true
is_memory_refusal _ = false

abbrev pub is_memory : Reply → Bool
is_memory (Refused r) = is_memory_refusal r
is_memory _ = false

-- a write fits, where there are no segments
abbrev pub write_fits_in : Schema → Table → List (List Change) → ℕ → Bool → ℕ → List Change → Bool
write_fits_in schema rows ws last pinned k cs =
    is_session k && not pinned && nat_lt 0 (length cs) && nat_le (length cs) 65536 && rise (map number_of cs) && list_all (put_fits schema) cs
    && list_all (λ c. nat_lt last (number_of c) || is_writable_in rows ws k (number_of c)) cs
    && put_on_from (suc last) (filter (λ c. nat_le (suc last) (number_of c)) cs)

-- of the whole history: the reply at r and the entries that stand directly after r
pub record IsMade (schema : Schema) (H : History) (k r : ℕ) (stmt : Stmt) (reply : Reply) (es : List What) : Type 0 where
  pub answer : Answers schema (upto r H) k stmt reply es
  pub stands : upto (r + length es) H ≡ extended k es (upto r H)

-- the only entries with which the reply is right, up to this length, or none are
abbrev pub IsEnd : History → ℕ → (List What → Type 0) → Option ℕ → Type 0
IsEnd H r P None = (es : List What) → P es → ⊥
IsEnd H r P (Some end) = (es : List What) × P es × (end ≡ r + length es) × (end ≤ length H) × ((others : List What) → P others → others ≡ es)

-- a reply after a session's last one, whose entries ended at a length, with a fault count: none of its entries stands between, and at a pin it reads there
pub record IsNext (schema : Schema) (H : History) (k floor was : ℕ) (stmt : Stmt) (d : Said) (es : List What) : Type 0 where
  pub from : floor ≤ d.r
  pub within : d.r ≤ length H
  pub time : (t : ℕ) → pin_for (pin_of (upto floor H) k) stmt ≡ Some t → d.r ≡ t
  pub quiet : own k (upto d.r H) ≡ own k (upto floor H)
  pub made : IsMade schema H k d.r stmt d.reply es
  pub faults : was ≤ d.faults

-- whether the entries stand directly after r, and where they end
abbrev pub IsStand : History → ℕ → ℕ → List What → Option ℕ → Type 0
IsStand H r k es None = upto (r + length es) H ≡ extended k es (upto r H) → ⊥
IsStand H r k es (Some end) = (end ≡ r + length es) × (end ≤ length H) × (upto (r + length es) H ≡ extended k es (upto r H))
