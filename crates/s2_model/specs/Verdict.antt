-- The verdict on a statement: its reply, and the entries that it makes.
use Rattle.std.specs.Prelude.{ℕ, suc, Bool, List, [], ◌∷◌, ◌++◌, Option, Some, None, filter, flat_map, map, length, not, nat_lt, ◌&&◌, if◌then◌else◌, ◌==◌, is_some, is_none, unwrap_or}
use Rattle.std.specs.Option.{option_map, option_or}
use Rattle.std.specs.List.{list_any, find, enumerate_from}
use Rattle.s2_value.specs.declared.values.Value.{Value}
use Rattle.s2_value.specs.declared.schemas.Schema.{Schema}
use Rattle.s2_value.specs.Order.{row_eq}
use Rattle.s2_value.specs.Rows.{key_of}
use Rattle.s2_model.specs.declared.entries.Change.{Change}
use Rattle.s2_model.specs.declared.entries.Change.TheVariants.{Put, Drop}
use Rattle.s2_model.specs.declared.entries.What.{What}
use Rattle.s2_model.specs.declared.entries.What.TheVariants as what
use Rattle.s2_model.specs.declared.statements.SetExpr.{SetExpr}
use Rattle.s2_model.specs.declared.statements.Stmt.{Stmt}
use Rattle.s2_model.specs.declared.statements.Stmt.TheVariants.{Insert, Update, Delete, Select, Begin, BeginReadOnly, Commit, Rollback}
use Rattle.s2_model.specs.declared.replies.Reply.{Reply}
use Rattle.s2_model.specs.declared.replies.Reply.TheVariants.{Changed, Done, Rows, Refused, Nothing}
use Rattle.s2_model.specs.declared.replies.Refusal.{Refusal}
use Rattle.s2_model.specs.declared.replies.Refusal.TheVariants as refusal
use Rattle.s2_model.specs.Table.{Table, RowOf, apply}
use Rattle.s2_model.specs.History.{History, is_running, is_open, pin_of, next, view}
use Rattle.s2_model.specs.Rows.{matches, after}
use Rattle.s2_model.specs.Answer.{answer}
use Rattle.s2_model.specs.Held.{holds, holds_value, sessions}
use Rattle.s2_model.specs.Placement.{Segment, placement, contains_number, is_in_use, is_free}

-- the last length of a history at which a statement that appends is taken
abbrev pub last_length : ℕ
last_length = 4194240

-- the most rows that a statement inserts, updates or deletes
abbrev pub most_rows : ℕ
most_rows = 65536

-- the first of these that has an answer
abbrev pub first_some : {X Y : Type 0} → (X → Option Y) → List X → Option Y
first_some f [] = None
first_some f (x ∷ xs) = option_or (f x) (first_some f xs)

-- the same, each with its place counted from n
abbrev pub first_from : {X Y : Type 0} → ℕ → (ℕ → X → Option Y) → List X → Option Y
first_from n f [] = None
first_from n f (x ∷ xs) = option_or (f n x) (first_from (suc n) f xs)

-- what a write does

-- Put for the rows in turn, their numbers from n on
abbrev pub puts_from : ℕ → List RowOf → List Change
puts_from n [] = []
puts_from n (x ∷ xs) = Put n x ∷ puts_from (suc n) xs

-- the rows of the view that a write matches
abbrev pub matched : Stmt → Table → Table
matched (Update sets pred) rows = filter (λ p. matches pred p.1) rows
matched (Delete pred) rows = filter (λ p. matches pred p.1) rows
matched _ rows = []

-- the changes of a write to a view, by rising row number; n is the next free number
abbrev pub updated : List (ℕ × SetExpr) → ℕ × RowOf → Change
updated sets p = Put p.0 (unwrap_or (after sets p.1) p.1)

abbrev pub changes : Stmt → Table → ℕ → List Change
changes (Insert xs) rows n = puts_from n xs
changes (Update sets pred) rows n = map (updated sets) (matched (Update sets pred) rows)
changes (Delete pred) rows n = map (λ p. Drop p.0) (matched (Delete pred) rows)
changes _ rows n = []

-- the refusals of a write, in their order

-- more rows than a statement may change
abbrev pub too_many : List Change → Option Refusal
too_many cs = if nat_lt most_rows (length cs) then Some refusal.TooManyRows else None

-- the least session but this one that holds the row
abbrev pub other_holder : History → ℕ → ℕ → Option ℕ
other_holder H k n = find (λ j. not (j == k) && holds H j n) sessions

-- the first row that another holds
abbrev pub locked : History → ℕ → Table → Option Refusal
locked H k rows = first_some (λ p. option_map (λ j. refusal.Locked p.0 j) (other_holder H k p.0)) rows

-- the first row of which a sum leaves 64 bits
abbrev pub out_of_range : Stmt → Table → Option Refusal
out_of_range (Update sets pred) rows = first_some (λ p. if is_none (after sets p.1) then Some (refusal.OutOfRange p.0) else None) rows
out_of_range _ rows = None

-- the least session but this one that holds the value of the key
abbrev pub other_value_holder : History → ℕ → List ℕ → List Value → Option ℕ
other_value_holder H k key v = find (λ j. not (j == k) && holds_value H j key v) sessions

-- a change that puts a row with a value of the key that another holds
abbrev pub locked_value_at : History → ℕ → ℕ → List ℕ → Change → Option Refusal
locked_value_at H k i key (Put n x) = option_map (λ j. refusal.LockedValue i n j) (other_value_holder H k key (key_of key x))
locked_value_at H k i key (Drop n) = None

-- the least key, then the least row, then the least holder
abbrev pub locked_value : History → ℕ → List (List ℕ) → List Change → Option Refusal
locked_value H k keys cs = first_from 1 (λ i key. first_some (locked_value_at H k i key) cs) keys

-- some other row of the table has the value of the key
abbrev pub has_other : Table → List ℕ → ℕ → List Value → Bool
has_other rows key n v = list_any (λ p. not (p.0 == n) && row_eq (key_of key p.1) v) rows

abbrev pub duplicate_at : Table → ℕ → List ℕ → Change → Option Refusal
duplicate_at rows i key (Put n x) = if has_other rows key n (key_of key x) then Some (refusal.Duplicate i n) else None
duplicate_at rows i key (Drop n) = None

-- the least key, then the least row; the table is the view after the whole statement
abbrev pub duplicate : Table → List (List ℕ) → List Change → Option Refusal
duplicate rows keys cs = first_from 1 (λ i key. first_some (duplicate_at rows i key) cs) keys

-- the first refusal of a write that is allowed to write at all
abbrev pub refusal_of : Schema → History → ℕ → Stmt → Table → List Change → Option Refusal
refusal_of schema H k stmt rows cs =
    option_or (too_many cs) (option_or (locked H k (matched stmt rows)) (option_or (out_of_range stmt (matched stmt rows))
    (option_or (locked_value H k schema.uniques cs) (duplicate (apply rows cs) schema.uniques cs))))

-- the verdict

pub record Ruled : Type 0 where
  pub reply : Reply
  pub makes : List What

abbrev pub says : Reply → Ruled
says reply = record { reply = reply; makes = [] }

abbrev pub refused : Refusal → Ruled
refused r = says (Refused r)

abbrev pub makes : Reply → List What → Ruled
makes reply entries = record { reply = reply; makes = entries }

-- a write moves the rows that it matches out of segments first

-- the unmarked places of a segment with these row numbers
abbrev pub resting_in : List ℕ → Segment → List (ℕ × ℕ)
resting_in ids s = map (λ p. (s.number, p.0)) (filter (λ p. is_free p.1 && contains_number ids p.1.id) (enumerate_from 0 s.spots))

-- the places at which these rows lie in living segments, by segment, then by offset
abbrev pub resting_places : List Segment → List ℕ → List (ℕ × ℕ)
resting_places segments ids = flat_map (resting_in ids) (filter is_in_use segments)

abbrev pub move_of : List (ℕ × ℕ) → List What
move_of [] = []
move_of (p ∷ places) = what.Move (p ∷ places) ∷ []

-- a MOVE of the matched rows that lie in a segment, if any
abbrev pub moves : History → Table → List What
moves H [] = []
moves H (p ∷ rows) = move_of (resting_places (placement H).segments (map (λ q. q.0) (p ∷ rows)))

-- a write is committed at once where its actor isn't in a transaction
abbrev pub entries_of : Bool → List Change → List What
entries_of running cs = if running then what.Write cs ∷ [] else what.Write cs ∷ what.Commit ∷ []

-- a write without a refusal
abbrev pub written : List What → Bool → List Change → Ruled
written moved running [] = says (Changed 0)
written moved running (c ∷ cs) = makes (Changed (length (c ∷ cs))) (moved ++ entries_of running (c ∷ cs))

abbrev pub write_or : Option Refusal → List What → Bool → List Change → Ruled
write_or (Some r) moved running cs = refused r
write_or None moved running cs = written moved running cs

abbrev pub write_verdict : Schema → History → ℕ → Stmt → Ruled
write_verdict schema H k stmt =
    if is_some (pin_of H k) then refused refusal.ReadOnly
    else (if nat_lt last_length (length H) then refused refusal.LogFull
    else (let rows = view H k in let cs = changes stmt rows (next H) in
    write_or (refusal_of schema H k stmt rows cs) (moves H (matched stmt rows)) (is_running H k) cs))

-- COMMIT and ROLLBACK end whichever transaction is open
abbrev pub end_verdict : History → ℕ → What → Ruled
end_verdict H k entry =
    if is_some (pin_of H k) then makes Done (what.Unpin ∷ [])
    else (if is_running H k then makes Done (entry ∷ []) else refused refusal.NoTransaction)

abbrev pub begin_verdict : History → ℕ → What → Ruled
begin_verdict H k entry =
    if is_open H k then refused refusal.AlreadyOpen
    else (if nat_lt last_length (length H) then refused refusal.LogFull else makes Done (entry ∷ []))

abbrev pub verdict : Schema → History → ℕ → Stmt → Ruled
verdict schema H k (Select select) = says (Rows (answer select (view H k)))
verdict schema H k (Insert xs) = write_verdict schema H k (Insert xs)
verdict schema H k (Update sets pred) = write_verdict schema H k (Update sets pred)
verdict schema H k (Delete pred) = write_verdict schema H k (Delete pred)
verdict schema H k Begin = begin_verdict H k what.Begin
verdict schema H k BeginReadOnly = begin_verdict H k what.Pin
verdict schema H k Commit = end_verdict H k what.Commit
verdict schema H k Rollback = end_verdict H k what.Rollback
verdict schema H k _ = says Nothing
