-- A history is the list of its entries with the newest first, and what it says of its actors.
use Rattle.std.specs.Prelude.{ℕ, suc, Bool, true, false, List, [], ◌∷◌, ◌++◌, Option, Some, None, filter, fold, length, max, nat_lt, nat_le, ◌&&◌, ◌||◌, if◌then◌else◌, ◌==◌, is_some, reverse}
use Rattle.s2_model.specs.declared.entries.Entry.{Entry}
use Rattle.s2_model.specs.declared.entries.Change.{Change}
use Rattle.s2_model.specs.declared.entries.What.{What}
use Rattle.s2_model.specs.declared.entries.What.TheVariants.{Begin, Write, Commit, Rollback, Pin, Unpin}
use Rattle.s2_model.specs.Table.{Table, apply, number_of}

abbrev pub History : Type 0
History = List Entry

-- H ▷ e is the history H with e at its end
infixl 20 ◌▷◌
pattern abbrev pub ◌▷◌ : History → Entry → History
H ▷ e = e ∷ H

-- entries as they are written, the oldest first, as a history
abbrev pub history : List Entry → History
history entries = reverse entries

-- the first r entries: the history at timestamp r
abbrev pub upto : ℕ → History → History
upto r [] = []
upto r (H ▷ e) = if nat_lt (length H) r then H ▷ e else upto r H

-- sessions are the actors 1 to 16
abbrev pub is_session : ℕ → Bool
is_session k = nat_le 1 k && nat_le k 16

-- a transaction that writes is open from its BEGIN to its COMMIT or ROLLBACK
abbrev pub running_after : What → Bool → Bool
running_after Begin was = true
running_after Commit was = false
running_after Rollback was = false
running_after _ was = was

abbrev pub is_running : History → ℕ → Bool
is_running [] k = false
is_running (H ▷ e) k = if k == e.actor then running_after e.what (is_running H k) else is_running H k

-- a read-only transaction reads at the timestamp of its PIN until its UNPIN
abbrev pub pin_after : What → ℕ → Option ℕ → Option ℕ
pin_after Pin t was = Some t
pin_after Unpin t was = None
pin_after _ t was = was

abbrev pub pin_of : History → ℕ → Option ℕ
pin_of [] k = None
pin_of (H ▷ e) k = if k == e.actor then pin_after e.what (length (H ▷ e)) (pin_of H k) else pin_of H k

-- either kind of transaction is open
abbrev pub is_open : History → ℕ → Bool
is_open H k = is_running H k || is_some (pin_of H k)

-- the changes of the writes since the actor's last BEGIN, COMMIT or ROLLBACK
abbrev pub pending_after : What → List Change → List Change
pending_after Begin was = []
pending_after (Write changes) was = was ++ changes
pending_after Commit was = []
pending_after Rollback was = []
pending_after _ was = was

abbrev pub pending : History → ℕ → List Change
pending [] k = []
pending (H ▷ e) k = if k == e.actor then pending_after e.what (pending H k) else pending H k

-- the content: each COMMIT applies its actor's pending changes, and nothing else changes it
abbrev pub state_after : What → Table → List Change → Table
state_after Commit rows changes = apply rows changes
state_after _ rows changes = rows

abbrev pub state : History → Table
state [] = []
state (H ▷ e) = state_after e.what (state H) (pending H e.actor)

-- the greatest row number in any WRITE, and the next free one
abbrev pub greatest_in : List Change → ℕ → ℕ
greatest_in changes was = fold (λ n c. max n (number_of c)) was changes

abbrev pub greatest_after : What → ℕ → ℕ
greatest_after (Write changes) was = greatest_in changes was
greatest_after _ was = was

abbrev pub greatest : History → ℕ
greatest [] = 0
greatest (H ▷ e) = greatest_after e.what (greatest H)

abbrev pub next : History → ℕ
next H = suc (greatest H)

-- what an actor sees: the content at its pin, else the content with its own open writes applied
abbrev pub seen_at : Option ℕ → History → ℕ → Table
seen_at (Some t) H k = state (upto t H)
seen_at None H k = apply (state H) (pending H k)

abbrev pub view : History → ℕ → Table
view H k = seen_at (pin_of H k) H k

-- the entries that an actor made, the newest first
abbrev pub own : ℕ → History → History
own k H = filter (λ e. e.actor == k) H

-- a history with entries of one actor at its end, given the oldest first
abbrev pub extended : ℕ → List What → History → History
extended k [] H = H
extended k (w ∷ ws) H = extended k ws (H ▷ record { actor = k; what = w })
