-- What may come next in an output: rows of an answer, replies of a session, sessions, entries, the end.
use Rattle.std.specs.Prelude.{ℕ, ◌-◌, List, [], ◌∷◌, Option, Some, None, nat_lt, ◌&&◌, ◌==◌, if◌then◌else◌}
use Rattle.std.specs.Borrow.{Bor}
use Rattle.s2_token.specs.Lexing.{◌>>=◌}
use Rattle.s2_outread.specs.declared.forms.OutputLine.{OutputLine}
use Rattle.s2_outread.specs.declared.forms.OutputLine.TheVariants as line
use Rattle.s2_outread.specs.declared.expected.ExpectedOf.{ExpectedOf}
use Rattle.s2_outread.specs.declared.expected.ExpectedOf.TheVariants.{Replies, Entries, Nothing}

abbrev pub Plan : Type 0
Plan = ExpectedOf (List (ℕ × ℕ))

abbrev pub told : ExpectedOf (Bor (List (ℕ × ℕ))) → Plan
told (Replies sessions replies rows) = Replies sessions.now replies rows
told (Entries n) = Entries n
told Nothing = Nothing

abbrev pub at_first : List (ℕ × ℕ) → Plan
at_first sessions = Replies sessions 0 0

-- a session begins: it is the next one, with as many replies as it has lines
abbrev pub begun : List (ℕ × ℕ) → ℕ → ℕ → Option Plan
begun [] session count = None
begun (s ∷ later) session count = if s.0 == session && s.1 == count then Some (Replies later count 0) else None

-- the history comes after the last session
abbrev pub closed : List (ℕ × ℕ) → ℕ → Option Plan
closed [] count = Some (Entries count)
closed (s ∷ later) count = None

-- what is to come after a line, where it may come next
abbrev pub step : Plan → OutputLine → Option Plan
step (Replies sessions replies rows) (line.Row cells) = if nat_lt 0 rows then Some (Replies sessions replies (rows - 1)) else None
step (Replies sessions replies rows) (line.Said d) = if rows == 0 && nat_lt 0 replies then Some (Replies sessions (replies - 1) 0) else None
step (Replies sessions replies rows) (line.Rows r faults count) = if rows == 0 && nat_lt 0 replies then Some (Replies sessions (replies - 1) count) else None
step (Replies sessions replies rows) (line.Session session count faults) = if rows == 0 && replies == 0 then begun sessions session count else None
step (Replies sessions replies rows) (line.History count) = if rows == 0 && replies == 0 then closed sessions count else None
step (Entries n) (line.Entry e) = if nat_lt 0 n then Some (Entries (n - 1)) else None
step (Entries n) line.End = if n == 0 then Some Nothing else None
step _ _ = None

abbrev pub run : Plan → List OutputLine → Option Plan
run plan [] = Some plan
run plan (l ∷ lines) = step plan l >>= λ next. run next lines
