-- The lines of an output, and which of them may stand in one.
use Rattle.std.specs.Prelude.{◌≡◌, ℕ, ◌^◌, ◌<◌, true, List, [], ◌∷◌, ◌++◌, filter, map, length, codes, FitsSigned}
use Rattle.std.specs.Int.{w64, w128}
use Rattle.std.specs.Fmt.{decimal}
use Rattle.std.specs.List.{flat_map, AllByRecursion}
use Rattle.s2_value.specs.declared.values.Value.{Value}
use Rattle.s2_value.specs.declared.values.Value.TheVariants as value
use Rattle.s2_value.specs.Text.{is_txt}
use Rattle.s2_model.specs.declared.entries.Change.{Change}
use Rattle.s2_model.specs.declared.entries.Change.TheVariants as change
use Rattle.s2_model.specs.declared.entries.Entry.{Entry}
use Rattle.s2_model.specs.declared.entries.What.{What}
use Rattle.s2_model.specs.declared.entries.What.TheVariants as what
use Rattle.s2_model.specs.declared.replies.Cell.{Cell}
use Rattle.s2_model.specs.declared.replies.Cell.TheVariants as cell
use Rattle.s2_model.specs.declared.replies.Reply.{Reply}
use Rattle.s2_model.specs.declared.replies.Reply.TheVariants as reply
use Rattle.s2_model.specs.declared.replies.Refusal.{Refusal}
use Rattle.s2_model.specs.declared.replies.Refusal.TheVariants as refusal
use Rattle.s2_model.specs.declared.scripts.Line.{Line}
use Rattle.s2_model.specs.declared.outcomes.Said.{Said}
use Rattle.s2_model.specs.declared.outcomes.Transcript.{Transcript}
use Rattle.s2_model.specs.declared.outcomes.Outcome.{Outcome}
use Rattle.s2_model.specs.Legal.{is_of_session, sessions_in}
use Rattle.s2_model.specs.OutputText.{field, said_text, table_line, entry_text}
use Rattle.s2_outread.specs.declared.forms.OutputLine.{OutputLine}
use Rattle.s2_outread.specs.declared.forms.OutputLine.TheVariants as line

-- how a line is written, with its line feed
abbrev pub line_text : OutputLine → List ℕ
line_text (line.Session session count faults) = codes "SESSION" ++ field session ++ field count ++ field faults ++ codes "\n"
line_text (line.Said d) = said_text d
line_text (line.Rows r faults count) = decimal r ++ field faults ++ codes " ROWS" ++ field count ++ codes "\n"
line_text (line.Row cells) = table_line cells
line_text (line.History count) = codes "HISTORY" ++ field count ++ codes "\n"
line_text (line.Entry e) = entry_text e
line_text line.End = codes "END\n"

abbrev pub lines_text : List OutputLine → List ℕ
lines_text lines = flat_map line_text lines

-- the lines of an outcome

abbrev pub reply_lines : ℕ → ℕ → Reply → List OutputLine
reply_lines r faults (reply.Rows rows) = line.Rows r faults (length rows) ∷ map line.Row rows
reply_lines r faults other = line.Said (record { r = r; faults = faults; reply = other }) ∷ []

abbrev pub said_lines : Said → List OutputLine
said_lines d = reply_lines d.r d.faults d.reply

abbrev pub transcript_lines : Transcript → List OutputLine
transcript_lines t = line.Session t.session (length t.said) t.faults ∷ flat_map said_lines t.said

abbrev pub history_lines : List Entry → List OutputLine
history_lines entries = line.History (length entries) ∷ (map line.Entry entries ++ line.End ∷ [])

abbrev pub outcome_lines : Outcome → List OutputLine
outcome_lines run = flat_map transcript_lines run.transcripts ++ history_lines run.history

-- what the lines may say: the replies and entries of the statements that are built, with numbers and texts of their types

abbrev pub IsValue : Value → Type 0
IsValue (value.Int x) = FitsSigned w64 x
IsValue (value.Text t) = is_txt t ≡ true

abbrev pub IsCell : Cell → Type 0
IsCell cell.Nothing = Unit {0}
IsCell (cell.Int x) = FitsSigned w128 x
IsCell (cell.Text t) = is_txt t ≡ true

abbrev pub IsChange : Change → Type 0
IsChange (change.Put n row) = (n < 2 ^ 64) × AllByRecursion IsValue row
IsChange (change.Drop n) = n < 2 ^ 64

-- the refusals of INSERT, UPDATE, DELETE, SELECT and of the statements of transactions
abbrev pub IsRefusal : Refusal → Type 0
IsRefusal refusal.NoTransaction = Unit {0}
IsRefusal refusal.AlreadyOpen = Unit {0}
IsRefusal refusal.ReadOnly = Unit {0}
IsRefusal refusal.LogFull = Unit {0}
IsRefusal refusal.TooManyRows = Unit {0}
IsRefusal (refusal.Locked row holder) = (row < 2 ^ 64) × (holder < 2 ^ 8)
IsRefusal (refusal.OutOfRange row) = row < 2 ^ 64
IsRefusal (refusal.LockedValue key row holder) = (key < 2 ^ 8) × (row < 2 ^ 64) × (holder < 2 ^ 8)
IsRefusal (refusal.Duplicate key row) = (key < 2 ^ 8) × (row < 2 ^ 64)
IsRefusal refusal.Memory = Unit {0}
IsRefusal _ = ⊥

-- their replies that have one line
abbrev pub IsReply : Reply → Type 0
IsReply (reply.Changed n) = n < 2 ^ 32
IsReply reply.Done = Unit {0}
IsReply (reply.Refused r) = IsRefusal r
IsReply _ = ⊥

-- their entries
abbrev pub IsWhat : What → Type 0
IsWhat what.Begin = Unit {0}
IsWhat (what.Write changes) = AllByRecursion IsChange changes
IsWhat what.Commit = Unit {0}
IsWhat what.Rollback = Unit {0}
IsWhat what.Pin = Unit {0}
IsWhat what.Unpin = Unit {0}
IsWhat _ = ⊥

abbrev pub IsLine : OutputLine → Type 0
IsLine (line.Session session count faults) = (session < 2 ^ 8) × (count < 2 ^ 64) × (faults < 2 ^ 64)
IsLine (line.Said d) = (d.r < 2 ^ 64) × (d.faults < 2 ^ 64) × IsReply d.reply
IsLine (line.Rows r faults count) = (r < 2 ^ 64) × (faults < 2 ^ 64) × (count < 2 ^ 64)
IsLine (line.Row cells) = AllByRecursion IsCell cells
IsLine (line.History count) = count < 2 ^ 64
IsLine (line.Entry e) = (e.actor < 2 ^ 8) × IsWhat e.what
IsLine line.End = Unit {0}

-- the sessions

-- the sessions with a line, by rising number, each with how many lines it has
abbrev pub sessions_of : List Line → List (ℕ × ℕ)
sessions_of lines = map (λ k. (k, length (filter (is_of_session k) lines))) (sessions_in lines)

-- a transcript's session and how many replies it has
abbrev pub head_of : Transcript → ℕ × ℕ
head_of t = (t.session, length t.said)
