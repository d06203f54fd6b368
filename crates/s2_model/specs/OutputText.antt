-- How the outcome of a run is written.
use Rattle.std.specs.Prelude.{ℕ, ◌+◌, ◌/◌, ◌%◌, List, [], ◌∷◌, ◌++◌, length, codes, if◌then◌else◌, nat_lt}
use Rattle.std.specs.List.{flat_map}
use Rattle.std.specs.Fmt.{decimal, signed_decimal}
use Rattle.s2_value.specs.RowText.{row_text, text_text, separated}
use Rattle.s2_model.specs.declared.entries.Entry.{Entry}
use Rattle.s2_model.specs.declared.entries.Change.{Change}
use Rattle.s2_model.specs.declared.entries.Change.TheVariants.{Put, Drop}
use Rattle.s2_model.specs.declared.entries.FlushNote.{FlushNote}
use Rattle.s2_model.specs.declared.entries.MergeNote.{MergeNote}
use Rattle.s2_model.specs.declared.entries.What.{What}
use Rattle.s2_model.specs.declared.entries.What.TheVariants as what
use Rattle.s2_model.specs.declared.replies.Cell.{Cell}
use Rattle.s2_model.specs.declared.replies.Cell.TheVariants as cell
use Rattle.s2_model.specs.declared.replies.Reply.{Reply}
use Rattle.s2_model.specs.declared.replies.Reply.TheVariants as reply
use Rattle.s2_model.specs.declared.replies.Refusal.{Refusal}
use Rattle.s2_model.specs.declared.replies.Refusal.TheVariants as refusal
use Rattle.s2_model.specs.declared.outcomes.Said.{Said}
use Rattle.s2_model.specs.declared.outcomes.Transcript.{Transcript}
use Rattle.s2_model.specs.declared.outcomes.Outcome.{Outcome}

-- a number after a space
abbrev pub field : ℕ → List ℕ
field n = codes " " ++ decimal n

-- numbers, each after a space
abbrev pub fields : List ℕ → List ℕ
fields ns = flat_map field ns

-- two lower-case hexadecimal digits for each byte, after a space
abbrev pub hex_digit : ℕ → ℕ
hex_digit d = if nat_lt d 10 then 48 + d else 87 + d

abbrev pub hex_byte : ℕ → List ℕ
hex_byte b = hex_digit (b / 16) ∷ hex_digit (b % 16) ∷ []

abbrev pub digest_field : List ℕ → List ℕ
digest_field bytes = codes " " ++ flat_map hex_byte bytes

-- rows of an answer

abbrev pub cell_text : Cell → List ℕ
cell_text cell.Nothing = codes "NULL"
cell_text (cell.Int x) = signed_decimal x
cell_text (cell.Text t) = text_text t

abbrev pub cells_text : List Cell → List ℕ
cells_text cells = codes "(" ++ separated (codes ", ") cell_text cells ++ codes ")"

abbrev pub table_line : List Cell → List ℕ
table_line cells = cells_text cells ++ codes "\n"

-- a refusal: its number, its name and its fields
abbrev pub refusal_text : Refusal → List ℕ
refusal_text refusal.NoTransaction = codes "1 NoTransaction"
refusal_text refusal.AlreadyOpen = codes "2 AlreadyOpen"
refusal_text refusal.ReadOnly = codes "3 ReadOnly"
refusal_text refusal.LogFull = codes "4 LogFull"
refusal_text refusal.TooManyRows = codes "5 TooManyRows"
refusal_text (refusal.Locked row holder) = codes "6 Locked" ++ field row ++ field holder
refusal_text (refusal.OutOfRange row) = codes "7 OutOfRange" ++ field row
refusal_text (refusal.LockedValue key row holder) = codes "8 LockedValue" ++ field key ++ field row ++ field holder
refusal_text (refusal.Duplicate key row) = codes "9 Duplicate" ++ field key ++ field row
refusal_text (refusal.ReadFault count) = codes "10 ReadFault" ++ field count
refusal_text (refusal.WriteFault count) = codes "11 WriteFault" ++ field count
refusal_text (refusal.Overtaken seg base) = codes "12 Overtaken" ++ field seg ++ field base
refusal_text refusal.Memory = codes "13 Memory"
refusal_text refusal.NotYet = codes "14 NotYet"
refusal_text (refusal.Damaged seg kept found) = codes "15 Damaged" ++ field seg ++ digest_field kept ++ digest_field found
refusal_text (refusal.Unreadable seg) = codes "16 Unreadable" ++ field seg

-- a reply with its line feed, and the lines of its rows
abbrev pub reply_text : Reply → List ℕ
reply_text (reply.Changed n) = codes "OK" ++ field n ++ codes "\n"
reply_text reply.Done = codes "OK\n"
reply_text (reply.Rows rows) = codes "ROWS" ++ field (length rows) ++ codes "\n" ++ flat_map table_line rows
reply_text reply.Begun = codes "BEGUN\n"
reply_text (reply.Flushed seg) = codes "FLUSHED" ++ field seg ++ codes "\n"
reply_text (reply.Merged segs) = codes "MERGED" ++ fields segs ++ codes "\n"
reply_text (reply.Uploaded seg) = codes "UPLOADED" ++ field seg ++ codes "\n"
reply_text (reply.Evicted n) = codes "EVICTED" ++ field n ++ codes "\n"
reply_text (reply.Vacuumed h) = codes "VACUUMED" ++ field h ++ codes "\n"
reply_text reply.Nothing = codes "NOTHING\n"
reply_text (reply.Late n) = codes "LATE" ++ field n ++ codes "\n"
reply_text (reply.Refused r) = codes "ERROR " ++ refusal_text r ++ codes "\n"

-- its timestamp, its fault count and the reply
abbrev pub said_text : Said → List ℕ
said_text d = decimal d.r ++ field d.faults ++ codes " " ++ reply_text d.reply

-- entries

-- a place is a segment and an offset
abbrev pub place_field : ℕ × ℕ → List ℕ
place_field p = field p.0 ++ codes ":" ++ decimal p.1

abbrev pub change_text : Change → List ℕ
change_text (Put n row) = codes "PUT" ++ field n ++ codes " " ++ row_text row
change_text (Drop n) = codes "DROP" ++ field n

abbrev pub new_segment_text : ℕ × List ℕ → List ℕ
new_segment_text s = codes " TO" ++ field s.0 ++ codes " ROWS" ++ fields s.1

abbrev pub flush_text : FlushNote → List ℕ
flush_text f = codes "FLUSH" ++ field f.seg ++ codes " BASE" ++ field f.base ++ codes " ROWS" ++ fields f.rows ++ codes " MARKED" ++ fields f.marked

abbrev pub merge_text : MergeNote → List ℕ
merge_text m = codes "MERGE BASE" ++ field m.base ++ codes " FROM" ++ fields m.olds ++ flat_map new_segment_text m.news
    ++ codes " MARKED" ++ flat_map place_field m.marked

abbrev pub what_text : What → List ℕ
what_text what.Begin = codes "BEGIN"
what_text (what.Write changes) = codes "WRITE " ++ separated (codes ", ") change_text changes
what_text what.Commit = codes "COMMIT"
what_text what.Rollback = codes "ROLLBACK"
what_text what.Pin = codes "PIN"
what_text what.Unpin = codes "UNPIN"
what_text (what.Move places) = codes "MOVE" ++ flat_map place_field places
what_text (what.Flush f) = flush_text f
what_text (what.Merge m) = merge_text m
what_text (what.Upload seg) = codes "UPLOAD" ++ field seg
what_text (what.Evict segs) = codes "EVICT" ++ fields segs
what_text (what.Vacuum h) = codes "VACUUM" ++ field h

-- the actor and the entry
abbrev pub entry_text : Entry → List ℕ
entry_text e = decimal e.actor ++ codes " " ++ what_text e.what ++ codes "\n"

-- a session: its number, how many statements it has, its final fault count; then its replies
abbrev pub transcript_text : Transcript → List ℕ
transcript_text t = codes "SESSION" ++ field t.session ++ field (length t.said) ++ field t.faults ++ codes "\n" ++ flat_map said_text t.said

-- the sessions, the whole history, the end
abbrev pub history_text : List Entry → List ℕ
history_text entries = codes "HISTORY" ++ field (length entries) ++ codes "\n" ++ flat_map entry_text entries

abbrev pub output_text : Outcome → List ℕ
output_text outcome = flat_map transcript_text outcome.transcripts ++ history_text outcome.history ++ codes "END\n"
