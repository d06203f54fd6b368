-- What is written at each ending of a run, and its status.
use Rattle.std.specs.Prelude.{ℕ, List, [], ◌∷◌, ◌++◌, codes}
use Rattle.std.specs.Fmt.{decimal}
use Rattle.std.specs.String.{string_bytes}
use Rattle.s2_judge.specs.declared.kinds.Kind.{Kind}
use Rattle.s2_judge.specs.declared.kinds.Kind.TheVariants as fault
use Rattle.s2_reader.specs.declared.faults.ScriptFault.{ScriptFault}
use Rattle.s2_reader.specs.declared.faults.ScriptFault.TheVariants as refusal
use Rattle.s2_run.specs.declared.endings.Ending.{Ending}
use Rattle.s2_run.specs.declared.endings.Ending.TheVariants.{Usage, Help, SourceFault, NoScript, NoMemory, Output, Judged}
use Rattle.s2_check.specs.declared.answers.Checked.{Checked}
use Rattle.s2_check.specs.declared.answers.Checked.TheVariants.{Legal, Entry, Reply, NotOutput, BadScript}

-- how a run ends where the reader refuses its script
abbrev pub refusal_ending : ScriptFault → Ending
refusal_ending (refusal.Bad e) = NoScript e.line e.what
refusal_ending refusal.Memory = NoMemory

abbrev pub kind_name : Kind → List ℕ
kind_name fault.TooLong = codes "TooLong"
kind_name fault.NotUtf8 = codes "NotUtf8"
kind_name fault.BadToken = codes "BadToken"
kind_name fault.Syntax = codes "Syntax"
kind_name fault.LiteralRange = codes "LiteralRange"
kind_name fault.LiteralLong = codes "LiteralLong"
kind_name fault.Misplaced = codes "Misplaced"
kind_name fault.OptionValue = codes "OptionValue"
kind_name fault.Limit = codes "Limit"
kind_name fault.UnknownName = codes "UnknownName"
kind_name fault.RepeatedName = codes "RepeatedName"
kind_name fault.WrongType = codes "WrongType"
kind_name fault.JobOrder = codes "JobOrder"
kind_name fault.NotBuilt = codes "NotBuilt"

-- words and a line feed
abbrev pub line_text : List ℕ → List ℕ
line_text words = words ++ 10 ∷ []

abbrev pub script_error : ℕ → Kind → List ℕ
script_error line kind = line_text (codes "script error: line " ++ decimal line ++ codes ": " ++ kind_name kind)

abbrev pub entry_text : ℕ → List ℕ
entry_text entry = line_text (codes "not legal: entry " ++ decimal entry)

abbrev pub reply_text : ℕ → ℕ → List ℕ
reply_text session reply = line_text (codes "not legal: session " ++ decimal session ++ codes " reply " ++ decimal reply)

abbrev pub output_error : ℕ → List ℕ
output_error line = line_text (codes "not an output: line " ++ decimal line)

abbrev pub checked_text : Checked → List ℕ
checked_text Legal = line_text (codes "legal")
checked_text (Entry entry) = entry_text entry
checked_text (Reply session reply) = reply_text session reply
checked_text (NotOutput line) = output_error line
checked_text (BadScript line kind) = script_error line kind

abbrev pub text_of : Ending → List ℕ
text_of Usage = line_text (codes "usage error")
text_of (Help help) = string_bytes help
text_of SourceFault = line_text (codes "source fault")
text_of (NoScript line kind) = script_error line kind
text_of NoMemory = []
text_of (Output text) = text
text_of (Judged checked) = checked_text checked

abbrev pub checked_status : Checked → ℕ
checked_status Legal = 0
checked_status (Entry entry) = 7
checked_status (Reply session reply) = 7
checked_status (NotOutput line) = 7
checked_status (BadScript line kind) = 3

-- the status, unless there is no memory for the text or the sink fails
abbrev pub status_of : Ending → ℕ
status_of Usage = 2
status_of (Help help) = 0
status_of SourceFault = 4
status_of (NoScript line kind) = 3
status_of NoMemory = 6
status_of (Output text) = 0
status_of (Judged checked) = checked_status checked
