-- The outcome of a run in the order of the lines, and the law that it is right.
use Rattle.std.specs.Prelude.{◌≡◌, ℕ, Bool, true, List, [], map, ◌&&◌}
use Rattle.std.specs.List.{list_all}
use Rattle.s2_value.specs.declared.schemas.Schema.{Schema}
use Rattle.s2_model.specs.declared.entries.Entry.{Entry}
use Rattle.s2_model.specs.declared.statements.Stmt.{Stmt}
use Rattle.s2_model.specs.declared.statements.Stmt.TheVariants.{Begin, BeginReadOnly, Commit, Rollback}
use Rattle.s2_model.specs.declared.scripts.Line.{Line}
use Rattle.s2_model.specs.declared.scripts.Script.{Script}
use Rattle.s2_model.specs.declared.outcomes.Said.{Said}
use Rattle.s2_model.specs.declared.outcomes.Transcript.{Transcript}
use Rattle.s2_model.specs.History.{history, is_session}
use Rattle.s2_model.specs.Fits.{AllFit}
use Rattle.s2_model.specs.Legal.{has_verdict, sessions_in}
use Rattle.s2_model.specs.Driven.{Drives, IsRightRun, said_by}
use Rattle.s2_answer.specs.Suits.{stmt_suits}

-- a line of a session whose statement has a verdict
abbrev pub is_spoken : Line → Bool
is_spoken line = is_session line.session && has_verdict line.stmt

-- a statement that opens or ends a transaction, or a SELECT or a write, whose rows and values fit the table
abbrev pub is_taken_stmt : Schema → Stmt → Bool
is_taken_stmt schema Begin = true
is_taken_stmt schema BeginReadOnly = true
is_taken_stmt schema Commit = true
is_taken_stmt schema Rollback = true
is_taken_stmt schema stmt = stmt_suits schema stmt

-- a line of a session with such a statement
abbrev pub is_taken : Schema → Line → Bool
is_taken schema line = is_session line.session && is_taken_stmt schema line.stmt

-- the replies to a session's lines, with no fault of a port
abbrev pub transcript_of : List Line → List Said → ℕ → Transcript
transcript_of lines saids k = record { session = k; faults = 0; said = said_by k lines saids }

-- a transcript for each session with a line
abbrev pub transcripts_of : List Line → List Said → List Transcript
transcripts_of lines saids = map (transcript_of lines saids) (sessions_in lines)

-- the law: where such lines are answered in turn and the history fits, the outcome is that of a right run
abbrev pub RunsInOrderAreRight : Type 0
RunsInOrderAreRight = (script : Script) (entries : List Entry) (saids : List Said) → list_all is_spoken script.lines ≡ true
    → AllFit script.schema script.options (history entries)
    → Drives script.schema [] script.lines saids (history entries)
    → IsRightRun script (record { history = entries; transcripts = transcripts_of script.lines saids })
