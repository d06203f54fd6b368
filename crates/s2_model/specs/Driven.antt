-- A run of the lines of a script in their order, without threads.
use Rattle.std.specs.Prelude.{◌≡◌, ℕ, Bool, true, List, [], ◌∷◌, length, unwrap_or, if◌then◌else◌, nat_le}
use Rattle.std.specs.List.{list_all, AllByRecursion}
use Rattle.s2_value.specs.Schemas.{fits}
use Rattle.s2_model.specs.declared.statements.Stmt.TheVariants.{Insert, Select}
use Rattle.s2_model.specs.declared.statements.Stmt.{Stmt}
use Rattle.s2_model.specs.declared.entries.Entry.{Entry}
use Rattle.s2_model.specs.declared.outcomes.Transcript.{Transcript}
use Rattle.s2_model.specs.declared.outcomes.Outcome.{Outcome}
use Rattle.s2_model.specs.declared.scripts.Script.{Script}
use Rattle.s2_value.specs.declared.schemas.Schema.{Schema}
use Rattle.s2_model.specs.declared.entries.What.{What}
use Rattle.s2_model.specs.declared.scripts.Line.{Line}
use Rattle.s2_model.specs.declared.outcomes.Said.{Said}
use Rattle.s2_model.specs.History.{History, history, upto, pin_of, extended}
use Rattle.s2_model.specs.Legal.{Legal, Answers, pin_for, is_of_session}

-- a line is answered at the end of the history before it, or at its session's pin
pub record Turn (schema : Schema) (H : History) (line : Line) (d : Said) (es : List What) : Type 0 where
  pub time : d.r ≡ unwrap_or (pin_for (pin_of H line.session) line.stmt) (length H)
  pub answer : Answers schema (upto d.r H) line.session line.stmt d.reply es
  pub faults : d.faults ≡ 0

-- from the history H the lines are answered in turn, and the history is then this one
abbrev pub Drives : Schema → History → List Line → List Said → History → Type 0
Drives schema H [] [] whole = whole ≡ H
Drives schema H (line ∷ lines) (d ∷ saids) whole =
    (es : List What) × Turn schema H line d es × Drives schema (extended line.session es H) lines saids whole
Drives schema H [] (d ∷ saids) whole = ⊥
Drives schema H (line ∷ lines) [] whole = ⊥

-- the replies of one session among the replies to the lines
abbrev pub said_by : ℕ → List Line → List Said → List Said
said_by k (line ∷ lines) (d ∷ saids) = if is_of_session k line then d ∷ said_by k lines saids else said_by k lines saids
said_by k _ _ = []

-- a run of the lines in their order gave the outcome: its transcripts are the replies to each session's lines
pub record IsDriven (script : Script) (outcome : Outcome) : Type 0 where
  pub saids : List Said
  pub drives : Drives script.schema [] script.lines saids (history outcome.history)
  pub said : AllByRecursion (λ t. t.said ≡ said_by t.session script.lines saids) outcome.transcripts
  pub uncounted : AllByRecursion (λ t. t.faults ≡ 0) outcome.transcripts

-- scripts of one session without transactions

-- an INSERT of rows that fit the table, or a SELECT
abbrev pub IsSimpleStmt : Schema → Stmt → Type 0
IsSimpleStmt schema (Insert rows) = list_all (fits schema) rows ≡ true
IsSimpleStmt schema (Select select) = Unit {0}
IsSimpleStmt schema _ = ⊥

-- each line is such a statement of session 1
abbrev pub AreSimple : Schema → List Line → Type 0
AreSimple schema [] = Unit {0}
AreSimple schema (line ∷ lines) = (line.session ≡ 1) × IsSimpleStmt schema line.stmt × AreSimple schema lines

-- the transcript of session 1, where it has a line
abbrev pub one_transcript : List Said → List Transcript
one_transcript [] = []
one_transcript (d ∷ saids) = record { session = 1; faults = 0; said = d ∷ saids } ∷ []

-- no entry is of an actor above 16
abbrev pub are_of_sessions : History → Bool
are_of_sessions H = list_all (λ e. nat_le e.actor 16) H

-- what a run of a script in the order of its lines promises of its outcome
pub record IsRightRun (script : Script) (outcome : Outcome) : Type 0 where
  pub legal : Legal script outcome
  pub driven : IsDriven script outcome
  pub actors : are_of_sessions (history outcome.history) ≡ true

-- the law: where simple lines of session 1 are answered in turn, the outcome is that of a right run
abbrev pub SimpleRunsAreRight : Type 0
SimpleRunsAreRight = (script : Script) (entries : List Entry) (saids : List Said) → AreSimple script.schema script.lines
    → Drives script.schema [] script.lines saids (history entries)
    → IsRightRun script (record { history = entries; transcripts = one_transcript saids })
