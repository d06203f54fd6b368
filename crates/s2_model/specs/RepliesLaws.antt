-- Laws on replies: what a session has said stays right in each longer history, and sessions join to a run.
use Rattle.std.specs.Prelude.{◌≡◌, ℕ, ◌≤◌, Bool, true, false, List, [], ◌∷◌, ◌++◌, length, map}
use Rattle.std.specs.List.{list_any, AllByRecursion}
use Rattle.s2_value.specs.declared.schemas.Schema.{Schema}
use Rattle.s2_model.specs.declared.entries.What.{What}
use Rattle.s2_model.specs.declared.statements.Stmt.{Stmt}
use Rattle.s2_model.specs.declared.scripts.Options.{Options}
use Rattle.s2_model.specs.declared.scripts.Script.{Script}
use Rattle.s2_model.specs.declared.outcomes.Said.{Said}
use Rattle.s2_model.specs.declared.outcomes.Outcome.{Outcome}
use Rattle.s2_model.specs.declared.outcomes.Transcript.{Transcript}
use Rattle.s2_model.specs.History.{History, history, own, is_session}
use Rattle.s2_model.specs.Fits.{AllFit}
use Rattle.s2_model.specs.Legal.{Walk, walked, Meets, Replies, IsTranscript, IsTranscriptOf, Legal, marks_of, sessions_in, is_of_session}

-- a mark that is set in one is set in the other
abbrev pub MarksStay : (ℕ → ℕ → Bool) → (ℕ → ℕ → Bool) → Type 0
MarksStay marks marks' = (n r : ℕ) → marks n r ≡ true → marks' n r ≡ true

-- a reply that is right against a history is right against each longer one
abbrev pub ReplyStays : Type 0
ReplyStays = (schema : Schema) (options : Options) (marks marks' : ℕ → ℕ → Bool) (later whole : History) (k : ℕ) (w : Walk) (stmt : Stmt) (d : Said) (es : List What)
    → MarksStay marks marks' → w.floor ≤ length whole → Meets schema options marks whole k w stmt d es → Meets schema options marks' (later ++ whole) k w stmt d es

abbrev pub RepliesStay : Type 0
RepliesStay = (schema : Schema) (options : Options) (marks marks' : ℕ → ℕ → Bool) (later whole : History) (k : ℕ) (w : Walk) (stmts : List Stmt) (saids : List Said) (end : Walk)
    → MarksStay marks marks' → w.floor ≤ length whole → Replies schema options marks whole k w stmts saids end
    → Replies schema options marks' (later ++ whole) k w stmts saids end

-- one more reply that is right goes on with a session's replies
abbrev pub RepliesGoOn : Type 0
RepliesGoOn = (schema : Schema) (options : Options) (marks : ℕ → ℕ → Bool) (whole : History) (k : ℕ) (w : Walk) (stmts : List Stmt) (saids : List Said) (mid : Walk)
    (stmt : Stmt) (d : Said) (es : List What) → Replies schema options marks whole k w stmts saids mid → Meets schema options marks whole k mid stmt d es
    → Replies schema options marks whole k w (stmts ++ stmt ∷ []) (saids ++ d ∷ []) (walked k mid stmt d es)

-- a session's whole transcript stays right where none of the further entries are its own
abbrev pub TranscriptsStay : Type 0
TranscriptsStay = (schema : Schema) (options : Options) (marks marks' : ℕ → ℕ → Bool) (later whole : History) (k : ℕ) (stmts : List Stmt) (saids : List Said) (faults : ℕ)
    → MarksStay marks marks' → own k later ≡ [] → IsTranscript schema options marks whole k stmts saids faults
    → IsTranscript schema options marks' (later ++ whole) k stmts saids faults

-- a session's transcript is right against what the session has seen of the whole history, and none of the rest is its own
pub record IsSeenWell (script : Script) (whole : History) (marks : ℕ → ℕ → Bool) (t : Transcript) : Type 0 where
  pub seen : History
  pub later : History
  pub set : ℕ → ℕ → Bool
  pub parts : whole ≡ later ++ seen
  pub others : own t.session later ≡ []
  pub marked : MarksStay set marks
  pub said : IsTranscriptOf script seen set t

-- sessions that are each right against what they have seen are together a legal run
abbrev pub SessionsJoin : Type 0
SessionsJoin = (script : Script) (outcome : Outcome) → AllFit script.schema script.options (history outcome.history)
    → map (λ t. t.session) outcome.transcripts ≡ sessions_in script.lines
    → AllByRecursion (IsSeenWell script (history outcome.history) (marks_of script.lines outcome.transcripts)) outcome.transcripts
    → ((k : ℕ) → is_session k ≡ true → list_any (is_of_session k) script.lines ≡ false → own k (history outcome.history) ≡ [])
    → Legal script outcome
