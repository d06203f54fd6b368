-- The first fault of an outcome: the entries first, then the sessions by rising number, reply by reply.
use Rattle.std.specs.Prelude.{◌≡◌, ℕ, zero, suc, Bool, ◌≤◌, ◌<◌, true, List, [], ◌∷◌, length, map, if◌then◌else◌, ◌==◌, ◌⊎◌, Option, Some, None}
use Rattle.std.specs.List.{AllByRecursion}
use Rattle.s2_value.specs.declared.schemas.Schema.{Schema}
use Rattle.s2_model.specs.declared.entries.What.{What}
use Rattle.s2_model.specs.declared.outcomes.Outcome.{Outcome}
use Rattle.s2_model.specs.declared.outcomes.Said.{Said}
use Rattle.s2_model.specs.declared.outcomes.Transcript.{Transcript}
use Rattle.s2_model.specs.declared.scripts.Options.{Options}
use Rattle.s2_model.specs.declared.scripts.Script.{Script}
use Rattle.s2_model.specs.declared.statements.Stmt.{Stmt}
use Rattle.s2_model.specs.History.{History, ◌▷◌, history, own, is_session}
use Rattle.s2_model.specs.Fits.{Fits, AllFit}
use Rattle.s2_model.specs.Legal.{Legal, Walk, start, walked, Meets, marks_of, sessions_in, stmts_of}
use Rattle.s2_legal.specs.declared.answers.LegalAnswer.{LegalAnswer}
use Rattle.s2_legal.specs.declared.answers.LegalAnswer.TheVariants as answer

-- the transcripts are, by rising number, those of the sessions with a line, each with as many replies as lines
pub record IsWhole (script : Script) (outcome : Outcome) : Type 0 where
  pub sessions_are : map (λ t. t.session) outcome.transcripts ≡ sessions_in script.lines
  pub even : AllByRecursion (λ t. length t.said ≡ length (stmts_of t.session script.lines)) outcome.transcripts

-- the entry of this number, counted from 1, is the first that doesn't fit the history before it
abbrev pub IsFirstUnfit : Schema → Options → History → ℕ → Type 0
IsFirstUnfit schema options [] n = ⊥
IsFirstUnfit schema options (H ▷ e) n =
    IsFirstUnfit schema options H n ⊎ ((n ≡ length (H ▷ e)) × AllFit schema options H × (Fits schema options H e → ⊥))

-- the first n steps of a session are right from a stand on: a step is a reply, and behind the last one the end, where the fault count is final and no entry is left
abbrev pub AreRight : Schema → Options → (ℕ → ℕ → Bool) → History → ℕ → ℕ → ℕ → Walk → List Stmt → List Said → Type 0
AreRight schema options marks whole k faults zero w stmts saids = Unit {0}
AreRight schema options marks whole k faults (suc n) w [] [] = (w.faults ≤ faults) × (own k whole ≡ w.made)
AreRight schema options marks whole k faults (suc n) w (s ∷ stmts) (d ∷ saids) =
    (es : List What) × Meets schema options marks whole k w s d es × AreRight schema options marks whole k faults n (walked k w s d es) stmts saids
AreRight schema options marks whole k faults (suc n) w _ _ = ⊥

-- what a session says: its transcript, and nothing where it has none
abbrev pub transcript_of : ℕ → List Transcript → Transcript
transcript_of k [] = record { session = k; faults = 0; said = [] }
transcript_of k (t ∷ transcripts) = if t.session == k then t else transcript_of k transcripts

-- of an outcome the first n steps of session k are right
abbrev pub IsRightTo : Script → Outcome → ℕ → ℕ → Type 0
IsRightTo script outcome k n =
    AreRight script.schema script.options (marks_of script.lines outcome.transcripts) (history outcome.history) k
    (transcript_of k outcome.transcripts).faults n start (stmts_of k script.lines) (transcript_of k outcome.transcripts).said

-- all steps of session k are right: its replies, and its end
abbrev pub IsRight : Script → Outcome → ℕ → Type 0
IsRight script outcome k = IsRightTo script outcome k (suc (length (transcript_of k outcome.transcripts).said))

-- step i of session k, counted from 1, is the first fault of the replies
pub record IsReplyFault (script : Script) (outcome : Outcome) (k i : ℕ) : Type 0 where
  pub fits : AllFit script.schema script.options (history outcome.history)
  pub session : is_session k ≡ true
  pub earlier : (j : ℕ) → is_session j ≡ true → j < k → IsRight script outcome j
  pub before : ℕ
  pub step : i ≡ suc before
  pub right : IsRightTo script outcome k before
  pub wrong : IsRightTo script outcome k i → ⊥

-- what the answer says of the outcome
abbrev pub Judged : Script → Outcome → LegalAnswer → Type 0
Judged script outcome answer.Legal = Legal script outcome
Judged script outcome (answer.Entry n) = IsFirstUnfit script.schema script.options (history outcome.history) n
Judged script outcome (answer.Reply k i) = IsReplyFault script outcome k i

-- an outcome of such a shape has at most one answer
abbrev pub JudgedOnce : Type 0
JudgedOnce = (script : Script) (outcome : Outcome) (a b : LegalAnswer) → IsWhole script outcome → Judged script outcome a → Judged script outcome b → a ≡ b

-- of one session: it is right, or the step of this number is the first that isn't
abbrev pub IsFaultOf : Script → Outcome → ℕ → Option ℕ → Type 0
IsFaultOf script outcome k None = IsRight script outcome k
IsFaultOf script outcome k (Some i) = (n : ℕ) × (i ≡ suc n) × IsRightTo script outcome k n × (IsRightTo script outcome k i → ⊥)
