-- When the replies of a run are those of its history.
use Rattle.std.specs.Prelude.{◌≡◌, ℕ, ◌+◌, ◌≤◌, ◌<◌, Bool, true, false, List, [], ◌∷◌, Option, Some, None, filter, map, length, nat_le, ◌&&◌, ◌||◌, if◌then◌else◌, ◌==◌, ◌⊎◌, MatchOption, unwrap_or, ⊤}
use Rattle.std.specs.List.{list_any, AllByRecursion}
use Rattle.s2_value.specs.declared.schemas.Schema.{Schema}
use Rattle.s2_model.specs.declared.entries.What.{What}
use Rattle.s2_model.specs.declared.entries.What.TheVariants.{Move}
use Rattle.s2_model.specs.declared.statements.Stmt.{Stmt}
use Rattle.s2_model.specs.declared.statements.Stmt.TheVariants.{Insert, Update, Delete, Select, Begin, BeginReadOnly, Commit, Rollback, FlushBegin, FlushEnd, MergeBegin, MergeEnd, Mark}
use Rattle.s2_model.specs.declared.replies.Reply.{Reply}
use Rattle.s2_model.specs.declared.replies.Reply.TheVariants.{Begun, Done, Refused}
use Rattle.s2_model.specs.declared.replies.Refusal.TheVariants.{Memory, ReadFault, WriteFault}
use Rattle.s2_model.specs.declared.scripts.Line.{Line}
use Rattle.s2_model.specs.declared.scripts.Script.{Script}
use Rattle.s2_model.specs.declared.outcomes.Said.{Said}
use Rattle.s2_model.specs.declared.outcomes.Outcome.{Outcome}
use Rattle.s2_model.specs.declared.outcomes.Transcript.{Transcript}
use Rattle.s2_model.specs.declared.scripts.Options.{Options}
use Rattle.s2_model.specs.History.{History, history, upto, pin_of, own, extended, is_session}
use Rattle.s2_model.specs.Fits.{AllFit}
use Rattle.s2_model.specs.Held.{sessions}
use Rattle.s2_model.specs.Verdict.{verdict}
use Rattle.s2_model.specs.Background.{Works}
use Rattle.s2_model.specs.Needed.{FaultsBy}

-- the statements whose replies are verdicts
abbrev pub has_verdict : Stmt → Bool
has_verdict (Insert rows) = true
has_verdict (Update sets pred) = true
has_verdict (Delete pred) = true
has_verdict (Select select) = true
has_verdict Begin = true
has_verdict BeginReadOnly = true
has_verdict Commit = true
has_verdict Rollback = true
has_verdict _ = false

-- COMMIT and ROLLBACK end the transaction that is open, and are never refused for want of memory
abbrev pub is_end : Stmt → Bool
is_end Commit = true
is_end Rollback = true
is_end _ = false

-- the reply and its entries are the verdict at the history H
pub record ByVerdict (schema : Schema) (H : History) (k : ℕ) (stmt : Stmt) (reply : Reply) (es : List What) : Type 0 where
  pub ruled : has_verdict stmt ≡ true
  pub reply_is : reply ≡ (verdict schema H k stmt).reply
  pub entries_are : es ≡ (verdict schema H k stmt).makes

-- the MOVE that comes before the verdict's other entries, if any
abbrev pub first_move : List What → List What
first_move (Move places ∷ whats) = Move places ∷ []
first_move _ = []

-- or there was no memory, and nothing was done but for the MOVE
pub record ForMemory (schema : Schema) (H : History) (k : ℕ) (stmt : Stmt) (reply : Reply) (es : List What) : Type 0 where
  pub may : is_end stmt ≡ false
  pub reply_is : reply ≡ Refused Memory
  pub moved : (es ≡ []) ⊎ (es ≡ first_move (verdict schema H k stmt).makes)

-- what session k may answer to a statement at the history H, and the entries that it then makes: the statement's own answer, or want of memory
abbrev pub Answers : Schema → History → ℕ → Stmt → Reply → List What → Type 0
Answers schema H k stmt reply es = ByVerdict schema H k stmt reply es ⊎ ForMemory schema H k stmt reply es

-- statements of background work, and failing ports

-- the greatest count of faults, at which a count stands still
abbrev pub most_faults : ℕ
most_faults = 18446744073709551615

-- the count in a fault of a port is its count after the statement, and greater than before, unless it stands still
abbrev pub Counted : ℕ → ℕ → Reply → Type 0
Counted was now (Refused (ReadFault count)) = (count ≡ now) × ((was < count) ⊎ (count ≡ most_faults))
Counted was now (Refused (WriteFault count)) = (count ≡ now) × ((was < count) ⊎ (count ≡ most_faults))
Counted was now _ = ⊤

abbrev pub is_begun : Reply → Bool
is_begun Begun = true
is_begun _ = false

-- the timestamp of a session's BEGIN of a flush or merge, where it answered Begun and no END came since
abbrev pub job_after : Stmt → Said → Option ℕ → Option ℕ
job_after FlushBegin d was = if is_begun d.reply then Some d.r else None
job_after MergeBegin d was = if is_begun d.reply then Some d.r else None
job_after FlushEnd d was = None
job_after MergeEnd d was = None
job_after _ d was = was

-- where a session reads: at its pin, but for the statement that ends the transaction
abbrev pub pin_for : Option ℕ → Stmt → Option ℕ
pin_for pin stmt = if is_end stmt then None else pin

-- one session's replies, in their order

-- what a session has said: where its last reply and the entries of it ended, its entries so far, the newest first, its last fault count, and the base of its job
pub record Walk : Type 0 where
  pub floor : ℕ
  pub made : History
  pub faults : ℕ
  pub job : Option ℕ

abbrev pub start : Walk
start = record { floor = 0; made = []; faults = 0; job = None }

-- after a reply that made these entries
abbrev pub walked : ℕ → Walk → Stmt → Said → List What → Walk
walked k w stmt d es = record { floor = d.r + length es; made = extended k es w.made; faults = d.faults; job = job_after stmt d w.job }

-- the answer of a statement of background work
pub record ByWork (schema : Schema) (options : Options) (marks : ℕ → ℕ → Bool) (H : History) (k : ℕ) (w : Walk) (stmt : Stmt) (d : Said) (es : List What) : Type 0 where
  pub background : has_verdict stmt ≡ false
  pub works : Works schema options H k w.floor w.job (λ n. marks n d.r) stmt d.reply es
  pub counted : Counted w.faults d.faults d.reply

-- the port failed
pub record ByFault (schema : Schema) (options : Options) (whole : History) (k : ℕ) (w : Walk) (stmt : Stmt) (d : Said) (es : List What) : Type 0 where
  pub fault : FaultsBy schema options whole d.r k (unwrap_or w.job 0) stmt d.reply
  pub nothing : es ≡ []
  pub counted : Counted w.faults d.faults d.reply

-- a reply of session k at its timestamp in the whole history, with the entries that it made: it is what the history at the timestamp says, or a fault of the port
abbrev pub Answered : Schema → Options → (ℕ → ℕ → Bool) → History → ℕ → Walk → Stmt → Said → List What → Type 0
Answered schema options marks whole k w stmt d es =
    Answers schema (upto d.r whole) k stmt d.reply es
    ⊎ (ByWork schema options marks (upto d.r whole) k w stmt d es ⊎ ByFault schema options whole k w stmt d es)

-- a reply of session k at the timestamp d.r of the whole history, and the entries that it made directly after it; `marks` tells of a mark whether it was set at a timestamp
pub record Meets (schema : Schema) (options : Options) (marks : ℕ → ℕ → Bool) (whole : History) (k : ℕ) (w : Walk) (stmt : Stmt) (d : Said) (es : List What) : Type 0 where
  -- it reads at the session's pin, or nowhere before the end of its last reply
  pub time : MatchOption (pin_for (pin_of (upto w.floor whole) k) stmt) ((w.floor ≤ d.r) × (d.r ≤ length whole)) (λ t. d.r ≡ t)
  -- the session's entries before it are those of its earlier replies
  pub earlier : own k (upto d.r whole) ≡ w.made
  -- its own entries stand directly after
  pub stands : upto (d.r + length es) whole ≡ extended k es (upto d.r whole)
  pub answer : Answered schema options marks whole k w stmt d es
  -- faults are never uncounted
  pub faults : w.faults ≤ d.faults

-- the statements are answered in turn, from one stand to another
abbrev pub Replies : Schema → Options → (ℕ → ℕ → Bool) → History → ℕ → Walk → List Stmt → List Said → Walk → Type 0
Replies schema options marks whole k w [] [] end = end ≡ w
Replies schema options marks whole k w (s ∷ stmts) (d ∷ saids) end =
    (es : List What) × Meets schema options marks whole k w s d es × Replies schema options marks whole k (walked k w s d es) stmts saids end
Replies schema options marks whole k w [] (d ∷ saids) end = ⊥
Replies schema options marks whole k w (s ∷ stmts) [] end = ⊥

-- the whole of a session: its statements are answered, its faults counted, and it has no other entries
pub record IsTranscript (schema : Schema) (options : Options) (marks : ℕ → ℕ → Bool) (whole : History) (k : ℕ) (stmts : List Stmt) (saids : List Said) (faults : ℕ) : Type 0 where
  pub end : Walk
  pub replies : Replies schema options marks whole k start stmts saids end
  pub counted : end.faults ≤ faults
  pub complete : own k whole ≡ end.made

-- the statements of a session in a script
abbrev pub is_of_session : ℕ → Line → Bool
is_of_session k line = line.session == k

abbrev pub stmts_of : ℕ → List Line → List Stmt
stmts_of k lines = map (λ l. l.stmt) (filter (is_of_session k) lines)

-- the sessions with a line, by rising number
abbrev pub sessions_in : List Line → List ℕ
sessions_in lines = filter (λ k. list_any (is_of_session k) lines) sessions

-- a MARK of the run that answered Done sets its mark from its timestamp on
abbrev pub sets_mark : ℕ → ℕ → Stmt → Reply → ℕ → Bool
sets_mark n r (Mark m) Done at = m == n && nat_le at r
sets_mark n r _ _ at = false

abbrev pub sets_marks : ℕ → ℕ → List Stmt → List Said → Bool
sets_marks n r (s ∷ stmts) (d ∷ saids) = sets_mark n r s d.reply d.r || sets_marks n r stmts saids
sets_marks n r _ _ = false

abbrev pub marks_of : List Line → List Transcript → ℕ → ℕ → Bool
marks_of lines transcripts n r = list_any (λ t. sets_marks n r (stmts_of t.session lines) t.said) transcripts

abbrev pub IsTranscriptOf : Script → History → (ℕ → ℕ → Bool) → Transcript → Type 0
IsTranscriptOf script whole marks t = IsTranscript script.schema script.options marks whole t.session (stmts_of t.session script.lines) t.said t.faults

-- a whole run: its history fits, each session with a line has a transcript, and no other session has entries
pub record Legal (script : Script) (outcome : Outcome) : Type 0 where
  pub fits : AllFit script.schema script.options (history outcome.history)
  pub sessions_are : map (λ t. t.session) outcome.transcripts ≡ sessions_in script.lines
  pub each : AllByRecursion (IsTranscriptOf script (history outcome.history) (marks_of script.lines outcome.transcripts)) outcome.transcripts
  pub silent : (k : ℕ) → is_session k ≡ true → list_any (is_of_session k) script.lines ≡ false → own k (history outcome.history) ≡ []
