-- Replies stay right in longer histories, and sessions join.
use Rattle.std.proofs.Common.{◌≡◌, ℕ, suc, ◌+◌, ◌≤◌, Bool, true, false, cond, Option, Some, None, List, [], ◌∷◌, ◌++◌, length, refl, sym, ap, subst, ◌∙◌, arith, inl, inr, ⊎_elim, MatchOption, MatchBool, is_some, length-append}
use Rattle.std.specs.Prelude.{nat_eq, nat_lt, unwrap_or}
use Rattle.std.specs.List.{AllByRecursion}
use Rattle.std.proofs.lemmas.Bool.Decides.{nat_tests}
use Rattle.s2_value.specs.declared.schemas.Schema.{Schema}
use Rattle.s2_model.specs.declared.entries.What.{What}
use Rattle.s2_model.specs.declared.entries.What.TheVariants as what
use Rattle.s2_model.specs.declared.statements.Stmt.{Stmt}
use Rattle.s2_model.specs.declared.statements.Stmt.TheVariants as stmt
use Rattle.s2_model.specs.declared.replies.Reply.{Reply}
use Rattle.s2_model.specs.declared.replies.Reply.TheVariants.{Refused}
use Rattle.s2_model.specs.declared.replies.Refusal.TheVariants.{ReadOnly}
use Rattle.s2_model.specs.declared.scripts.Options.{Options}
use Rattle.s2_model.specs.declared.scripts.Script.{Script}
use Rattle.s2_model.specs.declared.outcomes.Said.{Said}
use Rattle.s2_model.specs.declared.outcomes.Transcript.{Transcript}
use Rattle.s2_model.specs.History.{History, ◌▷◌, history, upto, pin_of, pin_after, own, extended}
use Rattle.s2_model.specs.Needed.{FaultsBy}
use Rattle.s2_model.specs.Background.{WorksAs, Works}
use Rattle.s2_model.specs.Legal.{Walk, start, walked, Meets, Answers, ByWork, ByFault, IsTranscriptOf, pin_for, is_end, marks_of, stmts_of}
use Rattle.s2_model.specs.RepliesLaws.{ReplyStays, RepliesStay, RepliesGoOn, TranscriptsStay, IsSeenWell, SessionsJoin}
use Rattle.s2_model.proofs.Timestamps.{upto_later, length-extended}
use Rattle.s2_model.proofs.Background.{faults_stay}

-- longer histories

longer : (later H : History) → length H ≤ length (later ++ H)
longer later H = omega (arith, length-append later H)

length-upto : (r : ℕ) (H : History) → r ≤ length H → length (upto r H) ≡ r
length-upto r [] le = omega (arith, le)
length-upto r (H ▷ e) le = go (nat_lt (length H) r) refl (length-upto r H)
  where
    go : (b : Bool) → nat_lt (length H) r ≡ b → (r ≤ length H → length (upto r H) ≡ r) → length (cond {A = History} b (H ▷ e) (upto r H)) ≡ r
    go true t ih = grind (arith, nat_tests, le)
    go false t ih = ih (grind (arith, nat_tests))

short-upto : (r : ℕ) (H : History) → length (upto r H) ≤ length H
short-upto r [] = omega arith
short-upto r (H ▷ e) = elim (nat_lt (length H) r) as (λ b. length (cond {A = History} b (H ▷ e) (upto r H)) ≤ suc (length H)) [
  | true ↦ omega arith
  | false ↦ omega (arith, short-upto r H)
]

-- a pin stands within the history
pin_by : (H : History) (k : ℕ) → unwrap_or (pin_of H k) 0 ≤ length H
pin_by [] k = omega arith
pin_by (H ▷ x) k = go (nat_eq k x.actor) x.what (pin_by H k)
  where
    go : (b : Bool) (w : What) → unwrap_or (pin_of H k) 0 ≤ length H
        → unwrap_or (cond {A = Option ℕ} b (pin_after w (suc (length H)) (pin_of H k)) (pin_of H k)) 0 ≤ suc (length H)
    go false w ih = omega (arith, ih)
    go true what.Pin ih = omega arith
    go true what.Unpin ih = omega arith
    go true _ ih = omega (arith, ih)

pin_for_by : (pin : Option ℕ) (s : Stmt) → unwrap_or (pin_for pin s) 0 ≤ unwrap_or pin 0
pin_for_by pin s = elim (is_end s) as (λ b. unwrap_or (cond {A = Option ℕ} b None pin) 0 ≤ unwrap_or pin 0) [ true ↦ omega arith | false ↦ omega arith ]

-- a reply stands within the history, and so do its entries
reads_within : (schema : Schema) (options : Options) (marks : ℕ → ℕ → Bool) (whole : History) (k : ℕ) (w : Walk) (s : Stmt) (d : Said) (es : List What)
    → Meets schema options marks whole k w s d es → d.r ≤ length whole
reads_within schema options marks whole k w s d es m = go (pin_for (pin_of (upto w.floor whole) k) s) refl m.time
  where
    go : (o : Option ℕ) → pin_for (pin_of (upto w.floor whole) k) s ≡ o → MatchOption o ((w.floor ≤ d.r) × (d.r ≤ length whole)) (λ t. d.r ≡ t) → d.r ≤ length whole
    go None e t = t.1
    go (Some u) e t =
        omega (arith, t, ap (λ p. unwrap_or p 0) e, pin_for_by (pin_of (upto w.floor whole) k) s, pin_by (upto w.floor whole) k, short-upto w.floor whole)

ends_within : (schema : Schema) (options : Options) (marks : ℕ → ℕ → Bool) (whole : History) (k : ℕ) (w : Walk) (s : Stmt) (d : Said) (es : List What)
    → Meets schema options marks whole k w s d es → d.r + length es ≤ length whole
ends_within schema options marks whole k w s d es m =
    let r = length-upto d.r whole (reads_within schema options marks whole k w s d es m) in
    omega (arith, r, ap length m.stands, length-extended k es (upto d.r whole), short-upto (d.r + length es) whole)

-- background statements depend on marks only for AFTER
as_stay : (schema : Schema) (options : Options) (H : History) (floor : ℕ) (job : Option ℕ) (set set' : ℕ → Bool) → ((n : ℕ) → set n ≡ true → set' n ≡ true)
    → (s : Stmt) (said : Reply) (made : List What) → WorksAs schema options H floor job set s said made → WorksAs schema options H floor job set' s said made
as_stay schema options H floor job set set' stay stmt.FlushBegin said made f = f
as_stay schema options H floor None set set' stay stmt.FlushEnd said made f = f
as_stay schema options H floor (Some b) set set' stay stmt.FlushEnd said made f = f
as_stay schema options H floor job set set' stay stmt.Flush said made f = f
as_stay schema options H floor job set set' stay stmt.MergeBegin said made f = f
as_stay schema options H floor None set set' stay stmt.MergeEnd said made f = f
as_stay schema options H floor (Some b) set set' stay stmt.MergeEnd said made f = f
as_stay schema options H floor job set set' stay stmt.Merge said made f = f
as_stay schema options H floor job set set' stay stmt.Upload said made f = f
as_stay schema options H floor job set set' stay stmt.Evict said made f = f
as_stay schema options H floor job set set' stay stmt.Vacuum said made f = f
as_stay schema options H floor job set set' stay (stmt.Mark n) said made f = f
as_stay schema options H floor job set set' stay (stmt.After n) said made f = ⊎_elim (λ g. inl (stay n g.0, g.1, g.2)) (λ g. inr g) f
as_stay schema options H floor job set set' stay _ said made f = absurd f

works_stay : (schema : Schema) (options : Options) (H : History) (k floor : ℕ) (job : Option ℕ) (set set' : ℕ → Bool) → ((n : ℕ) → set n ≡ true → set' n ≡ true)
    → (s : Stmt) (said : Reply) (made : List What) → Works schema options H k floor job set s said made → Works schema options H k floor job set' s said made
works_stay schema options H k floor job set set' stay s said made f = go (is_some (pin_of H k)) f
  where
    go : (b : Bool) → MatchBool b ((said ≡ Refused ReadOnly) × (made ≡ [])) (WorksAs schema options H floor job set s said made)
        → MatchBool b ((said ≡ Refused ReadOnly) × (made ≡ [])) (WorksAs schema options H floor job set' s said made)
    go true g = g
    go false g = as_stay schema options H floor job set set' stay s said made g

-- a fault that was allowed stays so
faults_later : (schema : Schema) (options : Options) (later whole : History) (r k base : ℕ) (s : Stmt) (reply : Reply) → r ≤ length whole
    → FaultsBy schema options whole r k base s reply → FaultsBy schema options (later ++ whole) r k base s reply
faults_later schema options [] whole r k base s reply le f = f
faults_later schema options (later ▷ e) whole r k base s reply le f =
    faults_stay schema options (later ++ whole) e r k base s reply (omega (arith, longer later whole)) (faults_later schema options later whole r k base s reply le f)

pub reply_stays : ReplyStays
reply_stays schema options marks marks' later whole k w s d es stay floor m = record {
  time = subst (λ h. MatchOption (pin_for (pin_of h k) s) ((w.floor ≤ d.r) × (d.r ≤ length (later ++ whole))) (λ t. d.r ≡ t))
      (sym (upto_later w.floor later whole floor)) (time_longer (pin_for (pin_of (upto w.floor whole) k) s) m.time);
  earlier = ap (own k) at ∙ m.earlier;
  stands = upto_later (d.r + length es) later whole (ends_within schema options marks whole k w s d es m) ∙ m.stands ∙ ap (extended k es) (sym at);
  answer = ⊎_elim (λ a. inl (subst (λ h. Answers schema h k s d.reply es) (sym at) a)) (λ g. inr (⊎_elim (λ b. inl (work b)) (λ f. inr (fault f)) g)) m.answer;
  faults = m.faults;
}
  where
    le : d.r ≤ length whole
    le = reads_within schema options marks whole k w s d es m

    at : upto d.r (later ++ whole) ≡ upto d.r whole
    at = upto_later d.r later whole le

    time_longer : (o : Option ℕ) → MatchOption o ((w.floor ≤ d.r) × (d.r ≤ length whole)) (λ t. d.r ≡ t)
        → MatchOption o ((w.floor ≤ d.r) × (d.r ≤ length (later ++ whole))) (λ t. d.r ≡ t)
    time_longer None t = (t.0, omega (arith, t.1, longer later whole))
    time_longer (Some u) t = t

    work : ByWork schema options marks (upto d.r whole) k w s d es → ByWork schema options marks' (upto d.r (later ++ whole)) k w s d es
    work b = record {
      background = b.background;
      works = subst (λ h. Works schema options h k w.floor w.job (λ n. marks' n d.r) s d.reply es) (sym at)
          (works_stay schema options (upto d.r whole) k w.floor w.job (λ n. marks n d.r) (λ n. marks' n d.r) (λ n f. stay n d.r f) s d.reply es b.works);
      counted = b.counted;
    }

    fault : ByFault schema options whole k w s d es → ByFault schema options (later ++ whole) k w s d es
    fault f = record {
      fault = faults_later schema options later whole d.r k (unwrap_or w.job 0) s d.reply le f.fault;
      nothing = f.nothing;
      counted = f.counted;
    }

pub replies_stay : RepliesStay
replies_stay schema options marks marks' later whole k w [] [] end stay floor run = run
replies_stay schema options marks marks' later whole k w [] (d ∷ ds) end stay floor run = absurd run
replies_stay schema options marks marks' later whole k w (s ∷ stmts) [] end stay floor run = absurd run
replies_stay schema options marks marks' later whole k w (s ∷ stmts) (d ∷ ds) end stay floor run = (
  run.0,
  reply_stays schema options marks marks' later whole k w s d run.0 stay floor run.1,
  replies_stay schema options marks marks' later whole k (walked k w s d run.0) stmts ds end stay (ends_within schema options marks whole k w s d run.0 run.1) run.2,
)

pub replies_go_on : RepliesGoOn
replies_go_on schema options marks whole k w [] [] mid s d es run m =
    (es, subst (λ v. Meets schema options marks whole k v s d es) run m, ap (λ v. walked k v s d es) run)
replies_go_on schema options marks whole k w [] (c ∷ ds) mid s d es run m = absurd run
replies_go_on schema options marks whole k w (t ∷ stmts) [] mid s d es run m = absurd run
replies_go_on schema options marks whole k w (t ∷ stmts) (c ∷ ds) mid s d es run m =
    (run.0, run.1, replies_go_on schema options marks whole k (walked k w t c run.0) stmts ds mid s d es run.2 m)

-- the entries of an actor in a history and what follows it
own_later : (k : ℕ) (later H : History) → own k later ≡ [] → own k (later ++ H) ≡ own k H
own_later k [] H e = refl
own_later k (later ▷ x) H e = go (nat_eq x.actor k) (own_later k later H) e
  where
    go : (b : Bool) → (own k later ≡ [] → own k (later ++ H) ≡ own k H) → cond {A = History} b (x ∷ own k later) (own k later) ≡ []
        → cond {A = History} b (x ∷ own k (later ++ H)) (own k (later ++ H)) ≡ own k H
    go true ih f = absurd (cc)
    go false ih f = ih f

pub transcripts_stay : TranscriptsStay
transcripts_stay schema options marks marks' later whole k stmts saids faults stay others t = record {
  end = t.end;
  replies = replies_stay schema options marks marks' later whole k start stmts saids t.end stay (omega arith) t.replies;
  counted = t.counted;
  complete = own_later k later whole others ∙ t.complete;
}

seen_well : (script : Script) (whole : History) (marks : ℕ → ℕ → Bool) (ts : List Transcript) → AllByRecursion (IsSeenWell script whole marks) ts
    → AllByRecursion (IsTranscriptOf script whole marks) ts
seen_well script whole marks [] each = tt
seen_well script whole marks (t ∷ ts) each =
    let one = each.0 in (
      subst (λ h. IsTranscriptOf script h marks t) (sym one.parts)
          (transcripts_stay script.schema script.options one.set marks one.later one.seen t.session (stmts_of t.session script.lines) t.said t.faults one.marked one.others one.said),
      seen_well script whole marks ts each.1,
    )

pub sessions_join : SessionsJoin
sessions_join script outcome fit are each silent = record {
  fits = fit;
  sessions_are = are;
  each = seen_well script (history outcome.history) (marks_of script.lines outcome.transcripts) outcome.transcripts each;
  silent = silent;
}
