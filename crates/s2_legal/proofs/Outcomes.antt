-- Legal outcomes are those without a fault.
use Rattle.std.proofs.Common.{◌≡◌, ℕ, zero, suc, ◌<◌, ◌≤◌, Bool, true, false, cond, List, [], ◌∷◌, Option, Some, None, length, map, filter, refl, sym, ap, ◌∙◌, subst, arith, inl, inr}
use Rattle.std.specs.Prelude.{◌&&◌, ◌||◌, ◌==◌, nat_lt}
use Rattle.std.specs.List.{list_any, list_all, AllByRecursion}
use Rattle.std.proofs.lemmas.Bool.{false≢true, true≢false, eqb-true, eq-eqb, ne_eqb, ltb-true, ltb-false, lt-ltb}
use Rattle.s2_value.specs.declared.schemas.Schema.{Schema}
use Rattle.s2_model.specs.declared.entries.Entry.{Entry}
use Rattle.s2_model.specs.declared.outcomes.Outcome.{Outcome}
use Rattle.s2_model.specs.declared.outcomes.Said.{Said}
use Rattle.s2_model.specs.declared.outcomes.Transcript.{Transcript}
use Rattle.s2_model.specs.declared.scripts.Line.{Line}
use Rattle.s2_model.specs.declared.scripts.Options.{Options}
use Rattle.s2_model.specs.declared.scripts.Script.{Script}
use Rattle.s2_model.specs.declared.statements.Stmt.{Stmt}
use Rattle.s2_model.specs.History.{History, ◌▷◌, history, own, is_session}
use Rattle.s2_model.specs.Held.{sessions}
use Rattle.s2_model.specs.Fits.{AllFit, rise_from}
use Rattle.s2_model.specs.Legal.{Legal, Walk, start, walked, Replies, IsTranscript, IsTranscriptOf, stmts_of, is_of_session, sessions_in, marks_of}
use Rattle.s2_model.proofs.Holders.{some_session}
use Rattle.s2_legal.specs.declared.answers.LegalAnswer.TheVariants as answer
use Rattle.s2_legal.specs.Faults.{IsWhole, IsFirstUnfit, AreRight, transcript_of, IsRightTo, IsRight, IsReplyFault, JudgedOnce, IsFaultOf}
use Rattle.s2_legal.specs.Sessions.{IsFirstWrong}
use Rattle.s2_legal.proofs.BuiltHistories.{parts}

-- the steps of a whole session
module _ (schema : Schema) (options : Options) (marks : ℕ → ℕ → Bool) (H : History) (k faults : ℕ) where
  abbrev pub Right : ℕ → Walk → List Stmt → List Said → Type 0
  Right n w stmts saids = AreRight schema options marks H k faults n w stmts saids

  pub record Ended (w : Walk) (stmts : List Stmt) (saids : List Said) : Type 0 where
    pub end : Walk
    pub replies : Replies schema options marks H k w stmts saids end
    pub counted : end.faults ≤ faults
    pub complete : own k H ≡ end.made

  pub ended : (w : Walk) (stmts : List Stmt) (saids : List Said) → Right (suc (length saids)) w stmts saids → Ended w stmts saids
  ended w [] [] right = record { end = w; replies = refl; counted = right.0; complete = right.1 }
  ended w [] (d ∷ saids) right = absurd right
  ended w (s ∷ stmts) [] right = absurd right
  ended w (s ∷ stmts) (d ∷ saids) right =
      let later = ended (walked k w s d right.0) stmts saids right.2 in
      record { end = later.end; replies = (right.0, right.1, later.replies); counted = later.counted; complete = later.complete }

  pub right_from : (w : Walk) (stmts : List Stmt) (saids : List Said) (end : Walk) → Replies schema options marks H k w stmts saids end
      → end.faults ≤ faults → own k H ≡ end.made → Right (suc (length saids)) w stmts saids
  right_from w [] [] end replies few complete = (subst (λ (x : Walk). x.faults ≤ faults) replies few, complete ∙ ap (λ (x : Walk). x.made) replies)
  right_from w [] (d ∷ saids) end replies few complete = absurd replies
  right_from w (s ∷ stmts) [] end replies few complete = absurd replies
  right_from w (s ∷ stmts) (d ∷ saids) end replies few complete =
      (replies.0, replies.1, right_from (walked k w s d replies.0) stmts saids end replies.2 few complete)

  -- all steps are right: so are the first of any number
  pub right_any : (w : Walk) (stmts : List Stmt) (saids : List Said) → Right (suc (length saids)) w stmts saids → (n : ℕ) → Right n w stmts saids
  right_any w stmts saids right zero = tt
  right_any w [] [] right (suc n) = right
  right_any w [] (d ∷ saids) right (suc n) = absurd right
  right_any w (s ∷ stmts) [] right (suc n) = absurd right
  right_any w (s ∷ stmts) (d ∷ saids) right (suc n) = (right.0, right.1, right_any (walked k w s d right.0) stmts saids right.2 n)

  -- fewer steps are right too
  pub right_less : (m n : ℕ) (w : Walk) (stmts : List Stmt) (saids : List Said) → m ≤ n → Right n w stmts saids → Right m w stmts saids
  right_less zero n w stmts saids le right = tt
  right_less (suc m) zero w stmts saids le right = absurd (omega arith)
  right_less (suc m) (suc n) w [] [] le right = right
  right_less (suc m) (suc n) w [] (d ∷ saids) le right = absurd right
  right_less (suc m) (suc n) w (s ∷ stmts) [] le right = absurd right
  right_less (suc m) (suc n) w (s ∷ stmts) (d ∷ saids) le right =
      (right.0, right.1, right_less m n (walked k w s d right.0) stmts saids (omega arith) right.2)

-- transcripts by rising session number
rise_lower : (m n : ℕ) (ns : List ℕ) → m ≤ n → rise_from n ns ≡ true → rise_from m ns ≡ true
rise_lower m n [] le up = refl
rise_lower m n (x ∷ ns) le up =
    let both = parts (nat_lt n x) (rise_from x ns) up in
    let lt : m < x = omega (arith, ltb-true n x both.0) in
    ap (λ b. b && rise_from x ns) (lt-ltb m x lt) ∙ both.1

rise_filter : (m : ℕ) (p : ℕ → Bool) (ns : List ℕ) → rise_from m ns ≡ true → rise_from m (filter p ns) ≡ true
rise_filter m p [] up = refl
rise_filter m p (x ∷ ns) up =
    let both = parts (nat_lt m x) (rise_from x ns) up in
    let lt : m ≤ x = omega (arith, ltb-true m x both.0) in
    go (p x) both.0 (rise_filter x p ns both.1) (rise_lower m x (filter p ns) lt (rise_filter x p ns both.1))
  where
    go : (b : Bool) → nat_lt m x ≡ true → rise_from x (filter p ns) ≡ true → rise_from m (filter p ns) ≡ true → rise_from m (cond b (x ∷ filter p ns) (filter p ns)) ≡ true
    go true lt up low = ap (λ b. b && rise_from x (filter p ns)) lt ∙ up
    go false lt up low = low

all_rise : rise_from 0 sessions ≡ true
unfolding sessions
all_rise = refl

abbrev session_of : Transcript → ℕ
session_of t = t.session

above_all : (m : ℕ) (ts : List Transcript) → rise_from m (map session_of ts) ≡ true → AllByRecursion (λ t. m < t.session) ts
above_all m [] up = tt
above_all m (t ∷ ts) up =
    let both = parts (nat_lt m t.session) (rise_from t.session (map session_of ts)) up in
    let lt = ltb-true m t.session both.0 in
    (lt, above_all m ts (rise_lower m t.session (map session_of ts) (omega (arith, lt)) both.1))

past : (t : Transcript) (rest ts : List Transcript) → AllByRecursion (λ x. t.session < x.session) ts → AllByRecursion (λ x. transcript_of x.session rest ≡ x) ts
    → AllByRecursion (λ x. transcript_of x.session (t ∷ rest) ≡ x) ts
past t rest [] above found = tt
past t rest (x ∷ ts) above found =
    let ne : (t.session == x.session) ≡ false = ne_eqb t.session x.session (λ e. omega (arith, above.0)) in
    (ap (λ b. cond b t (transcript_of x.session rest)) ne ∙ found.0, past t rest ts above.1 found.1)

found_all : (m : ℕ) (ts : List Transcript) → rise_from m (map session_of ts) ≡ true → AllByRecursion (λ x. transcript_of x.session ts ≡ x) ts
found_all m [] up = tt
found_all m (t ∷ ts) up =
    let both = parts (nat_lt m t.session) (rise_from t.session (map session_of ts)) up in (
      ap (λ b. cond b t (transcript_of t.session ts)) (eq-eqb t.session t.session refl),
      past t ts ts (above_all t.session ts both.1) (found_all t.session ts both.1),
    )

-- they are those of sessions
all_sessions : list_all is_session sessions ≡ true
unfolding sessions
all_sessions = refl

all_filter : (q p : ℕ → Bool) (ns : List ℕ) → list_all q ns ≡ true → list_all q (filter p ns) ≡ true
all_filter q p [] all = refl
all_filter q p (x ∷ ns) all =
    let both = parts (q x) (list_all q ns) all in go (p x) both.0 (all_filter q p ns both.1)
  where
    go : (b : Bool) → q x ≡ true → list_all q (filter p ns) ≡ true → list_all q (cond b (x ∷ filter p ns) (filter p ns)) ≡ true
    go true here ih = ap (λ b. b && list_all q (filter p ns)) here ∙ ih
    go false here ih = ih

each_session : (ts : List Transcript) → list_all is_session (map session_of ts) ≡ true → AllByRecursion (λ t. is_session t.session ≡ true) ts
each_session [] all = tt
each_session (t ∷ ts) all =
    let both = parts (is_session t.session) (list_all is_session (map session_of ts)) all in (both.0, each_session ts both.1)

-- a session without a line has no statement
pub no_stmts : (k : ℕ) (lines : List Line) → list_any (is_of_session k) lines ≡ false → stmts_of k lines ≡ []
no_stmts k [] none = refl
no_stmts k (l ∷ lines) none = go (is_of_session k l) none (no_stmts k lines) where
  go : (b : Bool) → (b || list_any (is_of_session k) lines) ≡ false → (list_any (is_of_session k) lines ≡ false → stmts_of k lines ≡ [])
      → map (λ x. x.stmt) (cond b (l ∷ filter (is_of_session k) lines) (filter (is_of_session k) lines)) ≡ []
  go true e ih = absurd (true≢false e)
  go false e ih = ih e

any_map : (k : ℕ) (ts : List Transcript) → list_any (λ j. j == k) (map session_of ts) ≡ list_any (λ t. t.session == k) ts
any_map k [] = refl
any_map k (t ∷ ts) = ap (λ b. (t.session == k) || b) (any_map k ts)

any_filter : (q p : ℕ → Bool) (ns : List ℕ) → list_any (λ n. p n && q n) ns ≡ list_any q (filter p ns)
any_filter q p [] = refl
any_filter q p (x ∷ ns) = go (p x) (any_filter q p ns) where
  go : (b : Bool) → list_any (λ n. p n && q n) ns ≡ list_any q (filter p ns)
      → ((b && q x) || list_any (λ n. p n && q n) ns) ≡ list_any q (cond b (x ∷ filter p ns) (filter p ns))
  go true ih = ap (λ b. q x || b) ih
  go false ih = ih

-- a session without a transcript has no line
no_line : (script : Script) (outcome : Outcome) (k : ℕ) → IsWhole script outcome → is_session k ≡ true → list_any (λ t. t.session == k) outcome.transcripts ≡ false
    → list_any (is_of_session k) script.lines ≡ false
no_line script outcome k whole session none = go (list_any (is_of_session k) script.lines) refl where
  go : (b : Bool) → list_any (is_of_session k) script.lines ≡ b → b ≡ false
  go false e = refl
  go true e =
      let has : (list_any (is_of_session k) script.lines && (k == k)) ≡ true = ap (λ b. b && (k == k)) e ∙ eq-eqb k k refl in
      let among : list_any (λ j. j == k) (sessions_in script.lines) ≡ true =
      sym (any_filter (λ j. j == k) (λ j. list_any (is_of_session j) script.lines) sessions)
      ∙ some_session (λ j. list_any (is_of_session j) script.lines && (j == k)) k session has in
      let told : list_any (λ j. j == k) (map session_of outcome.transcripts) ≡ true = ap (λ (js : List ℕ). list_any (λ j. j == k) js) whole.sessions_are ∙ among in
      sym (sym (any_map k outcome.transcripts) ∙ told) ∙ none

none_found : (k : ℕ) (ts : List Transcript) → list_any (λ t. t.session == k) ts ≡ false → transcript_of k ts ≡ record { session = k; faults = 0; said = [] }
none_found k [] none = refl
none_found k (t ∷ ts) none = go (t.session == k) none (none_found k ts) where
  go : (b : Bool) → (b || list_any (λ t. t.session == k) ts) ≡ false → (list_any (λ t. t.session == k) ts ≡ false → transcript_of k ts ≡ record { session = k; faults = 0; said = [] })
      → cond b t (transcript_of k ts) ≡ record { session = k; faults = 0; said = [] }
  go true e ih = absurd (true≢false e)
  go false e ih = ih e

-- what holds of each transcript holds of a session's
of_found : (P : Transcript → Type 0) (k : ℕ) (ts : List Transcript) → AllByRecursion P ts → list_any (λ t. t.session == k) ts ≡ true
    → P (transcript_of k ts) × ((transcript_of k ts).session ≡ k)
of_found P k [] all some = absurd (false≢true some)
of_found P k (t ∷ ts) all some = go (t.session == k) refl some (of_found P k ts all.1) where
  go : (b : Bool) → (t.session == k) ≡ b → (b || list_any (λ t. t.session == k) ts) ≡ true
      → (list_any (λ t. t.session == k) ts ≡ true → P (transcript_of k ts) × ((transcript_of k ts).session ≡ k))
      → P (cond b t (transcript_of k ts)) × ((cond b t (transcript_of k ts)).session ≡ k)
  go true e h ih = (all.0, eqb-true t.session k e)
  go false e h ih = ih h

pub even_of : (script : Script) (outcome : Outcome) (k : ℕ) → IsWhole script outcome → is_session k ≡ true
    → length (transcript_of k outcome.transcripts).said ≡ length (stmts_of k script.lines)
even_of script outcome k whole session = go (list_any (λ t. t.session == k) outcome.transcripts) refl where
  go : (b : Bool) → list_any (λ t. t.session == k) outcome.transcripts ≡ b → length (transcript_of k outcome.transcripts).said ≡ length (stmts_of k script.lines)
  go true e =
      let found = of_found (λ t. length t.said ≡ length (stmts_of t.session script.lines)) k outcome.transcripts whole.even e in
      found.0 ∙ ap (λ (j : ℕ). length (stmts_of j script.lines)) found.1
  go false e =
      ap (λ (t : Transcript). length t.said) (none_found k outcome.transcripts e)
      ∙ sym (ap length (no_stmts k script.lines (no_line script outcome k whole session e)))

-- a legal outcome is right in each session
pub right_of_legal : (script : Script) (outcome : Outcome) (k : ℕ) → IsWhole script outcome → Legal script outcome → is_session k ≡ true → IsRight script outcome k
right_of_legal script outcome k whole legal session = go (list_any (λ t. t.session == k) outcome.transcripts) refl where
  go : (b : Bool) → list_any (λ t. t.session == k) outcome.transcripts ≡ b → IsRight script outcome k
  go true e =
      let found = of_found (IsTranscriptOf script (history outcome.history) (marks_of script.lines outcome.transcripts)) k outcome.transcripts legal.each e in
      let t = transcript_of k outcome.transcripts in
      let told = subst (λ (j : ℕ). IsTranscript script.schema script.options (marks_of script.lines outcome.transcripts) (history outcome.history) j (stmts_of j script.lines) t.said t.faults) found.1 found.0 in
      right_from script.schema script.options (marks_of script.lines outcome.transcripts) (history outcome.history) k t.faults start (stmts_of k script.lines) t.said told.end told.replies told.counted told.complete
  go false e =
      let none = no_line script outcome k whole session e in
      let Told : Transcript → List Stmt → Type 0 = λ t stmts. AreRight script.schema script.options (marks_of script.lines outcome.transcripts) (history outcome.history) k t.faults (suc (length t.said)) start stmts t.said in
      subst (λ (t : Transcript). Told t (stmts_of k script.lines)) (sym (none_found k outcome.transcripts e))
      (subst (λ (stmts : List Stmt). Told (record { session = k; faults = 0; said = [] }) stmts) (sym (no_stmts k script.lines none)) (omega arith, legal.silent k session none))

-- and an outcome whose entries fit and which is right in each session is legal
each_right : (script : Script) (outcome : Outcome) (ts : List Transcript) → AllByRecursion (λ t. transcript_of t.session outcome.transcripts ≡ t) ts
    → AllByRecursion (λ t. is_session t.session ≡ true) ts → ((k : ℕ) → is_session k ≡ true → IsRight script outcome k)
    → AllByRecursion (IsTranscriptOf script (history outcome.history) (marks_of script.lines outcome.transcripts)) ts
each_right script outcome [] found session right = tt
each_right script outcome (t ∷ ts) found session right =
    let marks = marks_of script.lines outcome.transcripts in
    let told = subst (λ (x : Transcript). AreRight script.schema script.options marks (history outcome.history) t.session x.faults (suc (length x.said)) start (stmts_of t.session script.lines) x.said) found.0 (right t.session session.0) in
    let whole = ended script.schema script.options marks (history outcome.history) t.session t.faults start (stmts_of t.session script.lines) t.said told in
    (record { end = whole.end; replies = whole.replies; counted = whole.counted; complete = whole.complete }, each_right script outcome ts found.1 session.1 right)

silent_from : (schema : Schema) (options : Options) (marks : ℕ → ℕ → Bool) (H : History) (k faults : ℕ) (stmts : List Stmt) (saids : List Said) → stmts ≡ []
    → AreRight schema options marks H k faults (suc (length saids)) start stmts saids → own k H ≡ []
silent_from schema options marks H k faults [] [] none right = right.1
silent_from schema options marks H k faults [] (d ∷ saids) none right = absurd right
silent_from schema options marks H k faults (s ∷ stmts) saids none right = absurd (cc)

pub legal_from : (script : Script) (outcome : Outcome) → IsWhole script outcome → AllFit script.schema script.options (history outcome.history)
    → ((k : ℕ) → is_session k ≡ true → IsRight script outcome k) → Legal script outcome
legal_from script outcome whole fit right =
    let rises : rise_from 0 (map session_of outcome.transcripts) ≡ true =
    subst (λ (js : List ℕ). rise_from 0 js ≡ true) (sym whole.sessions_are) (rise_filter 0 (λ k. list_any (is_of_session k) script.lines) sessions all_rise) in
    let those : list_all is_session (map session_of outcome.transcripts) ≡ true =
    subst (λ (js : List ℕ). list_all is_session js ≡ true) (sym whole.sessions_are) (all_filter is_session (λ k. list_any (is_of_session k) script.lines) sessions all_sessions) in
    record {
      fits = fit;
      sessions_are = whole.sessions_are;
      each = each_right script outcome outcome.transcripts (found_all 0 outcome.transcripts rises) (each_session outcome.transcripts those) right;
      silent = λ k session none. silent_from script.schema script.options (marks_of script.lines outcome.transcripts) (history outcome.history) k
          (transcript_of k outcome.transcripts).faults (stmts_of k script.lines) (transcript_of k outcome.transcripts).said (no_stmts k script.lines none) (right k session);
    }

-- an outcome has at most one answer
unfit_not : (schema : Schema) (options : Options) (H : History) (n : ℕ) → IsFirstUnfit schema options H n → AllFit schema options H → ⊥
unfit_not schema options [] n u fit = u
unfit_not schema options (H ▷ e) n (inl u) fit = unfit_not schema options H n u fit.0
unfit_not schema options (H ▷ e) n (inr u) fit = u.2 fit.1

unfit_one : (schema : Schema) (options : Options) (H : History) (m n : ℕ) → IsFirstUnfit schema options H m → IsFirstUnfit schema options H n → m ≡ n
unfit_one schema options [] m n u v = absurd u
unfit_one schema options (H ▷ e) m n (inl u) (inl v) = unfit_one schema options H m n u v
unfit_one schema options (H ▷ e) m n (inl u) (inr v) = absurd (unfit_not schema options H m u v.1)
unfit_one schema options (H ▷ e) m n (inr u) (inl v) = absurd (unfit_not schema options H n v u.1)
unfit_one schema options (H ▷ e) m n (inr u) (inr v) = u.0 ∙ sym v.0

right_to : (script : Script) (outcome : Outcome) (k n : ℕ) → IsRight script outcome k → IsRightTo script outcome k n
right_to script outcome k n right =
    right_any script.schema script.options (marks_of script.lines outcome.transcripts) (history outcome.history) k (transcript_of k outcome.transcripts).faults start
    (stmts_of k script.lines) (transcript_of k outcome.transcripts).said right n

right_before : (script : Script) (outcome : Outcome) (k m n : ℕ) → m ≤ n → IsRightTo script outcome k n → IsRightTo script outcome k m
right_before script outcome k m n le right =
    right_less script.schema script.options (marks_of script.lines outcome.transcripts) (history outcome.history) k (transcript_of k outcome.transcripts).faults m n start
    (stmts_of k script.lines) (transcript_of k outcome.transcripts).said le right

fault_before : (script : Script) (outcome : Outcome) (k i j : ℕ) → IsReplyFault script outcome k i → IsReplyFault script outcome k j → i < j → ⊥
fault_before script outcome k i j a b lt =
    let le : i ≤ b.before = omega (arith, b.step) in a.wrong (right_before script outcome k i b.before le b.right)

fault_one : (script : Script) (outcome : Outcome) (k i j : ℕ) → IsReplyFault script outcome k i → IsReplyFault script outcome k j → i ≡ j
fault_one script outcome k i j a b = go (nat_lt i j) refl (nat_lt j i) refl where
  go : (p : Bool) → nat_lt i j ≡ p → (q : Bool) → nat_lt j i ≡ q → i ≡ j
  go true e q e' = absurd (fault_before script outcome k i j a b (ltb-true i j e))
  go false e true e' = absurd (fault_before script outcome k j i b a (ltb-true j i e'))
  go false e false e' = omega (arith, ltb-false i j e, ltb-false j i e')

session_before : (script : Script) (outcome : Outcome) (j k i n : ℕ) → IsReplyFault script outcome j i → IsReplyFault script outcome k n → j < k → ⊥
session_before script outcome j k i n a b lt = a.wrong (right_to script outcome j i (b.earlier j a.session lt))

session_one : (script : Script) (outcome : Outcome) (j k i n : ℕ) → IsReplyFault script outcome j i → IsReplyFault script outcome k n → j ≡ k
session_one script outcome j k i n a b = go (nat_lt j k) refl (nat_lt k j) refl where
  go : (p : Bool) → nat_lt j k ≡ p → (q : Bool) → nat_lt k j ≡ q → j ≡ k
  go true e q e' = absurd (session_before script outcome j k i n a b (ltb-true j k e))
  go false e true e' = absurd (session_before script outcome k j n i b a (ltb-true k j e'))
  go false e false e' = omega (arith, ltb-false j k e, ltb-false k j e')

reply_one : (script : Script) (outcome : Outcome) (j k i n : ℕ) → IsReplyFault script outcome j i → IsReplyFault script outcome k n → answer.Reply j i ≡ answer.Reply k n
reply_one script outcome j k i n a b =
    let same = session_one script outcome j k i n a b in
    let here = subst (λ (x : ℕ). IsReplyFault script outcome x i) same a in
    ap (λ (x : ℕ). answer.Reply x i) same ∙ ap (λ (x : ℕ). answer.Reply k x) (fault_one script outcome k i n here b)

no_fault : (script : Script) (outcome : Outcome) (k i : ℕ) → IsWhole script outcome → Legal script outcome → IsReplyFault script outcome k i → ⊥
no_fault script outcome k i whole legal f = f.wrong (right_to script outcome k i (right_of_legal script outcome k whole legal f.session))

pub judged_once : JudgedOnce
judged_once script outcome answer.Legal answer.Legal whole a b = refl
judged_once script outcome answer.Legal (answer.Entry n) whole a b = absurd (unfit_not script.schema script.options (history outcome.history) n b a.fits)
judged_once script outcome answer.Legal (answer.Reply k i) whole a b = absurd (no_fault script outcome k i whole a b)
judged_once script outcome (answer.Entry n) answer.Legal whole a b = absurd (unfit_not script.schema script.options (history outcome.history) n a b.fits)
judged_once script outcome (answer.Entry m) (answer.Entry n) whole a b = ap answer.Entry (unfit_one script.schema script.options (history outcome.history) m n a b)
judged_once script outcome (answer.Entry n) (answer.Reply k i) whole a b = absurd (unfit_not script.schema script.options (history outcome.history) n a b.fits)
judged_once script outcome (answer.Reply k i) answer.Legal whole a b = absurd (no_fault script outcome k i whole b a)
judged_once script outcome (answer.Reply k i) (answer.Entry n) whole a b = absurd (unfit_not script.schema script.options (history outcome.history) n b a.fits)
judged_once script outcome (answer.Reply j i) (answer.Reply k n) whole a b = reply_one script outcome j k i n a b

-- what is told of a transcript's steps is told of its session's
pub fault_is : (script : Script) (outcome : Outcome) (k : ℕ) (t : Transcript) (o : Option ℕ) → transcript_of k outcome.transcripts ≡ t
    → IsFirstWrong script.schema script.options (marks_of script.lines outcome.transcripts) (history outcome.history) k t.faults (stmts_of k script.lines) t.said o
    → IsFaultOf script outcome k o
fault_is script outcome k t o is told = go o (subst (λ (x : Transcript). IsFirstWrong script.schema script.options (marks_of script.lines outcome.transcripts) (history outcome.history) k x.faults (stmts_of k script.lines) x.said o) (sym is) told)
  where
    go : (o : Option ℕ) → IsFirstWrong script.schema script.options (marks_of script.lines outcome.transcripts) (history outcome.history) k (transcript_of k outcome.transcripts).faults (stmts_of k script.lines) (transcript_of k outcome.transcripts).said o → IsFaultOf script outcome k o
    go None told = told
    go (Some i) told = told

pub fault_told : (script : Script) (outcome : Outcome) (k : ℕ) (t : Transcript) (h : List Entry) (ls : List Line) (ds : List Said) (o : Option ℕ)
    → h ≡ outcome.history → ls ≡ script.lines → ds ≡ t.said → transcript_of k outcome.transcripts ≡ t
    → IsFirstWrong script.schema script.options (marks_of script.lines outcome.transcripts) (history h) k t.faults (stmts_of k ls) ds o → IsFaultOf script outcome k o
fault_told script outcome k t h ls ds o at_h at_ls at_ds is told =
    let marks = marks_of script.lines outcome.transcripts in
    fault_is script outcome k t o is
    (subst (λ (x : List Entry). IsFirstWrong script.schema script.options marks (history x) k t.faults (stmts_of k script.lines) t.said o) at_h
    (subst (λ (x : List Line). IsFirstWrong script.schema script.options marks (history h) k t.faults (stmts_of k x) t.said o) at_ls
    (subst (λ (x : List Said). IsFirstWrong script.schema script.options marks (history h) k t.faults (stmts_of k ls) x o) at_ds told)))
