-- Replies dealt out to their sessions, line by line, and the transcripts in the end.
use Rattle.std.proofs.Common.{◌≡◌, ℕ, zero, suc, ◌+◌, ◌-◌, ◌<◌, ◌≤◌, Bool, true, false, not, cond, List, [], ◌∷◌, ◌++◌, length, map, replicate, set, refl, sym, ap, ap₂, subst, ◌∙◌, arith, append-nil, append_assoc}
use Rattle.std.specs.Prelude.{filter, nat_eq, nat_le, slice_index_or, ◌||◌}
use Rattle.std.specs.List.{list_any, list_all}
use Rattle.std.proofs.lemmas.Bool.{and_parts, false≢true}
use Rattle.std.proofs.lemmas.Bool.Decides.{nat_tests}
use Rattle.s2_value.specs.declared.schemas.Schema.{Schema}
use Rattle.s2_model.specs.declared.statements.Stmt.{Stmt}
use Rattle.s2_model.specs.declared.statements.Stmt.TheVariants.{Insert, Update, Delete, Select, Begin, BeginReadOnly, Commit, Rollback}
use Rattle.s2_model.specs.declared.scripts.Line.{Line}
use Rattle.s2_model.specs.declared.outcomes.Said.{Said}
use Rattle.s2_model.specs.declared.outcomes.Transcript.{Transcript}
use Rattle.s2_model.specs.Held.{sessions}
use Rattle.s2_model.specs.History.{History, extended, is_session}
use Rattle.s2_model.specs.Legal.{is_of_session, is_end, has_verdict}
use Rattle.s2_model.specs.Driven.{Drives, said_by}
use Rattle.s2_model.proofs.InOrder.{Drives-more}
use Rattle.s2_state.specs.declared.states.State.{State}
use Rattle.s2_answer.specs.Suits.{stmt_suits}
use Rattle.s2_txn.specs.Refusals.{is_write}
use Rattle.s2_txn.specs.Says.{SameTable}
use Rattle.s2_drive.specs.Runs.{is_spoken, is_taken, is_taken_stmt, transcripts_of}
use Rattle.s2_drive.specs.Dealt.{spoken_from, Deals, RunsTo, RunsOn}

-- numbers in turn

Numbered : ℕ → List ℕ → Type 0
Numbered n [] = Unit {0}
Numbered n (k ∷ ks) = (k ≡ n) × Numbered (suc n) ks

sessions_numbered : Numbered 1 sessions
unfolding sessions Numbered
sessions_numbered = (refl, (refl, (refl, (refl, (refl, (refl, (refl, (refl, (refl, (refl, (refl, (refl, (refl, (refl, (refl, (refl, tt))))))))))))))))

pub sixteen : length sessions ≡ 16
unfolding sessions
sixteen = refl

-- one reply more

said_more : (schema : Schema) (j : ℕ) (ls : List Line) (ds : List Said) (H whole : History) (l : Line) (d : Said) → Drives schema H ls ds whole
    → said_by j (ls ++ l ∷ []) (ds ++ d ∷ []) ≡ cond (nat_eq l.session j) (said_by j ls ds ++ d ∷ []) (said_by j ls ds)
said_more schema j [] [] H whole l d run = refl
said_more schema j [] (c ∷ ds) H whole l d run = absurd run
said_more schema j (k ∷ ls) [] H whole l d run = absurd run
said_more schema j (k ∷ ls) (c ∷ ds) H whole l d run =
    go (nat_eq k.session j) (nat_eq l.session j) (said_more schema j ls ds (extended k.session run.0 H) whole l d run.2)
  where
    go : (a b : Bool) → said_by j (ls ++ l ∷ []) (ds ++ d ∷ []) ≡ cond b (said_by j ls ds ++ d ∷ []) (said_by j ls ds)
        → cond a (c ∷ said_by j (ls ++ l ∷ []) (ds ++ d ∷ [])) (said_by j (ls ++ l ∷ []) (ds ++ d ∷ []))
        ≡ cond b (cond a (c ∷ said_by j ls ds) (said_by j ls ds) ++ d ∷ []) (cond a (c ∷ said_by j ls ds) (said_by j ls ds))
    go true true ih = ap (λ s. c ∷ s) ih
    go true false ih = ap (λ s. c ∷ s) ih
    go false true ih = ih
    go false false ih = ih

later_same : (f : ℕ → List Said) (d : Said) (k n : ℕ) (ks : List ℕ) → Numbered n ks → k < n → map f ks ≡ map (λ j. cond (nat_eq k j) (f j ++ d ∷ []) (f j)) ks
unfolding Numbered
later_same f d k n [] num lt = refl
later_same f d k n (j ∷ ks) num lt =
    let other : nat_eq k j ≡ false = apart j (omega (arith, num.0, lt)) in
    ap₂ (λ (x : List Said) xs. x ∷ xs) (sym (ap (λ b. cond b (f j ++ d ∷ []) (f j)) other)) (later_same f d k (suc n) ks num.1 (omega (arith, lt)))
  where
    apart : (m : ℕ) → k < m → nat_eq k m ≡ false
    apart m l = grind (arith, nat_tests)

dealt_one : (f : ℕ → List Said) (d : Said) (n i : ℕ) (ks : List ℕ) → Numbered n ks → i < length ks
    → set (map f ks) i (slice_index_or (map f ks) i [] ++ d ∷ []) ≡ map (λ j. cond (nat_eq (n + i) j) (f j ++ d ∷ []) (f j)) ks
unfolding Numbered
dealt_one f d n i [] num lt = absurd (omega (arith, lt))
dealt_one f d n zero (j ∷ ks) num lt =
    let here : nat_eq (n + 0) j ≡ true = same j (omega (arith, num.0)) in
    ap₂ (λ (x : List Said) xs. x ∷ xs) (sym (ap (λ b. cond b (f j ++ d ∷ []) (f j)) here)) (later_same f d (n + 0) (suc n) ks num.1 (omega arith))
  where
    same : (m : ℕ) → n + 0 ≡ m → nat_eq (n + 0) m ≡ true
    same m e = grind (arith, nat_tests)
dealt_one f d n (suc i) (j ∷ ks) num lt =
    let other : nat_eq (n + suc i) j ≡ false = apart j (omega (arith, num.0)) in
    let place : suc n + i ≡ n + suc i = omega arith in
    ap₂ (λ (x : List Said) xs. x ∷ xs) (sym (ap (λ b. cond b (f j ++ d ∷ []) (f j)) other))
    (dealt_one f d (suc n) i ks num.1 (omega (arith, lt)) ∙ ap (λ m. map (λ h. cond (nat_eq m h) (f h ++ d ∷ []) (f h)) ks) place)
  where
    apart : (m : ℕ) → m < n + suc i → nat_eq (n + suc i) m ≡ false
    apart m l = grind (arith, nat_tests)

map_same : (f g : ℕ → List Said) (ks : List ℕ) → ((k : ℕ) → f k ≡ g k) → map f ks ≡ map g ks
map_same f g [] same = refl
map_same f g (k ∷ ks) same = ap₂ (λ (x : List Said) xs. x ∷ xs) (same k) (map_same f g ks same)

pub session_range : (schema : Schema) (l : Line) → is_taken schema l ≡ true → (1 ≤ l.session) × (l.session ≤ 16)
session_range schema l taken =
    let parts = and_parts (is_session l.session) (is_taken_stmt schema l.stmt) taken in
    let range = and_parts (nat_le 1 l.session) (nat_le l.session 16) parts.0 in
    (low (l.session) range.0, high (l.session) range.1)
  where
    low : (n : ℕ) → nat_le 1 n ≡ true → 1 ≤ n
    low n e = grind (arith, nat_tests)

    high : (n : ℕ) → nat_le n 16 ≡ true → n ≤ 16
    high n e = grind (arith, nat_tests)

pub runs_more : (schema : Schema) (done : List Line) (l : Line) (before after : History) (replies replies' : List (List Said)) → is_taken schema l ≡ true
    → RunsTo schema done before replies → Deals schema l before after replies replies' → RunsTo schema (done ++ l ∷ []) after replies'
runs_more schema done l before after replies replies' spoken runs deals =
    let range = session_range schema l spoken in
    let i = l.session - 1 in
    let f = λ (k : ℕ). said_by k done runs.saids in
    let d = deals.said in
    let at : 1 + i ≡ l.session = omega (arith, range.0) in
    record {
      saids = runs.saids ++ d ∷ [];
      run = subst (Drives schema [] (done ++ l ∷ []) (runs.saids ++ d ∷ [])) (sym deals.turn.history) (Drives-more schema [] before done runs.saids l d deals.turn.makes runs.run deals.turn.turn);
      replies_are = deals.put ∙ ap (λ (rs : List (List Said)). set rs i (slice_index_or rs i [] ++ d ∷ [])) runs.replies_are
          ∙ dealt_one f d 1 i sessions sessions_numbered (omega (arith, range.0, range.1, sixteen))
          ∙ ap (λ m. map (λ h. cond (nat_eq m h) (f h ++ d ∷ []) (f h)) sessions) at
          ∙ sym (map_same _ _ sessions (λ j. said_more schema j done runs.saids [] before l d runs.run));
    }

pub runs_on : (schema : Schema) (lines rest : List Line) (l : Line) (before after : History) (replies replies' : List (List Said)) → is_taken schema l ≡ true
    → RunsOn schema lines (l ∷ rest) before replies → Deals schema l before after replies replies' → RunsOn schema lines rest after replies'
runs_on schema lines rest l before after replies replies' spoken runs deals = record {
  done = runs.done ++ l ∷ [];
  lines_are = runs.lines_are ∙ sym (append_assoc runs.done (l ∷ []) rest);
  so_far = runs_more schema runs.done l before after replies replies' spoken runs.so_far deals;
}

nothing_said : (ks : List ℕ) → replicate (length ks) [] ≡ map (λ k. said_by k [] []) ks
nothing_said [] = refl
nothing_said (k ∷ ks) = ap (λ (rs : List (List Said)). [] ∷ rs) (nothing_said ks)

pub runs_first : (schema : Schema) (lines : List Line) (H : History) (replies : List (List Said)) → H ≡ [] → replies ≡ replicate 16 [] → RunsOn schema lines lines H replies
runs_first schema lines H replies empty none = record {
  done = [];
  lines_are = refl;
  so_far = record { saids = []; run = empty; replies_are = none ∙ ap (λ n. replicate n []) (sym sixteen) ∙ nothing_said sessions };
}

pub runs_whole : (schema : Schema) (lines : List Line) (H : History) (replies : List (List Said)) → RunsOn schema lines [] H replies → RunsTo schema lines H replies
runs_whole schema lines H replies runs = subst (λ ls. RunsTo schema ls H replies) (sym (runs.lines_are ∙ append-nil runs.done)) runs.so_far

-- transcripts

positive : (n : ℕ) → nat_eq (suc n) 0 ≡ false
positive n = grind (arith, nat_tests)

any_said : (schema : Schema) (k : ℕ) (ls : List Line) (ds : List Said) (H whole : History) → Drives schema H ls ds whole → list_any (is_of_session k) ls ≡ not (nat_eq (length (said_by k ls ds)) 0)
any_said schema k [] [] H whole run = refl
any_said schema k [] (d ∷ ds) H whole run = absurd run
any_said schema k (l ∷ ls) [] H whole run = absurd run
any_said schema k (l ∷ ls) (d ∷ ds) H whole run =
    elim (nat_eq l.session k) as (λ b. (b || list_any (is_of_session k) ls) ≡ not (nat_eq (length (cond b (d ∷ said_by k ls ds) (said_by k ls ds))) 0)) [
      | true ↦ sym (ap not (positive (length (said_by k ls ds))))
      | false ↦ any_said schema k ls ds (extended l.session run.0 H) whole run.2
    ]

spoken_are : (f : ℕ → List Said) (p : ℕ → Bool) (n : ℕ) (ks : List ℕ) → Numbered n ks → ((k : ℕ) → p k ≡ not (nat_eq (length (f k)) 0))
    → spoken_from n (map f ks) ≡ map (λ k. record { session = k; faults = 0; said = f k }) (filter p ks)
unfolding Numbered
spoken_are f p n [] num same = refl
spoken_are f p n (k ∷ ks) num same =
    ap (λ (m : ℕ). cond (nat_eq (length (f k)) 0) (spoken_from (suc n) (map f ks)) (record { session = m; faults = 0; said = f k } ∷ spoken_from (suc n) (map f ks))) (sym num.0)
    ∙ go (nat_eq (length (f k)) 0) (p k) (same k) (spoken_are f p (suc n) ks num.1 same)
  where
    go : (a b : Bool) → b ≡ not a → spoken_from (suc n) (map f ks) ≡ map (λ j. record { session = j; faults = 0; said = f j }) (filter p ks)
        → cond a (spoken_from (suc n) (map f ks)) (record { session = k; faults = 0; said = f k } ∷ spoken_from (suc n) (map f ks))
        ≡ map (λ j. record { session = j; faults = 0; said = f j }) (cond b (k ∷ filter p ks) (filter p ks))
    go true true e ih = cc
    go true false e ih = ih
    go false true e ih = ap (λ (ts : List Transcript). record { session = k; faults = 0; said = f k } ∷ ts) ih
    go false false e ih = cc

pub transcripts_are : (schema : Schema) (lines : List Line) (H : History) (replies : List (List Said)) (runs : RunsTo schema lines H replies)
    → spoken_from 1 replies ≡ transcripts_of lines runs.saids
transcripts_are schema lines H replies runs =
    ap (spoken_from 1) runs.replies_are
    ∙ spoken_are (λ k. said_by k lines runs.saids) (λ k. list_any (is_of_session k) lines) 1 sessions sessions_numbered
    (λ k. any_said schema k lines runs.saids [] H runs.run)

-- such lines have verdicts

pub taken_verdict : (schema : Schema) (stmt : Stmt) → is_taken_stmt schema stmt ≡ true → has_verdict stmt ≡ true
taken_verdict schema (Insert rows) e = refl
taken_verdict schema (Update sets pred) e = refl
taken_verdict schema (Delete pred) e = refl
taken_verdict schema (Select select) e = refl
taken_verdict schema Begin e = refl
taken_verdict schema BeginReadOnly e = refl
taken_verdict schema Commit e = refl
taken_verdict schema Rollback e = refl
taken_verdict schema _ e = absurd (false≢true e)

pub all_spoken : (schema : Schema) (ls : List Line) → list_all (is_taken schema) ls ≡ true → list_all is_spoken ls ≡ true
all_spoken schema [] e = refl
all_spoken schema (l ∷ ls) e =
    let both = and_parts (is_taken schema l) (list_all (is_taken schema) ls) e in
    let parts = and_parts (is_session l.session) (is_taken_stmt schema l.stmt) both.0 in
    rw (parts.0, taken_verdict schema l.stmt parts.1, all_spoken schema ls both.1) refl

-- a write among them is one whose rows and values fit the table

pub write_fits : (schema : Schema) (stmt : Stmt) → is_write stmt ≡ true → is_taken_stmt schema stmt ≡ true → stmt_suits schema stmt ≡ true
write_fits schema (Insert rows) w e = e
write_fits schema (Update sets pred) w e = e
write_fits schema (Delete pred) w e = e
write_fits schema _ w e = absurd (false≢true w)

pub write_may_fail : (stmt : Stmt) → is_write stmt ≡ true → is_end stmt ≡ false
write_may_fail (Insert rows) w = refl
write_may_fail (Update sets pred) w = refl
write_may_fail (Delete pred) w = refl
write_may_fail _ w = absurd (false≢true w)

-- the table stays

pub no_table_change : (s : State) → SameTable s s
no_table_change s = record { schema = refl; options = refl }

pub same_table : (a b c : State) → SameTable a b → SameTable b c → SameTable a c
same_table a b c ab bc = record { schema = bc.schema ∙ ab.schema; options = bc.options ∙ ab.options }
