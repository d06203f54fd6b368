-- A write answers and makes what its verdict says.
use Rattle.std.proofs.Common.{◌≡◌, ℕ, suc, ◌+◌, ◌<◌, ◌≤◌, Bool, true, false, cond, List, [], ◌∷◌, map, length, Option, Some, None, is_some, refl, sym, ap, ap₂, subst, ◌∙◌, inl, arith}
use Rattle.std.specs.Prelude.{nat_lt}
use Rattle.std.specs.Option.{option_or}
use Rattle.std.specs.List.{list_all}
use Rattle.std.proofs.lemmas.Bool.{false≢true, ltb-true, ltb-false, lt-ltb}
use Rattle.s2_value.specs.declared.schemas.Schema.{Schema}
use Rattle.s2_model.specs.declared.entries.Change.{Change}
use Rattle.s2_model.specs.declared.entries.Change.TheVariants.{Drop}
use Rattle.s2_model.specs.declared.statements.SetExpr.{SetExpr}
use Rattle.s2_model.specs.declared.statements.Stmt.{Stmt}
use Rattle.s2_model.specs.declared.statements.Stmt.TheVariants.{Insert, Update, Delete}
use Rattle.s2_model.specs.declared.replies.Reply.{Reply}
use Rattle.s2_model.specs.declared.replies.Reply.TheVariants.{Refused}
use Rattle.s2_model.specs.declared.replies.Refusal.{Refusal}
use Rattle.s2_model.specs.declared.replies.Refusal.TheVariants as refusal
use Rattle.s2_model.specs.Table.{Table, RowOf, apply, number_of}
use Rattle.s2_model.specs.History.{History, is_running, pin_of, next, seen_at, view, extended}
use Rattle.s2_model.specs.Verdict.{Ruled, verdict, write_verdict, write_or, refusal_of, refused, changes, matched, too_many, locked, out_of_range, locked_value, duplicate, moves, move_of, resting_places, last_length, most_rows, updated}
use Rattle.s2_model.specs.Fits.{WriteFits, put_fits, rise}
use Rattle.s2_model.specs.Placement.{placement}
use Rattle.s2_answer.specs.Suits.{stmt_suits}
use Rattle.s2_state.specs.declared.states.State.{State}
use Rattle.s2_state.specs.States.{history_of}
use Rattle.s2_state.specs.Good.{Good}
use Rattle.s2_state.specs.Takes.{AreFreeKeys}
use Rattle.s2_txn.specs.Refusals.{is_write, writing_refusal, value_refusal}
use Rattle.s2_txn.specs.Says.{Says, WantsMemory, SaysOrMemory, Carries}
use Rattle.s2_txn.proofs.Unrefused.{first_none, key_unrefused, key_free}
use Rattle.s2_txn.proofs.Planned.{changes_of, refusal_at, rising_write, fitting_write, may_write}
use Rattle.s2_txn.proofs.Others.{holds_session}
use Rattle.s2_txn.proofs.Taking.{alone}

-- an actor that may write isn't inside a pin, and the history has room
pub record MayStart (H : History) (k : ℕ) : Type 0 where
  pub unpinned : pin_of H k ≡ None
  pub short : length H ≤ last_length

pub may_start : (H : History) (k : ℕ) → writing_refusal H k ≡ None → MayStart H k
may_start H k none = go (pin_of H k) refl (nat_lt last_length (length H)) refl none
  where
    go : (o : Option ℕ) → pin_of H k ≡ o → (b : Bool) → nat_lt last_length (length H) ≡ b
        → cond (is_some o) (Some refusal.ReadOnly) (cond b (Some refusal.LogFull) None) ≡ None → MayStart H k
    go (Some t) p b q e = absurd (cc)
    go None p true q e = absurd (cc)
    go None p false q e = record { unpinned = p; short = ltb-false last_length (length H) q }

-- where nothing lies in segments, nothing is moved
nothing_moves : (H : History) (rows : Table) → (placement H).segments ≡ [] → moves H rows ≡ []
nothing_moves H [] bare = refl
nothing_moves H (p ∷ rows) bare = ap (λ s. move_of (resting_places s (map (λ q. q.0) (p ∷ rows)))) bare

-- the verdict of a write that may start

pub ruled : (s : State) (k : ℕ) (stmt : Stmt) → Good s → writing_refusal (history_of s) k ≡ None
    → write_verdict s.schema (history_of s) k stmt ≡ write_or (refusal_at s k stmt) [] (is_running (history_of s) k) (changes_of s k stmt)
ruled s k stmt g none = go (pin_of H k) refl (nat_lt last_length (length H)) refl none
  where
    H : History
    H = history_of s

    whole : Ruled
    whole = write_or (refusal_at s k stmt) (moves H (matched stmt (view H k))) (is_running H k) (changes_of s k stmt)

    bare : whole ≡ write_or (refusal_at s k stmt) [] (is_running H k) (changes_of s k stmt)
    bare = ap (λ m. write_or (refusal_at s k stmt) m (is_running H k) (changes_of s k stmt)) (nothing_moves H (matched stmt (view H k)) g.placement.bare)

    go : (o : Option ℕ) → pin_of H k ≡ o → (b : Bool) → nat_lt last_length (length H) ≡ b
        → cond (is_some o) (Some refusal.ReadOnly) (cond b (Some refusal.LogFull) None) ≡ None
        → write_verdict s.schema H k stmt ≡ write_or (refusal_at s k stmt) [] (is_running H k) (changes_of s k stmt)
    go (Some t) p b q e = absurd (cc)
    go None p true q e = absurd (cc)
    go None p false q e =
        ap (λ o. cond {A = Ruled} (is_some o) (refused refusal.ReadOnly) (cond {A = Ruled} (nat_lt last_length (length H)) (refused refusal.LogFull) whole)) p
        ∙ ap (λ b. cond {A = Ruled} b (refused refusal.LogFull) whole) q
        ∙ bare

-- the statement is a write
abbrev pub IsWrite : Stmt → Type 0
IsWrite stmt = (schema : Schema) (H : History) (k : ℕ) → verdict schema H k stmt ≡ write_verdict schema H k stmt

pub says_carried : (s t : State) (k : ℕ) (stmt : Stmt) (reply : Reply) (r : Option Refusal) → IsWrite stmt → Good s → writing_refusal (history_of s) k ≡ None
    → refusal_at s k stmt ≡ r → Carries (write_or r [] (is_running (history_of s) k) (changes_of s k stmt)) k s t reply
    → Says s t k stmt reply
says_carried s t k stmt reply r write g none is carries = record {
  reply_is = carries.reply_is ∙ sym (ap (λ x. x.reply) same);
  entries_are = carries.entries_are ∙ sym (ap (λ x. extended k x.makes (history_of s)) same);
}
  where
    same : verdict s.schema (history_of s) k stmt ≡ write_or r [] (is_running (history_of s) k) (changes_of s k stmt)
    same = write s.schema (history_of s) k ∙ ruled s k stmt g none ∙ ap (λ o. write_or o [] (is_running (history_of s) k) (changes_of s k stmt)) is

pub says_refused : (s : State) (k : ℕ) (stmt : Stmt) (r : Refusal) → IsWrite stmt → Good s → writing_refusal (history_of s) k ≡ None
    → refusal_at s k stmt ≡ Some r → Says s s k stmt (Refused r)
says_refused s k stmt r write g none is = says_carried s s k stmt (Refused r) (Some r) write g none is (record { reply_is = refl; entries_are = refl })

-- the refusals in turn

pub first_refused : (a b : Option Refusal) (r : Refusal) → a ≡ Some r → option_or a b ≡ Some r
first_refused (Some x) b r e = e
first_refused None b r e = absurd (cc)

pub then_refused : (a b : Option Refusal) → a ≡ None → option_or a b ≡ b
then_refused None b e = refl
then_refused (Some x) b e = absurd (cc)

pub many : (cs : List Change) → most_rows < length cs → too_many cs ≡ Some refusal.TooManyRows
many cs lt = ap (λ b. cond b (Some refusal.TooManyRows) None) (lt-ltb most_rows (length cs) lt)

pub few : (cs : List Change) → length cs ≤ most_rows → too_many cs ≡ None
few cs le = go (nat_lt most_rows (length cs)) refl
  where
    go : (b : Bool) → nat_lt most_rows (length cs) ≡ b → cond b (Some refusal.TooManyRows) None ≡ None
    go true e = absurd (omega (arith, le, ltb-true most_rows (length cs) e))
    go false e = refl

pub is_left_to_values : (s : State) (k : ℕ) (stmt : Stmt) → too_many (changes_of s k stmt) ≡ None → locked (history_of s) k (matched stmt (view (history_of s) k)) ≡ None
    → out_of_range stmt (matched stmt (view (history_of s) k)) ≡ None
    → refusal_at s k stmt ≡ value_refusal s.schema (history_of s) k (changes_of s k stmt)
is_left_to_values s k stmt a b c =
    then_refused (too_many (changes_of s k stmt)) _ a
    ∙ then_refused (locked (history_of s) k (matched stmt (view (history_of s) k))) _ b
    ∙ then_refused (out_of_range stmt (matched stmt (view (history_of s) k))) _ c

-- a write is a write, and is refused early as the verdict says

pub write_verdict_is : (stmt : Stmt) → is_write stmt ≡ true → IsWrite stmt
write_verdict_is (Insert xs) e schema H k = refl
write_verdict_is (Update sets pred) e schema H k = refl
write_verdict_is (Delete pred) e schema H k = refl
write_verdict_is _ e schema H k = absurd (false≢true e)

early_refused : (schema : Schema) (H : History) (k : ℕ) (stmt : Stmt) (r : Refusal) → writing_refusal H k ≡ Some r → write_verdict schema H k stmt ≡ refused r
early_refused schema H k stmt r some = go (pin_of H k) refl (nat_lt last_length (length H)) refl some
  where
    whole : Ruled
    whole = write_or (refusal_of schema H k stmt (view H k) (changes stmt (view H k) (next H))) (moves H (matched stmt (view H k))) (is_running H k) (changes stmt (view H k) (next H))

    go : (o : Option ℕ) → pin_of H k ≡ o → (b : Bool) → nat_lt last_length (length H) ≡ b
        → cond (is_some o) (Some refusal.ReadOnly) (cond b (Some refusal.LogFull) None) ≡ Some r
        → write_verdict schema H k stmt ≡ refused r
    go (Some t) p b q e =
        let same : refusal.ReadOnly ≡ r = cc in
        ap (λ o. cond {A = Ruled} (is_some o) (refused refusal.ReadOnly) (cond {A = Ruled} (nat_lt last_length (length H)) (refused refusal.LogFull) whole)) p
        ∙ ap refused same
    go None p true q e =
        let same : refusal.LogFull ≡ r = cc in
        ap (λ o. cond {A = Ruled} (is_some o) (refused refusal.ReadOnly) (cond {A = Ruled} (nat_lt last_length (length H)) (refused refusal.LogFull) whole)) p
        ∙ ap (λ b. cond {A = Ruled} b (refused refusal.LogFull) whole) q
        ∙ ap refused same
    go None p false q e = absurd (cc)

pub early_says : (s : State) (k : ℕ) (stmt : Stmt) (r : Refusal) → is_write stmt ≡ true → writing_refusal (history_of s) k ≡ Some r → SaysOrMemory s s k stmt (Refused r)
early_says s k stmt r write some = inl (record {
  reply_is = sym (ap (λ x. x.reply) same);
  entries_are = sym (ap (λ x. extended k x.makes (history_of s)) same);
})
  where
    same : verdict s.schema (history_of s) k stmt ≡ refused r
    same = write_verdict_is stmt write s.schema (history_of s) k ∙ early_refused s.schema (history_of s) k stmt r some

-- a write that only unique keys can still refuse

pub record IsPlanned (s : State) (k : ℕ) (stmt : Stmt) (cs : List Change) : Type 0 where
  pub write : is_write stmt ≡ true
  pub early : writing_refusal (history_of s) k ≡ None
  pub form : stmt_suits s.schema stmt ≡ true
  pub same : cs ≡ changes_of s k stmt
  pub few : too_many (changes_of s k stmt) ≡ None
  pub free : locked (history_of s) k (matched stmt (view (history_of s) k)) ≡ None
  pub range : out_of_range stmt (matched stmt (view (history_of s) k)) ≡ None

pub planned_rising : (s : State) (k : ℕ) (stmt : Stmt) (cs : List Change) → Good s → IsPlanned s k stmt cs → rise (map number_of cs) ≡ true
planned_rising s k stmt cs g p = ap (λ cs. rise (map number_of cs)) p.same ∙ rising_write s k stmt g

pub planned_fits : (s : State) (k : ℕ) (stmt : Stmt) (cs : List Change) → Good s → IsPlanned s k stmt cs → list_all (put_fits s.schema) cs ≡ true
planned_fits s k stmt cs g p =
    ap (list_all (put_fits s.schema)) p.same ∙ fitting_write s k stmt g (may_start (history_of s) k p.early).unpinned p.form

planned_refusal : (s : State) (k : ℕ) (stmt : Stmt) (cs : List Change) → IsPlanned s k stmt cs → refusal_at s k stmt ≡ value_refusal s.schema (history_of s) k cs
planned_refusal s k stmt cs p = is_left_to_values s k stmt p.few p.free p.range ∙ ap (value_refusal s.schema (history_of s) k) (sym p.same)

pub planned_may : (s : State) (k : ℕ) (stmt : Stmt) (cs : List Change) → Good s → 0 < k → k < 17 → IsPlanned s k stmt cs
    → value_refusal s.schema (history_of s) k cs ≡ None → nat_lt 0 (length cs) ≡ true → WriteFits s.schema (history_of s) k cs
planned_may s k stmt cs g from to p none some =
    subst (WriteFits s.schema (history_of s) k) (sym p.same)
    (may_write s k stmt g from to (may_start (history_of s) k p.early).unpinned p.form (planned_refusal s k stmt cs p ∙ none) (ap (λ cs. nat_lt 0 (length cs)) (sym p.same) ∙ some))

pub planned_says : (s t : State) (k : ℕ) (stmt : Stmt) (cs : List Change) (reply : Reply) → Good s → IsPlanned s k stmt cs
    → Carries (write_or (value_refusal s.schema (history_of s) k cs) [] (is_running (history_of s) k) cs) k s t reply → Says s t k stmt reply
planned_says s t k stmt cs reply g p carries =
    says_carried s t k stmt reply (value_refusal s.schema (history_of s) k cs) (write_verdict_is stmt p.write) g p.early (planned_refusal s k stmt cs p)
    (subst (λ ds. Carries (write_or (value_refusal s.schema (history_of s) k cs) [] (is_running (history_of s) k) ds) k s t reply) p.same carries)

-- the values of a write that isn't refused are free
pub keys_free : (s : State) (k : ℕ) (cs : List Change) → Good s → pin_of (history_of s) k ≡ None → rise (map number_of cs) ≡ true → WriteFits s.schema (history_of s) k cs
    → value_refusal s.schema (history_of s) k cs ≡ None → AreFreeKeys s.schema (history_of s) k cs
keys_free s k cs g pin up fit none i key at =
    let both = first_none (locked_value (history_of s) k s.schema.uniques cs) (duplicate (apply (view (history_of s) k) cs) s.schema.uniques cs) none in
    key_free (history_of s) k cs key (g.keys.kept i key at) up (λ j n e. holds_session s g j n e) (alone s k cs g fit)
    (key_unrefused (history_of s) k cs s.schema.uniques both.0
    (ap (λ o. duplicate (apply (seen_at o (history_of s) k) cs) s.schema.uniques cs) (sym pin) ∙ both.1) i key at)

pub some_there : (cs : List Change) → 0 < length cs → nat_lt 0 (length cs) ≡ true
some_there cs lt = lt-ltb 0 (length cs) lt
