-- A verdict at the end of the history is that at its session's pin, where the statement ends no transaction.
use Rattle.std.proofs.Common.{◌≡◌, ℕ, suc, ◌≤◌, Bool, true, false, cond, Option, Some, None, is_some, [], ◌∷◌, length, refl, sym, ap, subst, ◌∙◌, arith, inl, inr, ⊎_elim}
use Rattle.std.specs.Prelude.{nat_eq, nat_lt, unwrap_or, ◌||◌}
use Rattle.std.proofs.lemmas.Bool.{false≢true}
use Rattle.s2_value.specs.declared.schemas.Schema.{Schema}
use Rattle.s2_model.specs.declared.entries.What.{What}
use Rattle.s2_model.specs.declared.entries.What.TheVariants as what
use Rattle.s2_model.specs.declared.statements.Stmt.{Stmt}
use Rattle.s2_model.specs.declared.statements.Select.{Select as Wanted}
use Rattle.s2_model.specs.declared.scripts.Line.{Line}
use Rattle.s2_model.specs.declared.outcomes.Said.{Said}
use Rattle.s2_model.specs.declared.statements.Stmt.TheVariants.{Insert, Update, Delete, Select, Begin, BeginReadOnly, Commit, Rollback}
use Rattle.s2_model.specs.declared.replies.Reply.{Reply}
use Rattle.s2_model.specs.declared.replies.Reply.TheVariants.{Done, Rows, Refused}
use Rattle.s2_model.specs.declared.replies.Refusal.TheVariants as refusal
use Rattle.s2_model.specs.Answer.{answer}
use Rattle.s2_model.specs.History.{History, ◌▷◌, upto, pin_of, pin_after, is_running, state, seen_at, view}
use Rattle.s2_model.specs.Verdict.{Ruled, verdict, write_verdict, begin_verdict, refused, says, makes, last_length}
use Rattle.s2_model.specs.Legal.{Answers, pin_for, is_end, has_verdict}
use Rattle.s2_model.proofs.Timestamps.{upto_all, upto_past, upto-upto}
use Rattle.s2_state.specs.declared.states.State.{State}
use Rattle.s2_state.specs.States.{history_of}
use Rattle.s2_txn.specs.Says.{Says, WantsMemory, SaysOrMemory}
use Rattle.s2_drive.specs.Turns.{read_time, Told, TakesTurn}

-- a pin stands from its timestamp on

pub record PinnedAt (H : History) (k t : ℕ) : Type 0 where
  pub there : pin_of (upto t H) k ≡ Some t
  pub by : t ≤ length H

pub pinned_at : (H : History) (k t : ℕ) → pin_of H k ≡ Some t → PinnedAt H k t
pinned_at [] k t e = cc
pinned_at (H ▷ x) k t e = go (nat_eq k x.actor) x.what refl refl (λ p. later (pinned_at H k t p))
  where
    later : PinnedAt H k t → PinnedAt (H ▷ x) k t
    later p = record { there = ap (λ h. pin_of h k) (upto_past t H x p.by) ∙ p.there; by = omega (arith, p.by) }

    here : t ≡ suc (length H) → PinnedAt (H ▷ x) k t
    here same = record { there = ap (λ h. pin_of h k) (upto_all t (H ▷ x) (omega (arith, same))) ∙ e; by = omega (arith, same) }

    own : (w : What) → x.what ≡ w → nat_eq k x.actor ≡ true → (pin_of H k ≡ Some t → PinnedAt (H ▷ x) k t) → pin_after w (suc (length H)) (pin_of H k) ≡ Some t → PinnedAt (H ▷ x) k t
    own what.Pin i b others p = here (cc p)
    own what.Unpin i b others p = cc
    own what.Begin i b others p = others p
    own (what.Write cs) i b others p = others p
    own what.Commit i b others p = others p
    own what.Rollback i b others p = others p
    own (what.Move places) i b others p = others p
    own (what.Flush note) i b others p = others p
    own (what.Merge note) i b others p = others p
    own (what.Upload n) i b others p = others p
    own (what.Evict ns) i b others p = others p
    own (what.Vacuum n) i b others p = others p

    go : (b : Bool) (w : What) → nat_eq k x.actor ≡ b → x.what ≡ w → (pin_of H k ≡ Some t → PinnedAt (H ▷ x) k t) → PinnedAt (H ▷ x) k t
    go true w b i others = own w i b others
        (ap (λ v. pin_after v (suc (length H)) (pin_of H k)) (sym i) ∙ sym (ap (λ c. cond {A = Option ℕ} c (pin_after x.what (suc (length H)) (pin_of H k)) (pin_of H k)) b) ∙ e)
    go false w b i others = others (sym (ap (λ c. cond {A = Option ℕ} c (pin_after x.what (suc (length H)) (pin_of H k)) (pin_of H k)) b) ∙ e)

-- the verdict at the pin

or_true : (b : Bool) → (b || true) ≡ true
or_true true = refl
or_true false = refl

write_pinned : (schema : Schema) (H : History) (k t : ℕ) (stmt : Stmt) → pin_of H k ≡ Some t → write_verdict schema H k stmt ≡ refused refusal.ReadOnly
write_pinned schema H k t stmt p = rw p refl

begin_pinned : (H : History) (k t : ℕ) (w : What) → pin_of H k ≡ Some t → begin_verdict H k w ≡ refused refusal.AlreadyOpen
begin_pinned H k t w p =
    ap (λ b. cond {A = Ruled} b (refused refusal.AlreadyOpen) (cond {A = Ruled} (nat_lt last_length (length H)) (refused refusal.LogFull) (makes Done (w ∷ []))))
    (ap (λ o. is_running H k || is_some o) p ∙ or_true (is_running H k))

view_pinned : (H : History) (k t : ℕ) → pin_of H k ≡ Some t → view (upto t H) k ≡ view H k
view_pinned H k t p =
    let at = pinned_at H k t p in
    ap (λ o. seen_at o (upto t H) k) at.there ∙ ap state (upto-upto t t H (omega arith)) ∙ sym (ap (λ o. seen_at o H k) p)

verdict_pinned : (schema : Schema) (H : History) (k t : ℕ) (stmt : Stmt) → is_end stmt ≡ false → pin_of H k ≡ Some t → verdict schema (upto t H) k stmt ≡ verdict schema H k stmt
verdict_pinned schema H k t (Select select) e p = ap (λ rows. says (Rows (answer select rows))) (view_pinned H k t p)
verdict_pinned schema H k t (Insert xs) e p = write_pinned schema (upto t H) k t (Insert xs) (pinned_at H k t p).there ∙ sym (write_pinned schema H k t (Insert xs) p)
verdict_pinned schema H k t (Update sets pred) e p = write_pinned schema (upto t H) k t (Update sets pred) (pinned_at H k t p).there ∙ sym (write_pinned schema H k t (Update sets pred) p)
verdict_pinned schema H k t (Delete pred) e p = write_pinned schema (upto t H) k t (Delete pred) (pinned_at H k t p).there ∙ sym (write_pinned schema H k t (Delete pred) p)
verdict_pinned schema H k t Begin e p = begin_pinned (upto t H) k t what.Begin (pinned_at H k t p).there ∙ sym (begin_pinned H k t what.Begin p)
verdict_pinned schema H k t BeginReadOnly e p = begin_pinned (upto t H) k t what.Pin (pinned_at H k t p).there ∙ sym (begin_pinned H k t what.Pin p)
verdict_pinned schema H k t Commit e p = absurd (false≢true (sym e))
verdict_pinned schema H k t Rollback e p = absurd (false≢true (sym e))
verdict_pinned schema H k t _ e p = refl

-- at the timestamp at which the statement reads

pub verdict_read : (schema : Schema) (H : History) (k : ℕ) (stmt : Stmt) → verdict schema (upto (read_time H k stmt) H) k stmt ≡ verdict schema H k stmt
verdict_read schema H k stmt = by_end (is_end stmt) refl
  where
    at_end : pin_for (pin_of H k) stmt ≡ None → verdict schema (upto (read_time H k stmt) H) k stmt ≡ verdict schema H k stmt
    at_end none = ap (λ h. verdict schema h k stmt) (ap (λ o. upto (unwrap_or o (length H)) H) none ∙ upto_all (length H) H (omega arith))

    by_pin : is_end stmt ≡ false → (pin : Option ℕ) → pin_of H k ≡ pin → verdict schema (upto (read_time H k stmt) H) k stmt ≡ verdict schema H k stmt
    by_pin e None p = at_end (ap (λ b. cond {A = Option ℕ} b None (pin_of H k)) e ∙ p)
    by_pin e (Some t) p =
        ap (λ o. verdict schema (upto (unwrap_or o (length H)) H) k stmt) (ap (λ b. cond {A = Option ℕ} b None (pin_of H k)) e ∙ p) ∙ verdict_pinned schema H k t stmt e p

    by_end : (b : Bool) → is_end stmt ≡ b → verdict schema (upto (read_time H k stmt) H) k stmt ≡ verdict schema H k stmt
    by_end true e = at_end (ap (λ b. cond {A = Option ℕ} b None (pin_of H k)) e)
    by_end false e = by_pin e (pin_of H k) refl

-- what is said is told

pub told : (old new : State) (k : ℕ) (stmt : Stmt) (reply : Reply) → has_verdict stmt ≡ true → Says old new k stmt reply → Told old.schema k stmt reply (history_of old) (history_of new)
told old new k stmt reply ruled says =
    let same = sym (verdict_read old.schema (history_of old) k stmt) in
    record {
      makes = (verdict old.schema (history_of old) k stmt).makes;
      answers = inl (record { ruled = ruled; reply_is = says.reply_is ∙ ap (λ r. r.reply) same; entries_are = ap (λ r. r.makes) same });
      history = says.entries_are;
    }

pub told_or : (old new : State) (k : ℕ) (stmt : Stmt) (reply : Reply) → has_verdict stmt ≡ true → is_end stmt ≡ false → SaysOrMemory old new k stmt reply
    → Told old.schema k stmt reply (history_of old) (history_of new)
told_or old new k stmt reply ruled may said =
    ⊎_elim (λ (s : Says old new k stmt reply). told old new k stmt reply ruled s)
    (λ (want : WantsMemory old new reply). record {
      makes = [];
      answers = inr (record { may = may; reply_is = want.reply_is; moved = inl refl });
      history = want.entries_are;
    }) said

pub told_rows : (s : State) (k : ℕ) (wanted : Wanted) (reply : Reply) → reply ≡ Rows (answer wanted (view (history_of s) k))
    → Told s.schema k (Select wanted) reply (history_of s) (history_of s)
told_rows s k wanted reply e = told s s k (Select wanted) reply refl (record { reply_is = e; entries_are = refl })

pub told_memory : (s : State) (k : ℕ) (stmt : Stmt) → is_end stmt ≡ false → Told s.schema k stmt (Refused refusal.Memory) (history_of s) (history_of s)
told_memory s k stmt may = record { makes = []; answers = inr (record { may = may; reply_is = refl; moved = inl refl }); history = refl }

-- a line's turn

pub turned : (schema : Schema) (line : Line) (d : Said) (before after : History) → d.r ≡ read_time before line.session line.stmt → d.faults ≡ 0
    → Told schema line.session line.stmt d.reply before after → TakesTurn schema line d before after
turned schema line d before after time faults told = record {
  makes = told.makes;
  turn = record {
    time = time;
    answer = subst (λ r. Answers schema (upto r before) line.session line.stmt d.reply told.makes) (sym time) told.answers;
    faults = faults;
  };
  history = told.history;
}
