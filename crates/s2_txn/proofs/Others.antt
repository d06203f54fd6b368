-- Who else holds a row or a value, by look-up.
use Rattle.std.proofs.Common.{◌≡◌, ℕ, ◌<◌, Bool, true, false, not, ◌&&◌, ◌||◌, cond, ◌==◌, List, [], ◌∷◌, length, Option, Some, None, refl, sym, ap, subst, ◌∙◌}
use Rattle.std.specs.Prelude.{slice_get}
use Rattle.std.specs.List.{list_any, find}
use Rattle.std.proofs.lemmas.Bool.{false≢true, true≢false, both_ways, and_parts, and_from, eqb-true, eqb-false, eq-eqb, not_from_false, or_cases, false_from_ne_true, or_left}
use Rattle.s2_value.specs.declared.values.Value.{Value}
use Rattle.s2_model.specs.declared.entries.Change.{Change}
use Rattle.s2_model.specs.Table.{touches}
use Rattle.s2_model.specs.History.{History, is_session, is_running, state, pending}
use Rattle.s2_model.specs.Held.{holds, holds_value, has_value, sessions}
use Rattle.s2_model.specs.Verdict.{other_holder, other_value_holder}
use Rattle.s2_model.proofs.Holders.{some_session}
use Rattle.s2_uniquelock.specs.Locks.{row_holder, value_keeper, without}
use Rattle.s2_state.specs.declared.states.State.{State}
use Rattle.s2_state.specs.States.{history_of}
use Rattle.s2_state.specs.Good.{Good, is_holder, holds_key}
use Rattle.s2_state.proofs.Sessions.{are_sessions}
use Rattle.s2_txn.specs.Refusals.{unique_at}
use Rattle.s2_txn.proofs.Uniques.{at_unique}

never_found : (p : ℕ → Bool) (xs : List ℕ) → ((j : ℕ) → p j ≡ false) → find p xs ≡ None
never_found p [] never = refl
never_found p (x ∷ xs) never = ap (λ b. cond b (Some x) (find p xs)) (never x) ∙ never_found p xs never

only_found : (p : ℕ → Bool) (h : ℕ) (xs : List ℕ) → ((j : ℕ) → p j ≡ true → j ≡ h) → list_any p xs ≡ true → find p xs ≡ Some h
only_found p h [] only some = absurd (false≢true some)
only_found p h (x ∷ xs) only some = go (p x) refl some (λ later. only_found p h xs only later)
  where
    go : (b : Bool) → p x ≡ b → (b || list_any p xs) ≡ true → (list_any p xs ≡ true → find p xs ≡ Some h) → cond b (Some x) (find p xs) ≡ Some h
    go true e s ih = ap Some (only x e)
    go false e s ih = ih s

-- the one holder, unless it is k
pub others : (k : ℕ) (o : Option ℕ) (q : ℕ → Bool) → ((j : ℕ) → is_holder j o ≡ q j) → ((j : ℕ) → q j ≡ true → is_session j ≡ true)
    → find (λ j. not (j == k) && q j) sessions ≡ without k o
others k None q held session = never_found (λ j. not (j == k) && q j) sessions never
  where
    never : (j : ℕ) → (not (j == k) && q j) ≡ false
    never j = false_from_ne_true _ (λ t. true≢false (sym (and_parts (not (j == k)) (q j) t).1 ∙ sym (held j)))
others k (Some h) q held session = go (h == k) refl
  where
    holder : q h ≡ true
    holder = sym (held h) ∙ eq-eqb h h refl

    is_it : (j : ℕ) → (not (j == k) && q j) ≡ true → j ≡ h
    is_it j t = sym (eqb-true h j (held j ∙ (and_parts (not (j == k)) (q j) t).1))

    go : (b : Bool) → (h == k) ≡ b → find (λ j. not (j == k) && q j) sessions ≡ cond b None (Some h)
    go true e = never_found (λ j. not (j == k) && q j) sessions (λ j. false_from_ne_true _ (λ t.
        both_ways (j == k) (not_true (j == k) (and_parts (not (j == k)) (q j) t).0) (eq-eqb j k (is_it j t ∙ eqb-true h k e))))
      where
        not_true : (b : Bool) → not b ≡ true → b ≡ false
        not_true true n = absurd (false≢true n)
        not_true false n = refl
    go false e = only_found (λ j. not (j == k) && q j) h sessions is_it
        (some_session (λ j. not (j == k) && q j) h (session h holder) (and_from _ _ (not_from_false _ e) holder))

-- holders are sessions

touching : (cs : List Change) (n : ℕ) → touches cs n ≡ true → cs ≡ [] → ⊥
touching cs n t e = false≢true (sym (ap (λ c. touches c n) e) ∙ t)

pending_session : (s : State) → Good s → (j : ℕ) → (pending (history_of s) j ≡ [] → ⊥) → is_session j ≡ true
pending_session s g j some = go (is_running (history_of s) j) refl
  where
    go : (b : Bool) → is_running (history_of s) j ≡ b → is_session j ≡ true
    go true e = (are_sessions s.schema s.options (history_of s) g.log.fits).sessions j (or_left _ _ e)
    go false e = absurd (some (g.slots.idle j e))

pub holds_session : (s : State) → Good s → (j n : ℕ) → holds (history_of s) j n ≡ true → is_session j ≡ true
holds_session s g j n e = pending_session s g j (touching (pending (history_of s) j) n e)

value_session : (s : State) → Good s → (j : ℕ) (key : List ℕ) (v : List Value) → holds_value (history_of s) j key v ≡ true → is_session j ≡ true
value_session s g j key v e = pending_session s g j (λ none. false≢true (sym (ap (λ cs. has_value key (state (history_of s)) cs v) none) ∙ e))

pub holder_of_row : (s : State) → Good s → (k n : ℕ) → without k (row_holder s.locks n) ≡ other_holder (history_of s) k n
holder_of_row s g k n = sym (others k (row_holder s.locks n) (λ j. holds (history_of s) j n) (λ j. g.locks.rows j n) (λ j e. holds_session s g j n e))

pub holder_of_value : (s : State) → Good s → (k j : ℕ) (v : List Value) → j < length s.schema.uniques
    → without k (value_keeper s.locks j v) ≡ other_value_holder (history_of s) k (unique_at s.schema j) v
holder_of_value s g k j v lt =
    sym (others k (value_keeper s.locks j v) (λ i. holds_value (history_of s) i (unique_at s.schema j) v)
    (λ i. g.locks.values i j v ∙ ap (λ o. holds_key (history_of s) i o v) (at_unique s.schema j lt))
    (λ i e. value_session s g i (unique_at s.schema j) v e))
