-- A good state stays good with each entry of a transaction.
use Rattle.std.proofs.Common.{◌≡◌, ℕ, ◌+◌, ◌<◌, ◌≤◌, ◌^◌, Bool, true, false, ◌||◌, cond, nat_lt, [], length, Option, Some, None, is_some, refl, sym, ap, subst, ◌∙◌, arith}
use Rattle.std.specs.Prelude.{Result, Ok, Err, OnOk, OnErr}
use Rattle.std.proofs.lemmas.Bool.{false≢true, ltb-false, or_parts, or_left, or_right}
use Rattle.s2_model.specs.declared.entries.What.{What}
use Rattle.s2_model.specs.declared.entries.What.TheVariants.{Begin, Commit, Rollback, Pin, Unpin}
use Rattle.s2_model.specs.declared.replies.Refusal.TheVariants as refusal
use Rattle.s2_model.specs.History.{History, ◌▷◌, is_running, pin_of, is_open, pending}
use Rattle.s2_model.specs.Verdict.{last_length}
use Rattle.s2_model.specs.Fits.{BeginFits}
use Rattle.s2_model.proofs.Kept.{entry_of}
use Rattle.s2_state.specs.declared.states.State.{State}
use Rattle.s2_state.specs.States.{history_of, room_of, SameParts}
use Rattle.s2_state.specs.Good.{Good}
use Rattle.s2_state.proofs.Counting.{open_own}
use Rattle.s2_state.proofs.Sessions.{AreSessions, are_sessions}
use Rattle.s2_state.proofs.Over.{Over, over, Idle, Ready, good_from, over_at, quiet_over, begin_quiet, pin_quiet, unpin_quiet, rollback_over, commit_over}
use Rattle.s2_state.proofs.Ready.{session_of, begin_idle, rollback_idle, commit_idle, pin_idle, unpin_idle, early_ready, end_ready, some_room}
use Rattle.s2_txn.specs.Opening.{opening_refusal}
use Rattle.s2_txn.specs.Entries.{Ends, Commits, RollsBack}

-- what the absence of a refusal to open says
pub record MayOpen (H : History) (k : ℕ) : Type 0 where
  pub closed : is_open H k ≡ false
  pub short : length H ≤ last_length

pub may_open : (H : History) (k : ℕ) → opening_refusal H k ≡ None → MayOpen H k
may_open H k none = go (is_open H k) refl (nat_lt last_length (length H)) refl none
  where
    go : (b : Bool) → is_open H k ≡ b → (c : Bool) → nat_lt last_length (length H) ≡ c
        → cond b (Some refusal.AlreadyOpen) (cond c (Some refusal.LogFull) None) ≡ None → MayOpen H k
    go true p c q e = absurd (cc)
    go false p true q e = absurd (cc)
    go false p false q e = record { closed = p; short = ltb-false last_length (length H) q }

-- a good state over other names
good_with : (s t : State) (H : History) → SameParts s t → history_of t ≡ H → Over s.schema s.options H s.rows s.locks s.horizon → Idle H → Ready H (room_of t) → Good t
good_with s t H same h o idle ready =
    good_from t
    (over_at t.rows t.locks (sym same.schema) (sym same.options) (sym h) (sym same.horizon)
    (subst (λ S. Over s.schema s.options H S t.locks s.horizon) (sym same.rows)
    (subst (λ L. Over s.schema s.options H s.rows L s.horizon) (sym same.locks) o)))
    (subst Idle (sym h) idle) (subst (λ G. Ready G (room_of t)) (sym h) ready)

pub ready_of : (s : State) → Good s → Ready (history_of s) (room_of s)
ready_of s g = record { short = g.log.short; room_is = g.room }

-- nothing but room came
pub roomier_good : (s t : State) → Good s → SameParts s t → history_of t ≡ history_of s → room_of s ≤ room_of t → Good t
roomier_good s t g same h le =
    good_with s t (history_of s) same h (over s g) g.slots.idle
    (record { short = g.log.short; room_is = omega (arith, g.room) })

begin_fits : (H : History) (k : ℕ) → 0 < k → k < 17 → MayOpen H k → BeginFits H k
begin_fits H k from to may = record { by = session_of k from to; idle = may.closed }

pub begin_good : (s t : State) (k : ℕ) → 0 < k → k < 17 → Good s → opening_refusal (history_of s) k ≡ None → SameParts s t
    → history_of t ≡ history_of s ▷ entry_of k Begin → 16 ≤ room_of t → Good t
begin_good s t k from to g none same h room =
    let may = may_open (history_of s) k none in
    let idle : pending (history_of s) k ≡ [] = g.slots.idle k (or_parts _ _ may.closed).0 in
    good_with s t (history_of s ▷ entry_of k Begin) same h
    (quiet_over s.schema s.options (history_of s) (entry_of k Begin) s.rows s.locks s.horizon (over s g) (begin_fits (history_of s) k from to may) (begin_quiet (history_of s) k idle))
    (begin_idle (history_of s) k g.slots.idle)
    (early_ready (history_of s ▷ entry_of k Begin) (room_of t) (omega (arith, may.short)) room)

pub pin_good : (s t : State) (k : ℕ) → 0 < k → k < 17 → Good s → opening_refusal (history_of s) k ≡ None → SameParts s t
    → history_of t ≡ history_of s ▷ entry_of k Pin → 16 ≤ room_of t → Good t
pin_good s t k from to g none same h room =
    let may = may_open (history_of s) k none in
    good_with s t (history_of s ▷ entry_of k Pin) same h
    (quiet_over s.schema s.options (history_of s) (entry_of k Pin) s.rows s.locks s.horizon (over s g) (begin_fits (history_of s) k from to may) (pin_quiet (history_of s) k))
    (pin_idle (history_of s) k g.slots.idle)
    (early_ready (history_of s ▷ entry_of k Pin) (room_of t) (omega (arith, may.short)) room)

-- the ends

pub running_open : (H : History) (k : ℕ) → is_running H k ≡ true → is_open H k ≡ true
running_open H k running = or_left _ _ running

pub pinned_open : (H : History) (k : ℕ) → is_some (pin_of H k) ≡ true → is_open H k ≡ true
pinned_open H k pinned = or_right (is_running H k) _ pinned

pub room_to_end : (s : State) (k : ℕ) → 0 < k → k < 17 → Good s → is_open (history_of s) k ≡ true → 0 < room_of s
room_to_end s k from to g was = some_room (history_of s) k (room_of s) (session_of k from to) was (ready_of s g)

-- a running actor has no pin, so it has nothing open after its COMMIT or ROLLBACK
closed_by : (H : History) (k : ℕ) (o : Option ℕ) → o ≡ None → (false || is_some o) ≡ false
closed_by H k o e = ap is_some e

pub unpin_good : (s t : State) (k : ℕ) → 0 < k → k < 17 → Good s → is_some (pin_of (history_of s) k) ≡ true → SameParts s t
    → history_of t ≡ history_of s ▷ entry_of k Unpin → room_of s ≤ room_of t + 1 → Good t
unpin_good s t k from to g pinned same h room =
    good_with s t (history_of s ▷ entry_of k Unpin) same h
    (quiet_over s.schema s.options (history_of s) (entry_of k Unpin) s.rows s.locks s.horizon (over s g) pinned (unpin_quiet (history_of s) k))
    (unpin_idle (history_of s) k g.slots.idle)
    (end_ready (history_of s) k Unpin (room_of s) (room_of t) (session_of k from to) (pinned_open (history_of s) k pinned)
    (open_own (history_of s) k Unpin ∙ ap (λ b. b || false) (stopped (is_running (history_of s) k) refl))
    (ready_of s g) room)
  where
    a : AreSessions (history_of s)
    a = are_sessions s.schema s.options (history_of s) g.log.fits

    stopped : (b : Bool) → is_running (history_of s) k ≡ b → b ≡ false
    stopped true e = absurd (false≢true (sym (ap is_some (a.single k e)) ∙ pinned))
    stopped false e = refl

ends_good : (s t : State) (k : ℕ) (w : What) → 0 < k → k < 17 → Good s → is_running (history_of s) k ≡ true → Ends k w s t
    → is_open (history_of s ▷ entry_of k w) k ≡ false → Idle (history_of s ▷ entry_of k w)
    → Over s.schema s.options (history_of s ▷ entry_of k w) t.rows t.locks s.horizon → Good t
ends_good s t k w from to g running ends closed idle o =
    good_from t
    (over_at t.rows t.locks (sym ends.schema) (sym ends.options) (sym ends.history) (sym ends.horizon) o)
    (subst Idle (sym ends.history) idle)
    (subst (λ G. Ready G (room_of t)) (sym ends.history)
    (end_ready (history_of s) k w (room_of s) (room_of t) (session_of k from to) (running_open (history_of s) k running) closed (ready_of s g) ends.room))

no_pin : (s : State) (k : ℕ) → Good s → is_running (history_of s) k ≡ true → pin_of (history_of s) k ≡ None
no_pin s k g running = (are_sessions s.schema s.options (history_of s) g.log.fits).single k running

pub commit_good : (s t : State) (k : ℕ) → 0 < k → k < 17 → Good s → is_running (history_of s) k ≡ true → Commits k s t → Good t
commit_good s t k from to g running c =
    ends_good s t k Commit from to g running c.ends
    (open_own (history_of s) k Commit ∙ closed_by (history_of s) k (pin_of (history_of s) k) (no_pin s k g running))
    (commit_idle (history_of s) k (λ j other e. g.slots.idle j e))
    (commit_over s.schema s.options (history_of s) k s.rows t.rows s.locks t.locks s.horizon (over s g) (or_left _ _ running) c.chains c.ends.frees)

pub rollback_good : (s t : State) (k : ℕ) → 0 < k → k < 17 → Good s → is_running (history_of s) k ≡ true → RollsBack k s t → Good t
rollback_good s t k from to g running c =
    ends_good s t k Rollback from to g running c.ends
    (open_own (history_of s) k Rollback ∙ closed_by (history_of s) k (pin_of (history_of s) k) (no_pin s k g running))
    (rollback_idle (history_of s) k g.slots.idle)
    (rollback_over s.schema s.options (history_of s) k s.rows t.rows s.locks t.locks s.horizon (over s g) running c.chains c.ends.frees)

-- a good state's history is far from the end of its type
pub short_of : (s : State) → Good s → length (history_of s) < 2 ^ 63
short_of s g = omega (arith, g.log.short)

-- whichever way a call answers
pub either_way : {T E : Type 0} (r : Result T E) (P Q G : Type 0) → OnOk r P → OnErr r Q → (P → G) → (Q → G) → G
either_way (Ok x) P Q G a b f g = f a
either_way (Err e) P Q G a b f g = g b
