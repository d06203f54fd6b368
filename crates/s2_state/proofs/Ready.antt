-- Idle actors, and room for the ends to come, after each kind of entry.
use Rattle.std.proofs.Common.{◌≡◌, ℕ, ◌+◌, ◌<◌, ◌≤◌, Bool, true, false, cond, ◌==◌, List, [], ◌++◌, length, refl, sym, ap, ◌∙◌, arith}
use Rattle.std.proofs.lemmas.Bool.{le-leb, and_from, false≢true, eqb-true}
use Rattle.s2_model.specs.declared.entries.Change.{Change}
use Rattle.s2_model.specs.declared.entries.What.{What}
use Rattle.s2_model.specs.declared.entries.What.TheVariants.{Begin, Write, Commit, Rollback, Pin, Unpin}
use Rattle.s2_model.specs.History.{History, ◌▷◌, is_session, is_running, is_open, pending}
use Rattle.s2_model.specs.Verdict.{last_length}
use Rattle.s2_model.proofs.Kept.{entry_of}
use Rattle.s2_state.proofs.Counting.{closes, open_at_most, some_open}
use Rattle.s2_state.proofs.Over.{Idle, Ready}

pub session_of : (k : ℕ) → 0 < k → k < 17 → is_session k ≡ true
session_of k from to = and_from _ _ (le-leb 1 k (omega arith)) (le-leb k 16 (omega arith))

-- an actor whose own entry drops its open writes is idle, and the others are as they were
pub idle_dropped : (H : History) (k : ℕ) (now : Bool) → ((j : ℕ) → (j == k) ≡ false → is_running H j ≡ false → pending H j ≡ [])
    → (j : ℕ) → cond (j == k) now (is_running H j) ≡ false → cond (j == k) [] (pending H j) ≡ []
idle_dropped H k now others j e = go (j == k) refl e
  where
    go : (b : Bool) → (j == k) ≡ b → cond b now (is_running H j) ≡ false → cond b [] (pending H j) ≡ []
    go true p e = refl
    go false p e = others j p e

pub begin_idle : (H : History) (k : ℕ) → Idle H → Idle (H ▷ entry_of k Begin)
begin_idle H k idle = idle_dropped H k true (λ j p e. idle j e)

pub rollback_idle : (H : History) (k : ℕ) → Idle H → Idle (H ▷ entry_of k Rollback)
rollback_idle H k idle = idle_dropped H k false (λ j p e. idle j e)

-- a COMMIT makes its actor idle, in a transaction or after a write outside one
pub commit_idle : (H : History) (k : ℕ) → ((j : ℕ) → (j == k) ≡ false → is_running H j ≡ false → pending H j ≡ []) → Idle (H ▷ entry_of k Commit)
commit_idle H k others = idle_dropped H k false others

idle_kept : (H : History) (k : ℕ) → Idle H → (j : ℕ) → cond (j == k) (is_running H j) (is_running H j) ≡ false → cond (j == k) (pending H j) (pending H j) ≡ []
idle_kept H k idle j e = go (j == k) e
  where
    go : (b : Bool) → cond b (is_running H j) (is_running H j) ≡ false → cond b (pending H j) (pending H j) ≡ []
    go true e = idle j e
    go false e = idle j e

pub pin_idle : (H : History) (k : ℕ) → Idle H → Idle (H ▷ entry_of k Pin)
pin_idle H k idle = idle_kept H k idle

pub unpin_idle : (H : History) (k : ℕ) → Idle H → Idle (H ▷ entry_of k Unpin)
unpin_idle H k idle = idle_kept H k idle

-- a history that isn't at its limit has place for all ends, with room for sixteen entries
pub early_ready : (H : History) (room : ℕ) → length H ≤ last_length + 3 → 16 ≤ room → Ready H room
early_ready H room short enough = record {
  short = omega (arith, open_at_most H);
  room_is = omega (arith, open_at_most H);
}

-- the end of an open transaction takes the room that was kept for it
pub end_ready : (H : History) (k : ℕ) (w : What) (room left : ℕ) → is_session k ≡ true → is_open H k ≡ true → is_open (H ▷ entry_of k w) k ≡ false
    → Ready H room → room ≤ left + 1 → Ready (H ▷ entry_of k w) left
end_ready H k w room left session was now ready le = record {
  short = omega (arith, closes H k w session was now, ready.short);
  room_is = omega (arith, closes H k w session was now, ready.room_is);
}

pub some_room : (H : History) (k room : ℕ) → is_session k ≡ true → is_open H k ≡ true → Ready H room → 0 < room
some_room H k room session was ready = omega (arith, some_open H k session was, ready.room_is)

-- a write of a running actor leaves the others idle
pub write_idle : (H : History) (k : ℕ) (cs : List Change) → Idle H → is_running H k ≡ true → Idle (H ▷ entry_of k (Write cs))
write_idle H k cs idle running j e = go (j == k) refl e
  where
    go : (b : Bool) → (j == k) ≡ b → cond b (is_running H j) (is_running H j) ≡ false → cond b (pending H j ++ cs) (pending H j) ≡ []
    go true p e = absurd (false≢true (sym e ∙ ap (is_running H) (eqb-true j k p) ∙ running))
    go false p e = idle j e

-- after a write outside a transaction its actor alone is not idle
pub write_others : (H : History) (k : ℕ) (cs : List Change) → Idle H → (j : ℕ) → (j == k) ≡ false → is_running (H ▷ entry_of k (Write cs)) j ≡ false → pending (H ▷ entry_of k (Write cs)) j ≡ []
write_others H k cs idle j other e = go (j == k) other e
  where
    go : (b : Bool) → b ≡ false → cond b (is_running H j) (is_running H j) ≡ false → cond b (pending H j ++ cs) (pending H j) ≡ []
    go true p e = absurd (false≢true (sym p))
    go false p e = idle j e
