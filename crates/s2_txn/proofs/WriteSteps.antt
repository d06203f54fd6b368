-- A good state stays good with a write, in a transaction or outside one, where a COMMIT follows it.
use Rattle.std.proofs.Common.{◌≡◌, ℕ, ◌+◌, ◌≤◌, true, false, ◌||◌, ◌&&◌, ◌==◌, List, [], length, refl, sym, ap, subst, arith}
use Rattle.std.proofs.lemmas.Bool.{and_from, eq-eqb, or_right}
use Rattle.s2_model.specs.declared.entries.Change.{Change}
use Rattle.s2_model.specs.declared.entries.What.TheVariants.{Write, Commit}
use Rattle.s2_model.specs.History.{History, ◌▷◌, is_running, pending}
use Rattle.s2_model.specs.Verdict.{last_length}
use Rattle.s2_model.specs.Fits.{WriteFits, Fits}
use Rattle.s2_model.proofs.Kept.{entry_of}
use Rattle.s2_state.specs.declared.states.State.{State}
use Rattle.s2_state.specs.States.{history_of, room_of}
use Rattle.s2_state.specs.Takes.{AreFreeKeys}
use Rattle.s2_state.specs.Good.{Good}
use Rattle.s2_state.proofs.Over.{Over, over, Idle, good_from, over_at, commit_over}
use Rattle.s2_state.proofs.Ready.{commit_idle, early_ready, write_idle, write_others}
use Rattle.s2_state.proofs.Writes.{write_over}
use Rattle.s2_txn.specs.Entries.{Commits, Writes}

written_over : (s u : State) (k : ℕ) (cs : List Change) → Good s → WriteFits s.schema (history_of s) k cs → AreFreeKeys s.schema (history_of s) k cs → Writes k cs s u
    → Over u.schema u.options (history_of u) u.rows u.locks u.horizon
written_over s u k cs g fit free w =
    over_at u.rows u.locks (sym w.schema) (sym w.options) (sym w.history) (sym w.horizon)
    (write_over s.schema s.options (history_of s) k cs s.rows u.rows s.locks u.locks s.horizon (over s g) fit free w.chains w.takes)

pub write_good : (s u : State) (k : ℕ) (cs : List Change) → Good s → is_running (history_of s) k ≡ true → length (history_of s) ≤ last_length + 1
    → WriteFits s.schema (history_of s) k cs → AreFreeKeys s.schema (history_of s) k cs → Writes k cs s u → 16 ≤ room_of u → Good u
write_good s u k cs g running short fit free w room =
    good_from u (written_over s u k cs g fit free w)
    (subst Idle (sym w.history) (write_idle (history_of s) k cs g.slots.idle running))
    (early_ready (history_of u) (room_of u) (omega (arith, ap length w.history)) room)

commit_fits : (H : History) (k : ℕ) (cs : List Change) → (is_running (H ▷ entry_of k (Write cs)) k || (k == k && true)) ≡ true
commit_fits H k cs = or_right (is_running (H ▷ entry_of k (Write cs)) k) _ (and_from _ _ (eq-eqb k k refl) refl)

-- outside a transaction
pub autocommit_good : (s u t : State) (k : ℕ) (cs : List Change) → Good s → length (history_of s) ≤ last_length + 1
    → WriteFits s.schema (history_of s) k cs → AreFreeKeys s.schema (history_of s) k cs → Writes k cs s u → Commits k u t → 17 ≤ room_of u → Good t
autocommit_good s u t k cs g short fit free w c room =
    good_from t
    (over_at t.rows t.locks (sym c.ends.schema) (sym c.ends.options) (sym c.ends.history) (sym c.ends.horizon)
    (commit_over u.schema u.options (history_of u) k u.rows t.rows u.locks t.locks u.horizon (written_over s u k cs g fit free w)
    (subst (λ H. Fits u.schema u.options H (entry_of k Commit)) (sym w.history) (commit_fits (history_of s) k cs)) c.chains c.ends.frees))
    (subst Idle (sym c.ends.history) (commit_idle (history_of u) k others))
    (early_ready (history_of t) (room_of t) (omega (arith, ap length c.ends.history, ap length w.history)) (omega (arith, c.ends.room)))
  where
    others : (j : ℕ) → (j == k) ≡ false → is_running (history_of u) j ≡ false → pending (history_of u) j ≡ []
    others j other =
        subst (λ H. is_running H j ≡ false → pending H j ≡ []) (sym w.history) (λ e. write_others (history_of s) k cs g.slots.idle j other e)
