-- Who has a transaction open where each entry fits.
use Rattle.std.proofs.Common.{◌≡◌, ℕ, suc, Bool, true, false, ◌||◌, cond, ◌==◌, [], length, Option, Some, None, is_some, refl, sym, ap, ◌∙◌}
use Rattle.std.proofs.lemmas.Bool.{false≢true, true≢false, both_ways, eqb-true, or_parts, or_left, or_right}
use Rattle.s2_value.specs.declared.schemas.Schema.{Schema}
use Rattle.s2_model.specs.declared.entries.What.{What}
use Rattle.s2_model.specs.declared.entries.What.TheVariants.{Begin, Commit, Rollback, Pin, Unpin}
use Rattle.s2_model.specs.declared.scripts.Options.{Options}
use Rattle.s2_model.specs.History.{History, ◌▷◌, is_session, is_running, running_after, pin_of, pin_after, is_open}
use Rattle.s2_model.specs.Fits.{FitsAs, AllFit}
use Rattle.s2_model.proofs.Kept.{entry_of}

-- only sessions have transactions open, and none has two
pub record AreSessions (H : History) : Type 0 where
  pub sessions : (k : ℕ) → is_open H k ≡ true → is_session k ≡ true
  pub single : (k : ℕ) → is_running H k ≡ true → pin_of H k ≡ None

-- the same of the actor of an entry alone
record IsSession (H : History) (k : ℕ) (w : What) : Type 0 where
  session : (running_after w (is_running H k) || is_some (pin_after w (suc (length H)) (pin_of H k))) ≡ true → is_session k ≡ true
  alone : running_after w (is_running H k) ≡ true → pin_after w (suc (length H)) (pin_of H k) ≡ None

none_of : (o : Option ℕ) → is_some o ≡ false → o ≡ None
none_of None e = refl
none_of (Some t) e = absurd (true≢false e)

or_false : (b : Bool) → (b || false) ≡ true → b ≡ true
or_false true e = refl
or_false false e = e

own_session : (schema : Schema) (options : Options) (H : History) (k : ℕ) (w : What) → AreSessions H → FitsAs schema options H k w → IsSession H k w
own_session schema options H k Begin s f = record {
  session = λ e. f.by;
  alone = λ e. none_of (pin_of H k) (or_parts _ _ f.idle).1;
}
own_session schema options H k Pin s f = record {
  session = λ e. f.by;
  alone = λ e. absurd (both_ways _ (or_parts _ _ f.idle).0 e);
}
own_session schema options H k Commit s f = record {
  session = λ e. s.sessions k (or_right (is_running H k) _ e);
  alone = λ e. absurd (false≢true e);
}
own_session schema options H k Rollback s f = record {
  session = λ e. s.sessions k (or_right (is_running H k) _ e);
  alone = λ e. absurd (false≢true e);
}
own_session schema options H k Unpin s f = record {
  session = λ e. s.sessions k (or_left _ _ (or_false (is_running H k) e));
  alone = λ e. refl;
}
own_session schema options H k _ s f = record { session = s.sessions k; alone = s.single k }

sessions_step : (H : History) (k : ℕ) (w : What) → AreSessions H → IsSession H k w → AreSessions (H ▷ entry_of k w)
sessions_step H k w s own = record {
  sessions = λ j e. open_by j (j == k) refl e;
  single = λ j e. alone j (j == k) refl e;
}
  where
    open_by : (j : ℕ) (b : Bool) → (j == k) ≡ b
        → (cond b (running_after w (is_running H j)) (is_running H j) || is_some (cond b (pin_after w (suc (length H)) (pin_of H j)) (pin_of H j))) ≡ true
        → is_session j ≡ true
    open_by j true p e =
        let same : j ≡ k = eqb-true j k p in
        ap is_session same ∙ own.session (ap (λ i. running_after w (is_running H i) || is_some (pin_after w (suc (length H)) (pin_of H i))) (sym same) ∙ e)
    open_by j false p e = s.sessions j e

    alone : (j : ℕ) (b : Bool) → (j == k) ≡ b → cond b (running_after w (is_running H j)) (is_running H j) ≡ true
        → cond b (pin_after w (suc (length H)) (pin_of H j)) (pin_of H j) ≡ None
    alone j true p e =
        let same : j ≡ k = eqb-true j k p in
        ap (λ i. pin_after w (suc (length H)) (pin_of H i)) same ∙ own.alone (ap (λ i. running_after w (is_running H i)) (sym same) ∙ e)
    alone j false p e = s.single j e

pub are_sessions : (schema : Schema) (options : Options) (H : History) → AllFit schema options H → AreSessions H
are_sessions schema options [] fit = record { sessions = λ k e. absurd (false≢true e); single = λ k e. refl }
are_sessions schema options (H ▷ e) fit =
    sessions_step H e.actor e.what (are_sessions schema options H fit.0)
    (own_session schema options H e.actor e.what (are_sessions schema options H fit.0) fit.1)
