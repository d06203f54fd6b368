-- A good state is sound.
use Rattle.std.proofs.Common.{◌≡◌, true, ◌==◌, sym, subst, ◌∙◌, arith}
use Rattle.std.specs.List.{AllByRecursion}
use Rattle.s2_value.specs.Schemas.{fits}
use Rattle.s2_model.specs.History.{pending}
use Rattle.s2_model.specs.Placement.{placement}
use Rattle.s2_model.specs.Laws.{IsPinned, NumbersAreRight}
use Rattle.s2_model.proofs.Lists.{each-map, each-filter}
use Rattle.s2_model.proofs.Facts.{row_numbers_are_right, horizons_are_pinned}
use Rattle.s2_state.specs.declared.states.State.{State}
use Rattle.s2_state.specs.States.{history_of}
use Rattle.s2_state.specs.Placed.{stored}
use Rattle.s2_state.specs.Good.{Good}
use Rattle.s2_state.specs.Sound.{Sound}
use Rattle.s2_state.proofs.Sessions.{AreSessions, are_sessions}
use Rattle.s2_state.proofs.Fitting.{VersionFits, RowsDoFit, rows_do_fit, last_fits}

pub sound : (s : State) → Good s → Sound s
sound s g = record {
  log = record { short = g.log.short; numbers = g.log.numbers; sessions = a.sessions; single = a.single };
  placement = g.placement;
  fit = record {
    versions = λ n. subst (AllByRecursion (λ v. fits s.schema v.row ≡ true)) (sym (g.placement.chains n))
        (each-map (VersionFits s.schema) (λ v. fits s.schema v.row ≡ true) stored (λ v f. f) _ (each-filter (VersionFits s.schema) (λ v. v.id == n) (placement (history_of s)).versions d.versions));
    slots = λ k n x e. last_fits s.schema (pending (history_of s) k) n x (d.writes k) (sym (g.slots.slots k n) ∙ e);
  };
  slots = g.slots;
  locks = g.locks.rows;
  horizon = record {
    by = omega (arith, g.placement.horizon_is, p.by);
    pins = λ k t session pin. omega (arith, g.placement.horizon_is, p.pins k t session pin);
  };
  room = g.room;
  numbers = record {
    once = q.once;
    placed_from = q.placed_from;
    placed_below = q.placed_below;
    held_from = q.held_from;
    held_below = q.held_below;
    held_lies = q.held_lies;
  };
}
  where
    a : AreSessions (history_of s)
    a = are_sessions s.schema s.options (history_of s) g.log.fits

    d : RowsDoFit s.schema (history_of s)
    d = rows_do_fit s.schema s.options (history_of s) g.log.fits

    p : IsPinned (history_of s)
    p = horizons_are_pinned s.schema s.options (history_of s) g.log.fits

    q : NumbersAreRight (history_of s)
    q = row_numbers_are_right s.schema s.options (history_of s) g.log.fits
