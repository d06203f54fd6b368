-- What the row store of a good state shows.
use Rattle.std.proofs.Common.{◌≡◌, ℕ, suc, ◌+◌, ◌≤◌, Bool, true, false, not, ◌&&◌, ◌||◌, cond, ◌==◌, nat_le, List, [], ◌∷◌, length, map, filter, Option, Some, None, is_some, refl, sym, ap, ap₂, subst, ◌∙◌, arith}
use Rattle.std.specs.Prelude.{sum_by, unwrap_or}
use Rattle.std.specs.List.{find}
use Rattle.std.specs.Option.{option_map}
use Rattle.std.proofs.lemmas.List.Sums.{sum_by-cons}
use Rattle.std.proofs.lemmas.Bool.{false≢true, eqb-true}
use Rattle.s2_model.specs.declared.entries.What.{What}
use Rattle.s2_model.specs.declared.entries.What.TheVariants.{Pin, Unpin}
use Rattle.s2_model.specs.Table.{Table, RowOf, row_at, IsTable}
use Rattle.s2_model.specs.History.{History, ◌▷◌, upto, state, pending, is_running, pin_of, pin_after, seen_at, view}
use Rattle.s2_model.specs.Placement.{Version, placement, is_visible, is_done}
use Rattle.s2_model.specs.Laws.{PlacedIsState, NumbersAreRight, PlacesAreRows, VersionIsRow, times_in_versions, times_in_segment}
use Rattle.s2_model.proofs.Lists.{bit, Each}
use Rattle.s2_model.proofs.Tables.{row_at-apply, rises-apply}
use Rattle.s2_model.proofs.Histories.{upto_whole}
use Rattle.s2_model.proofs.Facts.{places_are_rows, horizons_are_pinned, row_numbers_are_right}
use Rattle.s2_model.proofs.Whole.{histories_are_placed}
use Rattle.s2_rowstore.specs.declared.chain.Version.{Version as Stored}
use Rattle.s2_rowstore.specs.declared.chain.Slot.{Slot}
use Rattle.s2_rowstore.specs.Chains.{own, seen, row_at as version_at, is_visible as is_shown, is_done as is_over}
use Rattle.s2_rowstore.specs.Lines.{for_row}
use Rattle.s2_rowstore.specs.Store.{chain, slot}
use Rattle.s2_rowstore.specs.Visible.{are_rising, numbers}
use Rattle.s2_state.proofs.Tables.{is_that_table}
use Rattle.s2_state.specs.declared.states.State.{State}
use Rattle.s2_state.specs.States.{history_of}
use Rattle.s2_state.specs.Slots.{last_of}
use Rattle.s2_state.specs.Placed.{stored, chain_of}
use Rattle.s2_state.specs.Keys.{AreDistinct}
use Rattle.s2_state.specs.Good.{Good}
use Rattle.s2_state.specs.Laws.{read_at, ShowsRows, HasDistinctViews}
use Rattle.s2_state.proofs.SlotSteps.{change_or, row_after_last}
use Rattle.s2_state.proofs.Sessions.{AreSessions, are_sessions}

-- the version that is found at a timestamp

over_done : (r : ℕ) (o : Option ℕ) → is_over r o ≡ is_done r o
over_done r None = refl
over_done r (Some t) = refl

shown_visible : (r : ℕ) (v : Version) → is_shown r (stored v) ≡ is_visible r v
shown_visible r v = ap (λ b. nat_le v.begin r && not b) (over_done r v.stop)

-- what is found is the content's row; where nothing is found, nothing is placed
abbrev Tells : ℕ → ℕ → Option RowOf → List Version → Option Stored → Type 0
Tells r n row versions None = times_in_versions r n versions ≡ 0
Tells r n row versions (Some v) = row ≡ Some v.row

found : (H : History) (r n : ℕ) → r ≤ length H → (versions : List Version) → Each (VersionIsRow H) versions
    → Tells r n (row_at (state (upto r H)) n) versions (find (is_shown r) (chain_of n versions))
found H r n le [] each = refl
found H r n le (v ∷ versions) each = go (v.id == n) refl (found H r n le versions each.1)
  where
    row : Option RowOf
    row = row_at (state (upto r H)) n

    later : List Stored
    later = chain_of n versions

    more : (b : Bool) → (v.id == n && is_visible r v) ≡ b → b ≡ false → (o : Option Stored) → Tells r n row versions o → Tells r n row (v ∷ versions) o
    more b p q None t = sum_by-cons (λ w. bit (w.id == n && is_visible r w)) v versions ∙ ap₂ (λ c m. bit c + m) (p ∙ q) t
    more b p q (Some w) t = t

    seen : v.id ≡ n → (c : Bool) → is_visible r v ≡ c → (v.id == n) ≡ true → Tells r n row versions (find (is_shown r) later)
        → Tells r n row (v ∷ versions) (cond c (Some (stored v)) (find (is_shown r) later))
    seen same true p e t = ap (row_at (state (upto r H))) (sym same) ∙ each.0 r le p
    seen same false p e t = more _ refl (ap₂ (λ x y. x && y) e p) (find (is_shown r) later) t

    go : (b : Bool) → (v.id == n) ≡ b → Tells r n row versions (find (is_shown r) later)
        → Tells r n row (v ∷ versions) (find (is_shown r) (map stored (cond b (v ∷ filter (λ w. w.id == n) versions) (filter (λ w. w.id == n) versions))))
    go true e t =
        subst (λ c. Tells r n row (v ∷ versions) (cond c (Some (stored v)) (find (is_shown r) later))) (sym (shown_visible r v))
        (seen (eqb-true v.id n e) (is_visible r v) refl e t)
    go false e t = more _ refl (ap (λ x. x && is_visible r v) e) (find (is_shown r) later) t

none_there : (o : Option RowOf) → ◌≡◌ {A = ℕ} 0 (cond (is_some o) 1 0) → o ≡ None
none_there None e = refl
none_there (Some x) e = absurd (omega arith)

pub placed_row : (s : State) → Good s → (r n : ℕ) → s.horizon ≤ r → r ≤ length (history_of s)
    → version_at r (chain s.rows n) ≡ row_at (state (upto r (history_of s))) n
placed_row s g r n from to =
    ap (version_at r) (g.placement.chains n)
    ∙ go (find (is_shown r) (chain_of n (placement (history_of s)).versions)) (found (history_of s) r n to (placement (history_of s)).versions p.versions)
  where
    p : PlacesAreRows (history_of s)
    p = places_are_rows s.schema s.options (history_of s) g.log.fits

    times : times_in_versions r n (placement (history_of s)).versions ≡ cond (is_some (row_at (state (upto r (history_of s))) n)) 1 0
    times =
        omega (
          arith,
          p.times r n (omega (arith, g.placement.horizon_is)) to,
          ap (sum_by (times_in_segment r n)) g.placement.bare,
        )

    go : (o : Option Stored) → Tells r n (row_at (state (upto r (history_of s))) n) (placement (history_of s)).versions o
        → option_map (λ v. v.row) o ≡ row_at (state (upto r (history_of s))) n
    go None t = sym (none_there _ (sym t ∙ times))
    go (Some v) t = sym t

-- what an actor sees

seen_is : (k r : ℕ) (versions : List Stored) (o : Option Slot) → seen k r (versions, o) ≡ change_or (own k o) (version_at r versions)
seen_is k r versions None = refl
seen_is k r versions (Some s) = go (s.holder == k) refl
  where
    go : (b : Bool) → (s.holder == k) ≡ b → seen k r (versions, Some s) ≡ change_or (own k (Some s)) (version_at r versions)
    go true e = rw e refl
    go false e = rw e refl

pub pin_by : (H : History) (k t : ℕ) → pin_of H k ≡ Some t → t ≤ length H
pin_by [] k t e = absurd (cc)
pin_by (H ▷ e) k t p = go (k == e.actor) e.what p (λ q. pin_by H k t q)
  where
    after : (w : What) → pin_after w (suc (length H)) (pin_of H k) ≡ Some t → (pin_of H k ≡ Some t → t ≤ length H) → t ≤ suc (length H)
    after Pin p old = let same : suc (length H) ≡ t = cc in omega arith
    after Unpin p old = absurd (cc)
    after _ p old = omega (arith, old p)

    go : (b : Bool) (w : What) → cond b (pin_after w (suc (length H)) (pin_of H k)) (pin_of H k) ≡ Some t → (pin_of H k ≡ Some t → t ≤ length H) → t ≤ suc (length H)
    go true w p old = after w p old
    go false w p old = omega (arith, old p)

shown : (s : State) → Good s → (k n : ℕ) (o : Option ℕ) → pin_of (history_of s) k ≡ o
    → seen k (unwrap_or o (length (history_of s))) (chain s.rows n, slot s.rows n) ≡ row_at (seen_at o (history_of s) k) n
shown s g k n None none =
    seen_is k (length (history_of s)) (chain s.rows n) (slot s.rows n)
    ∙ ap₂ change_or (g.slots.slots k n)
    (placed_row s g (length (history_of s)) n (omega (arith, g.placement.horizon_is, (horizons_are_pinned s.schema s.options (history_of s) g.log.fits).by)) (omega arith)
    ∙ ap (λ H. row_at (state H) n) (upto_whole (history_of s)))
    ∙ sym (row_after_last (row_at (state (history_of s)) n) (pending (history_of s) k) n)
    ∙ sym (row_at-apply (state (history_of s)) (pending (history_of s) k) n)
shown s g k n (Some t) pin =
    seen_is k t (chain s.rows n) (slot s.rows n)
    ∙ ap (λ o. change_or o (version_at t (chain s.rows n))) (g.slots.slots k n ∙ ap (λ cs. last_of cs n) (g.slots.idle k (stopped (is_running (history_of s) k) refl)))
    ∙ placed_row s g t n (omega (arith, g.placement.horizon_is, (horizons_are_pinned s.schema s.options (history_of s) g.log.fits).pins k t (a.sessions k (open_by (is_running (history_of s) k))) pin)) (pin_by (history_of s) k t pin)
  where
    a : AreSessions (history_of s)
    a = are_sessions s.schema s.options (history_of s) g.log.fits

    stopped : (b : Bool) → is_running (history_of s) k ≡ b → b ≡ false
    stopped true e = absurd (false≢true (ap is_some (sym (a.single k e) ∙ pin)))
    stopped false e = refl

    open_by : (b : Bool) → (b || is_some (pin_of (history_of s) k)) ≡ true
    open_by true = refl
    open_by false = ap is_some pin

pub shows_rows : (s : State) → Good s → ShowsRows s
shows_rows s g = record { placed = placed_row s g; views = λ k n. shown s g k n (pin_of (history_of s) k) refl }

pub distinct_views : (s : State) → Good s → HasDistinctViews s
distinct_views s g i key at k = go (pin_of (history_of s) k)
  where
    go : (o : Option ℕ) → AreDistinct key (seen_at o (history_of s) k)
    go None = (g.keys.kept i key at).views k
    go (Some t) = g.keys.past i key at t

-- a view is a table
pub view_rises : (s : State) → Good s → (k : ℕ) → IsTable (view (history_of s) k)
view_rises s g k = go (pin_of (history_of s) k)
  where
    p : PlacedIsState (history_of s)
    p = (histories_are_placed s.schema s.options (history_of s) g.log.fits).placed

    q : NumbersAreRight (history_of s)
    q = row_numbers_are_right s.schema s.options (history_of s) g.log.fits

    go : (o : Option ℕ) → IsTable (seen_at o (history_of s) k)
    go None =
        rises-apply (state (history_of s)) (pending (history_of s) k) (λ n t. q.held_from k n t)
        (subst (λ H. IsTable (state H)) (upto_whole (history_of s)) (p.once (length (history_of s))))
    go (Some t) = p.once t

-- the rows that the store shows to an actor are its view
pub shown_view : (s : State) → Good s → (k r : ℕ) (rows : Table) → r ≡ read_at (history_of s) k
    → ((n : ℕ) → for_row rows n ≡ seen k r (chain s.rows n, slot s.rows n)) → are_rising (numbers rows) ≡ true → rows ≡ view (history_of s) k
shown_view s g k r rows time same rising =
    is_that_table rows (view (history_of s) k) rising (view_rises s g k)
    (λ n. same n ∙ ap (λ t. seen k t (chain s.rows n, slot s.rows n)) time ∙ (shows_rows s g).views k n)
