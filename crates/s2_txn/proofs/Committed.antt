-- The rows of the table in the row store, and that they fit it.
use Rattle.std.proofs.Common.{◌≡◌, ℕ, ◌≤◌, Bool, true, false, cond, ◌==◌, List, [], length, Option, Some, None, refl, sym, ap, ap₂, ◌∙◌, arith}
use Rattle.std.proofs.lemmas.Bool.{false≢true, false_from_ne_true, or_left}
use Rattle.s2_value.specs.declared.schemas.Schema.{Schema}
use Rattle.s2_value.specs.Schemas.{fits}
use Rattle.s2_model.specs.Table.{RowOf, row_at}
use Rattle.s2_model.specs.History.{History, upto, state, is_running, pending}
use Rattle.s2_model.proofs.Histories.{upto_whole}
use Rattle.s2_rowstore.specs.declared.chain.Slot.{Slot}
use Rattle.s2_rowstore.specs.declared.chain.Version.{Version as Stored}
use Rattle.s2_rowstore.specs.Chains.{own, seen, row_at as version_at}
use Rattle.s2_rowstore.specs.Store.{chain, slot}
use Rattle.s2_state.specs.declared.states.State.{State}
use Rattle.s2_state.specs.States.{history_of}
use Rattle.s2_state.specs.Slots.{last_of}
use Rattle.s2_state.specs.Good.{Good}
use Rattle.s2_state.proofs.Sessions.{are_sessions}
use Rattle.s2_state.proofs.Soundness.{sound}
use Rattle.s2_state.proofs.Fitting.{RowsDoFit, rows_do_fit}
use Rattle.s2_state.proofs.Shown.{placed_row}
use Rattle.s2_txn.specs.Items.{option_fits}

-- without an open write of one's own one sees the version
seen_stored : (k r : ℕ) (versions : List Stored) (o : Option Slot) → own k o ≡ None → seen k r (versions, o) ≡ version_at r versions
seen_stored k r versions None e = refl
seen_stored k r versions (Some s) e = go (s.holder == k) refl e
  where
    go : (b : Bool) → (s.holder == k) ≡ b → cond b (Some s.change) None ≡ None → seen k r (versions, Some s) ≡ version_at r versions
    go true p f = absurd (cc)
    go false p f = rw p refl

-- nobody has number 0
pub none_of_nobody : (s : State) → Good s → (n : ℕ) → own 0 (slot s.rows n) ≡ None
none_of_nobody s g n = g.slots.slots 0 n ∙ ap (λ cs. last_of cs n) idle
  where
    idle : pending (history_of s) 0 ≡ []
    idle = g.slots.idle 0 (false_from_ne_true _ (λ run. false≢true ((are_sessions s.schema s.options (history_of s) g.log.fits).sessions 0 (or_left _ _ run))))

pub committed_row : (s : State) → Good s → (n : ℕ) → seen 0 (length (history_of s)) (chain s.rows n, slot s.rows n) ≡ row_at (state (history_of s)) n
committed_row s g n =
    seen_stored 0 (length (history_of s)) (chain s.rows n) (slot s.rows n) (none_of_nobody s g n)
    ∙ placed_row s g (length (history_of s)) n (sound s g).horizon.by (omega arith)
    ∙ ap (λ H. row_at (state H) n) (upto_whole (history_of s))

pub committed_fits : (s : State) → Good s → (n : ℕ) → option_fits s.schema (row_at (state (history_of s)) n) ≡ true
committed_fits s g n = go (row_at (state (history_of s)) n) refl
  where
    d : RowsDoFit s.schema (history_of s)
    d = rows_do_fit s.schema s.options (history_of s) g.log.fits

    go : (o : Option RowOf) → row_at (state (history_of s)) n ≡ o → option_fits s.schema o ≡ true
    go None e = refl
    go (Some x) e = d.rows n x e
