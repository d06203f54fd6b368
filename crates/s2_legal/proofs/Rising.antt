-- The rows that an actor sees rise by number.
use Rattle.std.proofs.Common.{◌≡◌, ◌<◌, ◌≤◌, ◌+◌, ◌==◌, ℕ, suc, Bool, true, false, List, [], ◌∷◌, refl, sym, ap, ◌∙◌, subst, arith}
use Rattle.std.proofs.lemmas.Bool.{ne_eqb, cond-false}
use Rattle.s2_value.specs.declared.schemas.Schema.{Schema}
use Rattle.s2_model.specs.declared.entries.Change.{Change}
use Rattle.s2_model.specs.declared.scripts.Options.{Options}
use Rattle.s2_model.specs.Predicates.{Predicate}
use Rattle.s2_model.specs.Rows.{matches}
use Rattle.s2_model.specs.Table.{Table, apply, rises_above, IsTable}
use Rattle.s2_model.specs.History.{History, upto, state, pending, pending_after}
use Rattle.s2_model.specs.Answer.{kept}
use Rattle.s2_model.specs.Fits.{AllFit}
use Rattle.s2_model.proofs.Tables.{rises-apply}
use Rattle.s2_model.proofs.Whole.{sound_at}
use Rattle.s2_answer.proofs.FoundLemmas.{rises-filter}
use Rattle.s2_legal.specs.declared.world.World.{World}
use Rattle.s2_legal.specs.Knows.{Knows}
use Rattle.s2_legal.specs.World.{AreTables, flag_of, open_of, seen_in, view_in}

-- where the entries fit, at each time and for each actor
pub are_tables : (schema : Schema) (options : Options) (H : History) → AllFit schema options H → AreTables H
are_tables schema options H fit r k =
    let held = (sound_at schema options H fit r).held in
    rises-apply (state (upto r H)) (pending (upto r H) k) (held.above k) held.rising

-- an actor with no entry has no open writes
abbrev above_actors : History → ℕ
above_actors [] = 0
above_actors (e ∷ H) = suc (e.actor + above_actors H)

none_open : (H : History) (k : ℕ) → above_actors H ≤ k → pending H k ≡ []
none_open [] k le = refl
none_open (e ∷ H) k le =
    let above : suc (e.actor + above_actors H) ≤ k = le in
    cond-false (k == e.actor) (pending_after e.what (pending H k)) (pending H k) (ne_eqb k e.actor (λ same. absurd (omega (arith, above, same))))
    ∙ none_open H k (omega (arith, above))

-- the content's rows rise
rising_content : (H : History) → ((k : ℕ) → IsTable (apply (state H) (pending H k))) → IsTable (state H)
rising_content H tables = subst (λ (cs : List Change). IsTable (apply (state H) cs)) (none_open H (above_actors H) (omega arith)) (tables (above_actors H))

-- and in a world those that an actor sees do, at a pin too
seen_step : (pinned : Bool) (rows : Table) (ws : List (List Change)) (k : ℕ) → IsTable rows → IsTable (view_in rows ws k) → rises_above 0 (seen_in pinned rows ws k) ≡ true
seen_step true rows ws k content own = content
seen_step false rows ws k content own = own

pub rising_view : (schema : Schema) (w : World) (H : History) (k : ℕ) → k < 256 → Knows schema w H
    → ((j : ℕ) → IsTable (apply (state H) (pending H j))) → rises_above 0 (seen_in (flag_of w.pinned.items k) w.rows.entries w.writes.items k) ≡ true
rising_view schema w H k small knows tables =
    let world = knows.world in
    let rows = w.rows.entries in
    let ws = w.writes.items in
    seen_step (flag_of w.pinned.items k) rows ws k
    (subst IsTable (sym world.content) (rising_content H tables))
    (ap (rises_above 0) (ap (λ (t : Table). apply t (open_of ws k)) world.content ∙ ap (apply (state H)) (world.writes k small)) ∙ tables k)

-- those that match rise too
pub rising_kept : (pred : Predicate) (rows : Table) → rises_above 0 rows ≡ true → rises_above 0 (kept pred rows) ≡ true
rising_kept pred rows up = rises-filter (λ p. matches pred p.1) 0 rows up
