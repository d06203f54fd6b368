-- Histories of the built kinds alone have no segment, and a write moves nothing.
use Rattle.std.proofs.Common.{◌≡◌, ℕ, Bool, true, false, List, [], ◌∷◌, length, map, refl, ap, ◌∙◌}
use Rattle.std.specs.Prelude.{◌&&◌}
use Rattle.std.proofs.lemmas.Bool.{false≢true}
use Rattle.s2_model.specs.declared.entries.Change.{Change}
use Rattle.s2_model.specs.declared.entries.What.{What}
use Rattle.s2_model.specs.declared.entries.What.TheVariants.{Begin, Write, Commit, Rollback, Pin, Unpin}
use Rattle.s2_model.specs.Table.{Table}
use Rattle.s2_model.specs.History.{History, pending, state}
use Rattle.s2_model.specs.Placement.{Placement, Segment, placement, place_after}
use Rattle.s2_model.specs.Verdict.{moves, move_of, resting_places}
use Rattle.s2_legal.specs.Built.{is_built_what, are_built}

pub parts : (a b : Bool) → (a && b) ≡ true → (a ≡ true) × (b ≡ true)
parts true b e = (refl, e)
parts false b e = absurd (false≢true e)

seg_step : (w : What) (t : ℕ) (rows : Table) (cs : List Change) (P : Placement) → is_built_what w ≡ true → (place_after w t rows cs P).segments ≡ P.segments
seg_step Begin t rows cs P b = refl
seg_step (Write ds) t rows cs P b = refl
seg_step Commit t rows cs P b = refl
seg_step Rollback t rows cs P b = refl
seg_step Pin t rows cs P b = refl
seg_step Unpin t rows cs P b = refl
seg_step _ t rows cs P b = absurd (false≢true b)

no_segments : (H : History) → are_built H ≡ true → (placement H).segments ≡ []
no_segments [] b = refl
no_segments (e ∷ H) b =
    let both = parts (is_built_what e.what) (are_built H) b in
    seg_step e.what (length (e ∷ H)) (state H) (pending H e.actor) (placement H) both.0 ∙ no_segments H both.1

pub moves_none : (H : History) (rows : Table) → are_built H ≡ true → moves H rows ≡ []
moves_none H [] b = refl
moves_none H (p ∷ rows) b = ap (λ (s : List Segment). move_of (resting_places s (map (λ q. q.0) (p ∷ rows)))) (no_segments H b)
