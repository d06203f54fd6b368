-- What a world knows, against the history that it is kept for.
use Rattle.std.proofs.Common.{◌≡◌, ℕ, ◌<◌, Bool, true, false, cond, List, [], ◌∷◌, Option, Some, None, refl, sym, ap, ◌∙◌}
use Rattle.std.specs.Prelude.{◌&&◌, ◌==◌, not, nat_lt}
use Rattle.std.specs.List.{find, list_all}
use Rattle.std.proofs.lemmas.Bool.{ltb-true}
use Rattle.s2_model.specs.declared.entries.Change.{Change}
use Rattle.s2_model.specs.Table.{Table, apply, touches}
use Rattle.s2_model.specs.History.{History, pending, pin_of, view}
use Rattle.s2_model.specs.Held.{sessions, holds}
use Rattle.s2_model.specs.Verdict.{other_holder}
use Rattle.s2_legal.specs.World.{IsWorld, open_of, view_in, holder_in}
use Rattle.s2_legal.proofs.BuiltHistories.{parts, view_unpinned}

-- a search among numbers below 256
find_step : (b : Bool) (j : ℕ) (x y : Option ℕ) → x ≡ y → cond b (Some j) x ≡ cond b (Some j) y
find_step true j x y e = refl
find_step false j x y e = e

pub find_same : (p q : ℕ → Bool) (js : List ℕ) → list_all (λ j. nat_lt j 256) js ≡ true → ((j : ℕ) → j < 256 → p j ≡ q j) → find p js ≡ find q js
find_same p q [] all same = refl
find_same p q (j ∷ js) all same =
    let both = parts (nat_lt j 256) (list_all (λ i. nat_lt i 256) js) all in
    ap (λ b. cond b (Some j) (find p js)) (same j (ltb-true j 256 both.0))
    ∙ find_step (q j) j (find p js) (find q js) (find_same p q js both.1 same)

pub small_sessions : list_all (λ j. nat_lt j 256) sessions ≡ true
unfolding sessions
small_sessions = refl

-- who holds a row
pub holder_same : (rows : Table) (ws : List (List Change)) (last : ℕ) (H : History) (k n : ℕ) → IsWorld rows ws last H → other_holder H k n ≡ holder_in ws k n
holder_same rows ws last H k n world =
    find_same (λ j. not (j == k) && holds H j n) (λ j. not (j == k) && touches (open_of ws j) n) sessions small_sessions
    (λ j small. ap (λ (cs : List Change). not (j == k) && touches cs n) (sym (world.writes j small)))

-- what an actor without a pin sees
pub view_same : (rows : Table) (ws : List (List Change)) (last : ℕ) (H : History) (k : ℕ) → k < 256 → IsWorld rows ws last H → pin_of H k ≡ None → view H k ≡ view_in rows ws k
view_same rows ws last H k small world none =
    view_unpinned H k none ∙ ap (λ (t : Table). apply t (pending H k)) (sym world.content) ∙ ap (apply rows) (sym (world.writes k small))
