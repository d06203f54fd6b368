-- The entries that a write makes.
use Rattle.std.proofs.Common.{◌≡◌, ℕ, ◌<◌, List, [], ◌∷◌, ◌++◌, length, map, refl, ap, arith}
use Rattle.s2_model.specs.declared.entries.What.{What}
use Rattle.s2_model.specs.declared.entries.What.TheVariants.{Move}
use Rattle.s2_model.specs.Table.{Table}
use Rattle.s2_model.specs.History.{History}
use Rattle.s2_model.specs.Placement.{placement}
use Rattle.s2_model.specs.Verdict.{resting_places, move_of, moves}
use Rattle.s2_verdict.specs.Rulings.{made_by}

pub moves_of_some : (H : History) (rows : Table) → 0 < length rows → moves H rows ≡ move_of (resting_places (placement H).segments (map (λ q. q.0) rows))
moves_of_some H [] lt = absurd (omega arith)
moves_of_some H (p ∷ rows) lt = refl

pub move_of_some : (places : List (ℕ × ℕ)) → 0 < length places → move_of places ≡ Move places ∷ []
move_of_some [] lt = absurd (omega arith)
move_of_some (p ∷ places) lt = refl

-- the entries of two lists, one after the other
pub made_by_both : (k : ℕ) (xs ys : List What) → made_by k (xs ++ ys) ≡ made_by k xs ++ made_by k ys
made_by_both k [] ys = refl
made_by_both k (x ∷ xs) ys = ap (λ es. record { actor = k; what = x } ∷ es) (made_by_both k xs ys)
