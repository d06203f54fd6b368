-- Places in living segments, one segment after the other.
use Rattle.std.proofs.Common.{◌≡◌, ℕ, ◌<◌, true, List, [], ◌∷◌, ◌++◌, length, drop, get_or, sym, ap, ◌∙◌, arith, append_assoc}
use Rattle.s2_model.specs.Placement.{Segment, is_in_use}
use Rattle.s2_model.specs.Verdict.{resting_in, resting_places}

step : (ids : List ℕ) (y : Segment) (ys : List Segment) (ps : List (ℕ × ℕ)) → is_in_use y ≡ true
    → (ps ++ resting_in ids y) ++ resting_places ys ids ≡ ps ++ resting_places (y ∷ ys) ids
step ids y ys ps lives =
    rw lives (append_assoc ps (resting_in ids y) (resting_places ys ids))

-- the places of a living segment come before those of the later ones
pub resting_more : (ids : List ℕ) (xs : List Segment) (s : Segment) (ps new all : List (ℕ × ℕ)) → 0 < length xs → s ≡ get_or xs 0 s → is_in_use s ≡ true
    → new ≡ ps ++ resting_in ids s → ps ++ resting_places xs ids ≡ all → new ++ resting_places (drop 1 xs) ids ≡ all
resting_more ids [] s ps new all lt at lives added was = absurd (omega arith)
resting_more ids (y ∷ ys) s ps new all lt at lives added was =
    let here : is_in_use y ≡ true = ap is_in_use (sym at) ∙ lives in
    ap (λ t. t ++ resting_places ys ids) (added ∙ ap (λ x. ps ++ resting_in ids x) at) ∙ step ids y ys ps here ∙ was
