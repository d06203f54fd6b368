-- Fronts of a text that is written one piece after another.
use Rattle.std.proofs.Common.{◌≡◌, ℕ, ◌+◌, ◌<◌, List, ◌∷◌, ◌++◌, Option, length, take, drop, get_or, flat_map, refl, sym, ap, ◌∙◌, subst, arith, length-append, take-append-drop}
use Rattle.std.proofs.Math.Seq.{take-add}
use Rattle.std.proofs.KnownBytes.{Appends-trans}
use Rattle.std.proofs.lemmas.List.{take_at, drop_at, drop_more, take-append-le}
use Rattle.std.proofs.lemmas.List.Concat.{flat_map-append}
use Rattle.std.specs.Io.KnownBytes.{Appends}

-- the bytes of all pieces
abbrev pub joined : List (List ℕ) → List ℕ
joined pieces = flat_map (λ piece. piece) pieces

-- a proper front of the text was appended
abbrev pub Front : Option (List ℕ) → Option (List ℕ) → List ℕ → Type 0
Front first now text = (n : ℕ) × (n < length text) × Appends first now (take n text)

take_into : (xs ys : List ℕ) (n : ℕ) → take (length xs + n) (xs ++ ys) ≡ xs ++ take n ys
take_into xs ys n =
    take-add (length xs) n (xs ++ ys)
    ∙ ap (λ (front : List ℕ). front ++ take n (drop (length xs) (xs ++ ys))) (take_at xs ys (length xs) refl)
    ∙ ap (λ (rest : List ℕ). xs ++ take n rest) (drop_at xs ys (length xs) refl)

-- a front of what stands first
pub front_left : (first now : Option (List ℕ)) (xs ys : List ℕ) → Front first now xs → Front first now (xs ++ ys)
front_left first now xs ys (n, within, wrote) =
    (n, omega (arith, length-append xs ys), subst (Appends first now) (sym (take-append-le n xs ys (omega arith))) wrote)

-- a front of what stands behind, once what stands first is written
pub front_right : (first before now : Option (List ℕ)) (xs ys : List ℕ) → Appends first before xs → Front before now ys → Front first now (xs ++ ys)
front_right first before now xs ys wrote (n, within, took) =
    (length xs + n, omega (arith, length-append xs ys), subst (Appends first now) (sym (take_into xs ys n)) (Appends-trans first before now xs (take n ys) wrote took))

split : (pieces : List (List ℕ)) (i : ℕ) (piece : List ℕ) → i < length pieces → piece ≡ get_or pieces i piece
    → joined (take i pieces) ++ (piece ++ joined (drop (i + 1) pieces)) ≡ joined pieces
split pieces i piece within is =
    ap (λ (x : List ℕ). joined (take i pieces) ++ joined (x ∷ drop (i + 1) pieces)) is
    ∙ ap (λ (rest : List (List ℕ)). joined (take i pieces) ++ joined rest) (sym (drop_more pieces i piece within))
    ∙ sym (flat_map-append (λ p. p) (take i pieces) (drop i pieces))
    ∙ ap joined (take-append-drop i pieces)

-- a front of one of the pieces, once those before it are written
pub front_at : (first before now : Option (List ℕ)) (pieces : List (List ℕ)) (i : ℕ) (piece : List ℕ) → i < length pieces → piece ≡ get_or pieces i piece
    → Appends first before (joined (take i pieces)) → Front before now piece → Front first now (joined pieces)
front_at first before now pieces i piece within is wrote front =
    let rest = joined (drop (i + 1) pieces) in
    subst (Front first now) (split pieces i piece within is)
    (front_right first before now (joined (take i pieces)) (piece ++ rest) wrote (front_left before now piece rest front))
