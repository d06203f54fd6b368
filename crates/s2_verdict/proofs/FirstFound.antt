-- The first of several refusals, one after the other.
use Rattle.std.proofs.Common.{◌≡◌, ℕ, ◌+◌, ◌<◌, suc, true, false, List, [], ◌∷◌, Option, Some, None, length, drop, get_or, refl, sym, ap, ◌∙◌, arith, add-one}
use Rattle.std.specs.Prelude.{is_some}
use Rattle.std.specs.Option.{option_or}
use Rattle.s2_model.specs.Verdict.{first_from}

none_of : {Y : Type 0} (o : Option Y) → is_some o ≡ false → o ≡ None
none_of None e = refl
none_of (Some y) e = cc

-- where the first has no answer, it is looked for among the rest
pub first_from_skips : {X Y : Type 0} (f : ℕ → X → Option Y) (i : ℕ) (xs : List X) (x : X) (found : Option Y)
    → 0 < length xs → x ≡ get_or xs 0 x → found ≡ f i x → is_some found ≡ false → first_from (i + 1) f (drop 1 xs) ≡ first_from i f xs
first_from_skips f i [] x found lt at told none = absurd (omega arith)
first_from_skips f i (y ∷ ys) x found lt at told none =
    let here : f i y ≡ None = ap (f i) (sym at) ∙ sym told ∙ none_of found none in
    ap (λ n. first_from n f ys) (add-one i) ∙ ap (λ o. option_or o (first_from (suc i) f ys)) (sym here)

-- one of the first two has an answer
pub found_early : {Y : Type 0} (l g rest found : Option Y) → found ≡ option_or l g → is_some found ≡ true → found ≡ option_or l (option_or g rest)
found_early (Some y) g rest found e some = e
found_early None (Some y) rest found e some = e
found_early None None rest found e some = let no : false ≡ true = ap is_some (sym e) ∙ some in cc

-- neither has
pub found_late : {Y : Type 0} (l g rest early found : Option Y) → early ≡ option_or l g → is_some early ≡ false → found ≡ rest → found ≡ option_or l (option_or g rest)
found_late (Some y) g rest early found e none at = let no : true ≡ false = ap is_some (sym e) ∙ none in cc
found_late None (Some y) rest early found e none at = let no : true ≡ false = ap is_some (sym e) ∙ none in cc
found_late None None rest early found e none at = at
