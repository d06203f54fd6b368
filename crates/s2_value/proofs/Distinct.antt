-- A place that isn't there yet goes to the end of distinct places.
use Rattle.std.proofs.Common.{◌≡◌, ℕ, List, [], ◌∷◌, ◌++◌, true, false, Bool, cond, refl, arith}
use Rattle.std.proofs.lemmas.Bool.Decides.{nat_tests}
use Rattle.std.proofs.lemmas.List.Folds.{list_any-append}
use Rattle.std.specs.Prelude.{◌==◌}
use Rattle.s2_value.specs.Columns.{has_place, are_distinct}

pub are_distinct-push : (xs : List ℕ) (p : ℕ) → are_distinct xs ≡ true → has_place p xs ≡ false → are_distinct (xs ++ p ∷ []) ≡ true
are_distinct-push [] p d h = refl
are_distinct-push (x ∷ xs) p d h =
    grind (arith, nat_tests, list_any-append (λ q. q == x) xs (p ∷ []), are_distinct-push xs p)

pub are_distinct-pushed : (ok : Bool) (xs : List ℕ) (p : ℕ) → are_distinct xs ≡ true → has_place p xs ≡ false
    → are_distinct (cond ok (xs ++ p ∷ []) xs) ≡ true
are_distinct-pushed true xs p d h = are_distinct-push xs p d h
are_distinct-pushed false xs p d h = d
