-- The sessions with a line are those of which there is one.
use Rattle.std.proofs.Common.{◌≡◌, ℕ, Bool, true, false, cond, ltb, List, [], ◌∷◌, ◌++◌, map, length, refl, ap, ◌∙◌, arith}
use Rattle.std.specs.Prelude.{filter, ◌||◌}
use Rattle.std.specs.List.{flat_map, list_any}
use Rattle.std.proofs.lemmas.Bool.Decides.{nat_tests}
use Rattle.s2_model.specs.declared.scripts.Line.{Line}
use Rattle.s2_model.specs.Held.{sessions}
use Rattle.s2_model.specs.Legal.{is_of_session}
use Rattle.s2_outread.specs.Lines.{sessions_of}
use Rattle.s2_outread.specs.Taking.{with_lines}

counts : {X : Type 0} (b : Bool) (x : X) (xs : List X) (t : Bool) → ltb 0 (length xs) ≡ t → ltb 0 (length (cond b (x ∷ xs) xs)) ≡ (b || t)
counts true x xs t e = grind (arith, nat_tests)
counts false x xs t e = e

-- one passes where some pass
any_counts : {X : Type 0} (p : X → Bool) (xs : List X) → ltb 0 (length (filter p xs)) ≡ list_any p xs
any_counts p [] = refl
any_counts p (x ∷ xs) = counts (p x) x (filter p xs) (list_any p xs) (any_counts p xs)

chosen : {X Y : Type 0} (f : X → Y) (b : Bool) (k : X) (ks : List X) (later : List Y) → later ≡ map f ks → cond b (f k ∷ []) [] ++ later ≡ map f (cond b (k ∷ ks) ks)
chosen {X} {Y} f true k ks later e = ap (λ (l : List Y). f k ∷ l) e
chosen f false k ks later e = e

among : (lines : List Line) (ks : List ℕ) → flat_map (with_lines lines) ks ≡ map (λ k. (k, length (filter (is_of_session k) lines))) (filter (λ k. list_any (is_of_session k) lines) ks)
among lines [] = refl
among lines (k ∷ ks) =
    let f : ℕ → ℕ × ℕ = λ k. (k, length (filter (is_of_session k) lines)) in
    let rest = flat_map (with_lines lines) ks in
    ap (λ (b : Bool). cond b (f k ∷ []) [] ++ rest) (any_counts (is_of_session k) lines)
    ∙ chosen f (list_any (is_of_session k) lines) k (filter (λ k. list_any (is_of_session k) lines) ks) rest (among lines ks)

pub all_with_lines : (lines : List Line) → flat_map (with_lines lines) sessions ≡ sessions_of lines
all_with_lines lines = among lines sessions
