-- The places of a key lie within each row that fits.
use Rattle.std.proofs.Common.{◌≡◌, ℕ, ◌<◌, suc, Bool, true, false, List, [], ◌∷◌, ◌++◌, length, get_or, refl, sym, ap, ◌∙◌}
use Rattle.std.proofs.lemmas.Bool.{false≢true}
use Rattle.std.proofs.lemmas.List.Folds.{list_all_at, list_all-append}
use Rattle.std.specs.Prelude.{◌&&◌}
use Rattle.std.specs.List.{list_all}
use Rattle.s2_value.specs.declared.values.Value.{Value}
use Rattle.s2_value.specs.declared.schemas.Col.{Col}
use Rattle.s2_value.specs.Columns.{is_schema, is_key, are_below}
use Rattle.s2_value.specs.Rows.{fits_columns, is_of}

pub both : (a b : Bool) → (a && b) ≡ true → (a ≡ true) × (b ≡ true)
both true true e = (refl, refl)
both true false e = absurd (false≢true e)
both false b e = absurd (false≢true e)

-- what holds of each holds of the one at a place
pub all_at : {X : Type 0} (p : X → Bool) (xs : List X) (i : ℕ) (d : X) → i < length xs → list_all p xs ≡ true → p (get_or xs i d) ≡ true
all_at p xs i d lt all =
    elim (p (get_or xs i d)) as (λ b. p (get_or xs i d) ≡ b → b ≡ true) [
      | true ↦ λ e. refl
      | false ↦ λ e. absurd (false≢true (sym (list_all_at p xs i d lt e) ∙ all))
    ] refl

-- each key of a schema is one of its columns
pub schema_keys : (n : ℕ) (us is : List (List ℕ)) (sort : List ℕ) → is_schema n us is sort ≡ true → list_all (is_key n) (us ++ is) ≡ true
schema_keys n us is sort ok =
    let a = both _ _ ok in
    let b = both _ _ a.0 in
    let c = both _ _ b.0 in
    let d = both _ _ c.0 in
    list_all-append (is_key n) us is ∙ ap (λ t. t && list_all (is_key n) is) d.1 ∙ c.1

pub key_below : (n : ℕ) (us is : List (List ℕ)) (sort : List ℕ) (j : ℕ) → is_schema n us is sort ≡ true → j < length (us ++ is)
    → are_below n (get_or (us ++ is) j []) ≡ true
key_below n us is sort j ok lt = (both _ _ (all_at (is_key n) (us ++ is) j [] lt (schema_keys n us is sort ok))).1

pub fits_length : (cols : List Col) (row : List Value) → fits_columns cols row ≡ true → length row ≡ length cols
fits_length [] [] e = refl
fits_length [] (v ∷ vs) e = absurd (false≢true e)
fits_length (c ∷ cs) [] e = absurd (false≢true e)
fits_length (c ∷ cs) (v ∷ vs) e = ap (λ n. suc n) (fits_length cs vs (both (is_of c.kind v) _ e).1)
