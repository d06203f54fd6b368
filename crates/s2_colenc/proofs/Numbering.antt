-- The code of a value is its place in the dictionary.
use Rattle.std.proofs.Common.{◌≡◌, ℕ, suc, ◌+◌, ◌<◌, ◌≤◌, Bool, true, false, ◌||◌, nat_le, ◌-◌, pos, List, [], ◌∷◌, ◌++◌, length, get_or, map, fold, inl, inr, sym, ap, refl, ◌∙◌, arith}
use Rattle.std.specs.List.{list_any}
use Rattle.std.proofs.lemmas.Bool.{cases_lt}
use Rattle.std.proofs.lemmas.Bool.Decides.{nat_tests}
use Rattle.std.proofs.lemmas.List.{length-append, get_or_append_left, get_or-append_right}
use Rattle.s2_value.specs.declared.values.Value.{Value}
use Rattle.s2_value.specs.declared.values.Value.TheVariants.{Int}
use Rattle.s2_value.specs.Order.{value_eq, value_eq_equiv}
use Rattle.s2_colruns.specs.Codes.{has_bad_code}
use Rattle.s2_colruns.specs.Dictionary.{with_value, dictionary_of, decoded}
use Rattle.s2_colruns.proofs.Grown.{grows}
use Rattle.s2_colenc.specs.Written.{place_of}

none : Value
none = Int (pos 0)

-- each value stands first at its own place
pub record Distinct (dict : List Value) : Type 0 where
  pub at : (c : ℕ) → c < length dict → place_of dict (get_or dict c (Int (pos 0))) ≡ c

or_false : (a b : Bool) → (a || b) ≡ false → (a ≡ false) × (b ≡ false)
or_false true b h = cc
or_false false b h = (refl, h)

front_one : (t : Bool) (w v : Value) (dict rest : List Value) → value_eq v w ≡ t → place_of (w ∷ dict) v < suc (length dict) → (place_of dict v < length dict → place_of (dict ++ rest) v ≡ place_of dict v) → place_of ((w ∷ dict) ++ rest) v ≡ place_of (w ∷ dict) v
front_one true w v dict rest e l h = rw e refl
front_one false w v dict rest e l h =
    let here : place_of (w ∷ dict) v ≡ place_of dict v + 1 = rw e refl in
    rw e (ap (λ (k : ℕ). k + 1) (h (omega arith)))

front : (dict rest : List Value) (v : Value) → place_of dict v < length dict → place_of (dict ++ rest) v ≡ place_of dict v
front [] rest v l = absurd (omega arith)
front (w ∷ dict) rest v l = front_one (value_eq v w) w v dict rest refl l (λ h. front dict rest v h)

new : (dict : List Value) (v : Value) → list_any (value_eq v) dict ≡ false → place_of (dict ++ v ∷ []) v ≡ length dict
new [] v h = rw (value_eq_equiv.refl v) refl
new (w ∷ dict) v h =
    let both = or_false (value_eq v w) (list_any (value_eq v) dict) h in
    rw both.0 (ap (λ (k : ℕ). k + 1) (new dict v both.1) ∙ (let e : length dict + 1 ≡ suc (length dict) = omega arith in e))

distinct_with : (dict : List Value) (v : Value) → Distinct dict → Distinct (with_value dict v)
distinct_with dict v d = go (list_any (value_eq v) dict) refl
  where
    go : (b : Bool) → list_any (value_eq v) dict ≡ b → Distinct (with_value dict v)
    go true e = rw e d
    go false e = rw e (record {
      at = λ c l.
          let len = length-append dict (v ∷ []) in
          elim (cases_lt c (length dict)) [
            | inl old ↦
                (let same : get_or (dict ++ v ∷ []) c (Int (pos 0)) ≡ get_or dict c (Int (pos 0)) = get_or_append_left dict (v ∷ []) (Int (pos 0)) c old in
                let place : place_of dict (get_or dict c (Int (pos 0))) ≡ c = d.at c old in
                ap (place_of (dict ++ v ∷ [])) same ∙ front dict (v ∷ []) (get_or dict c (Int (pos 0))) (omega arith) ∙ place)
            | inr last ↦
                (let is : c ≡ length dict = omega arith in
                let same : get_or (dict ++ v ∷ []) c (Int (pos 0)) ≡ v = get_or-append_right dict (v ∷ []) (length dict) c (Int (pos 0)) refl last ∙ ap (λ (k : ℕ). get_or (v ∷ []) k (Int (pos 0))) (let z : c - length dict ≡ 0 = omega arith in z) in
                ap (place_of (dict ++ v ∷ [])) same ∙ new dict v e ∙ sym is)
          ];
    })

pub distinct_fold : (vals dict : List Value) → Distinct dict → Distinct (fold with_value dict vals)
distinct_fold [] dict d = d
distinct_fold (v ∷ vals) dict d = distinct_fold vals (with_value dict v) (distinct_with dict v d)

pub distinct_all : (vals : List Value) → Distinct (dictionary_of vals)
distinct_all vals = distinct_fold vals [] (record { at = λ c l. absurd (omega arith) })

few_fold : (vals dict : List Value) → length (fold with_value dict vals) ≤ length dict + length vals
few_fold [] dict = omega arith
few_fold (v ∷ vals) dict =
    let one = (grows dict v).by_one in
    let r = few_fold vals (with_value dict v) in
    omega arith

pub few_all : (vals : List Value) → length (dictionary_of vals) ≤ length vals
few_all vals = let r = few_fold vals [] in omega arith

-- the codes are the places of the values that they stand for
places : (dict : List Value) (codes : List ℕ) → Distinct dict → has_bad_code (length dict) codes ≡ false → codes ≡ map (place_of dict) (decoded dict codes)
places dict [] d h = refl
places dict (c ∷ codes) d h =
    let both = or_false (nat_le (length dict) c) (has_bad_code (length dict) codes) h in
    let below : c < length dict = not_le (length dict) c both.0 in
    cons_is (sym (d.at c below)) (places dict codes d both.1)
  where
    not_le : (n c : ℕ) → nat_le n c ≡ false → c < n
    not_le n c h = grind (arith, nat_tests)

    cons_is : {a b : ℕ} {xs ys : List ℕ} → a ≡ b → xs ≡ ys → a ∷ xs ≡ b ∷ ys
    cons_is p q = cc

pub codes_are : (dict vals : List Value) (codes : List ℕ) → dict ≡ dictionary_of vals → decoded dict codes ≡ vals → has_bad_code (length dict) codes ≡ false → codes ≡ map (place_of (dictionary_of vals)) vals
codes_are dict vals codes e d b =
    let distinct : Distinct dict = rw e (distinct_all vals) in
    places dict codes distinct b ∙ ap (map (place_of dict)) d ∙ ap (λ (ds : List Value). map (place_of ds) vals) e
