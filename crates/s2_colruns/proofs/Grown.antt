-- A dictionary that grows, and the codes of its values.
use Rattle.std.proofs.Common.{◌≡◌, ℕ, zero, suc, ◌+◌, ◌<◌, ◌≤◌, Bool, true, false, ◌||◌, nat_le, pos, cond, List, [], ◌∷◌, ◌++◌, length, get_or, map, inl, inr, sym, ap, refl, ◌∙◌, arith}
use Rattle.std.specs.List.{list_any}
use Rattle.std.proofs.lemmas.Bool.Decides.{nat_tests}
use Rattle.std.proofs.lemmas.List.{length-append, get_or_default}
use Rattle.s2_value.specs.declared.values.Value.{Value}
use Rattle.s2_value.specs.declared.values.Value.TheVariants.{Int}
use Rattle.s2_value.specs.Order.{value_eq}
use Rattle.s2_colruns.specs.Codes.{has_bad_code}
use Rattle.s2_colruns.specs.Dictionary.{with_value, decoded}

-- what the dictionary gains
pub record Grows (dict more : List Value) : Type 0 where
  pub no_less : length dict ≤ length more
  pub by_one : length more ≤ length dict + 1
  pub keeps : (i : ℕ) (d : Value) → i < length dict → get_or more i d ≡ get_or dict i d

front_kept : (dict rest : List Value) (i : ℕ) (d : Value) → i < length dict → get_or (dict ++ rest) i d ≡ get_or dict i d
front_kept [] rest i d l = absurd (omega arith)
front_kept (v ∷ vs) rest zero d l = refl
front_kept (v ∷ vs) rest (suc i) d l = front_kept vs rest i d (omega arith)

pub grows : (dict : List Value) (v : Value) → Grows dict (with_value dict v)
grows dict v = elim (list_any (value_eq v) dict) as (λ b. Grows dict (cond b dict (dict ++ v ∷ []))) [
  | true ↦ record { no_less = omega arith; by_one = omega arith; keeps = λ i d l. refl }
  | false ↦ (let len = length-append dict (v ∷ []) in record { no_less = omega arith; by_one = omega arith; keeps = λ i d l. front_kept dict (v ∷ []) i d l })
]

or_false : (a b : Bool) → (a || b) ≡ false → (a ≡ false) × (b ≡ false)
or_false true b h = cc
or_false false b h = (refl, h)

not_le : (d c : ℕ) → nat_le d c ≡ false → c < d
not_le d c h = grind (arith, nat_tests)

le_false : (d c : ℕ) → c < d → nat_le d c ≡ false
le_false d c l = grind (arith, nat_tests)

-- codes keep their values while the dictionary grows
pub decoded_kept : (dict more : List Value) (codes : List ℕ) → Grows dict more → has_bad_code (length dict) codes ≡ false → (decoded more codes ≡ decoded dict codes) × (has_bad_code (length more) codes ≡ false)
decoded_kept dict more [] g h = (refl, refl)
decoded_kept dict more (c ∷ codes) g h =
    let both = or_false (nat_le (length dict) c) (has_bad_code (length dict) codes) h in
    let below : c < length dict = not_le (length dict) c both.0 in
    let rest = decoded_kept dict more codes g both.1 in
    let less = g.no_less in
    let here : nat_le (length more) c ≡ false = le_false (length more) c (omega arith) in
    (cons_is (g.keeps c (Int (pos 0)) below) rest.0, rw here rest.1)
  where
    cons_is : {a b : Value} {xs ys : List Value} → a ≡ b → xs ≡ ys → a ∷ xs ≡ b ∷ ys
    cons_is p q = cc

decoded-push : (dict : List Value) (codes : List ℕ) (c : ℕ) → decoded dict (codes ++ c ∷ []) ≡ decoded dict codes ++ get_or dict c (Int (pos 0)) ∷ []
decoded-push dict [] c = refl
decoded-push dict (b ∷ codes) c = ap (λ (vs : List Value). get_or dict b (Int (pos 0)) ∷ vs) (decoded-push dict codes c)

below-push : (d : ℕ) (codes : List ℕ) (c : ℕ) → has_bad_code d codes ≡ false → c < d → has_bad_code d (codes ++ c ∷ []) ≡ false
below-push d [] c h l = rw (le_false d c l) refl
below-push d (b ∷ codes) c h l =
    let both = or_false (nat_le d b) (has_bad_code d codes) h in
    rw both.0 (below-push d codes c both.1 l)

-- the codes of the values so far
pub record Numbers (dict : List Value) (codes : List ℕ) (vals : List Value) : Type 0 where
  pub codes_are : decoded dict codes ≡ vals
  pub below : has_bad_code (length dict) codes ≡ false
  pub few : length dict ≤ length vals

pub numbers_none : Numbers [] [] []
numbers_none = record { codes_are = refl; below = refl; few = omega arith }

-- one more value
pub numbers_more : (dict more : List Value) (codes : List ℕ) (vals : List Value) (v : Value) (c : ℕ) → Numbers dict codes vals → more ≡ with_value dict v → c < length more → get_or more c v ≡ v → Numbers more (codes ++ c ∷ []) (vals ++ v ∷ [])
numbers_more dict more codes vals v c n e l s =
    let g : Grows dict more = rw e (grows dict v) in
    let kept = decoded_kept dict more codes g n.below in
    let one = g.by_one in
    let few = n.few in
    let len = length-append vals (v ∷ []) in
    let here : get_or more c (Int (pos 0)) ≡ v = get_or_default more c (Int (pos 0)) v l ∙ s in
    record {
      codes_are = decoded-push more codes c ∙ ap (λ (vs : List Value). vs ++ get_or more c (Int (pos 0)) ∷ []) (kept.0 ∙ n.codes_are) ∙ ap (λ (w : Value). vals ++ w ∷ []) here;
      below = below-push (length more) codes c kept.1 l;
      few = omega arith;
    }
