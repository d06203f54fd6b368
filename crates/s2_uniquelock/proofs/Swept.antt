-- What a loop of takings and a sweep leave of the holds.
use Rattle.std.proofs.Common.{◌≡◌, ◌∙◌, sym, ap, refl, arith, subst, inl, inr, ◌⊎◌, eqb, map, [], suc, zero, ℕ, ◌<◌, Bool, true, false, cond, ◌||◌, List, ◌∷◌, nat_eq, Option, Some, None, is_some, unwrap_or, if◌then◌else◌, slice_index_or, slice_set, Result, Ok, Err, ◌&&◌, ◌==◌, length}
use Rattle.std.specs.Cmp.{nat_eq_equiv}
use Rattle.std.specs.Cmp.Lexicographic.{lists_equiv}
use Rattle.s2_value.specs.declared.values.Value.{Value}
use Rattle.s2_value.specs.Order.{value_eq_equiv, same_row}
use Rattle.std.specs.Option.{option_map}
use Rattle.std.specs.Result.{IsOk, OnOk}
use Rattle.std.proofs.lemmas.Bool.{false≢true}
use Rattle.std.proofs.lemmas.Bool.Decides.{nat_tests}
use Rattle.std.proofs.lemmas.Grind.{common_steps}
use Rattle.std.proofs.lemmas.Map.Made.{lookup-map_values}
use Rattle.std.specs.List.{IsDistinct, filter, list_any}
use Rattle.std.specs.Map.{lookup, keys_of}
use Rattle.std.proofs.lemmas.Map.Entries.{option_filter, lookup-filter-values}
use Rattle.s2_uniquelock.specs.declared.hold.Hold.{Hold}
use Rattle.s2_uniquelock.specs.Holds.{holder_in, is_present, row_hold, value_hold, nobody, IsKnown, IsKnownRow, IsKnownValue, same_key, without_actor}

-- the hold after one more item of a list is taken
pub taken_more : {A : Type 0} (test : A → Bool) (p : A) (rest items : List A) (hold cur next target : Hold) → items ≡ p ∷ rest → next ≡ (if test p then hold else cur) → (if list_any test items then hold else cur) ≡ target → (if list_any test rest then hold else next) ≡ target
taken_more {A} test p rest items hold cur next target e n h =
    ap (λ m. if list_any test rest then hold else m) n ∙ either (test p) (list_any test rest) ∙ ap (λ xs. if list_any test xs then hold else cur) (sym e) ∙ h where
      either : (a b : Bool) → (if b then hold else (if a then hold else cur)) ≡ (if a || b then hold else cur)
      either true true = refl
      either true false = refl
      either false true = refl
      either false false = refl

-- a hold that is in force, or nobody's
abbrev pub swept : List ℕ → Hold → Hold
swept terms h = if is_present terms h then h else nobody

pub filtered_hold : (terms : List ℕ) (o : Option Hold) → unwrap_or (option_filter (λ h. is_present terms h) o) nobody ≡ swept terms (unwrap_or o nobody)
filtered_hold terms None = refl
filtered_hold terms (Some h) = elim (is_present terms h) as (λ b. unwrap_or (cond b (Some h) None) nobody ≡ (if b then h else nobody)) [ true ↦ refl | false ↦ refl ]

pub swept_row : (terms : List ℕ) (es kept : List (ℕ × Hold)) → IsDistinct nat_eq (keys_of es) → kept ≡ filter (λ e. is_present terms e.1) es → (n : ℕ) → row_hold kept n ≡ swept terms (row_hold es n)
swept_row terms es kept d e n =
    ap (λ es. row_hold es n) e ∙ ap (λ o. unwrap_or o nobody) (lookup-filter-values nat_eq_equiv (λ h. is_present terms h) n es d) ∙ filtered_hold terms (lookup (nat_eq n) es)

pub swept_holder : (terms : List ℕ) (h : Hold) → holder_in terms (swept terms h) ≡ holder_in terms h
swept_holder terms h = go (holder_in terms h) refl where
  go : (o : Option ℕ) → holder_in terms h ≡ o → holder_in terms (if is_some o then h else nobody) ≡ o
  go None e = refl
  go (Some k) e = e

pub swept_known : (terms : List ℕ) (h : Hold) → IsKnown terms h → IsKnown terms (swept terms h)
swept_known terms h k = elim (is_present terms h) as (λ b. IsKnown terms (if b then h else nobody)) [ true ↦ k | false ↦ (omega arith, omega arith) ]

-- each hold that no test finds in force has no holder
none_from_absent : (o : Option ℕ) → is_some o ≡ false → o ≡ None
none_from_absent None e = refl
none_from_absent (Some k) e = absurd (false≢true (sym e))

first_false : (a b : Bool) → a || b ≡ false → a ≡ false
first_false true b e = e
first_false false b e = refl

second_false : (a b : Bool) → a || b ≡ false → b ≡ false
second_false true b e = absurd (false≢true (sym e))
second_false false b e = e

pub none_present : (terms : List ℕ) (hs : List Hold) (j : ℕ) → list_any (is_present terms) hs ≡ false → holder_in terms (slice_index_or hs j nobody) ≡ None
none_present terms [] j e = refl
none_present terms (h ∷ hs) zero e = none_from_absent (holder_in terms h) (first_false (is_present terms h) _ e)
none_present terms (h ∷ hs) (suc j) e = none_present terms hs j (second_false (is_present terms h) _ e)

-- the hold stays, or it was out of force and is nobody's now
abbrev pub Swept : List ℕ → Hold → Hold → Type 0
Swept terms now old = (now ≡ old) ⊎ ((now ≡ nobody) × (holder_in terms old ≡ None))

swept_lanes : (terms : List ℕ) (o : Option (List Hold)) (j : ℕ) → Swept terms (slice_index_or (unwrap_or (option_filter (list_any (is_present terms)) o) []) j nobody) (slice_index_or (unwrap_or o []) j nobody)
swept_lanes terms None j = inl refl
swept_lanes terms (Some hs) j = go (list_any (is_present terms) hs) refl where
  go : (b : Bool) → list_any (is_present terms) hs ≡ b → Swept terms (slice_index_or (unwrap_or (cond b (Some hs) None) []) j nobody) (slice_index_or hs j nobody)
  go true e = inl refl
  go false e = inr (refl, none_present terms hs j e)

pub swept_value : (terms : List ℕ) (es kept : List (List Value × List Hold)) → IsDistinct same_key (keys_of es) → kept ≡ filter (λ e. list_any (is_present terms) e.1) es → (j : ℕ) (q : List Value) → Swept terms (value_hold kept j q) (value_hold es j q)
swept_value terms es kept d e j q =
    let found : lookup (same_key q) kept ≡ option_filter (list_any (is_present terms)) (lookup (same_key q) es) = ap (lookup (same_key q)) e ∙ lookup-filter-values (lists_equiv value_eq_equiv) (list_any (is_present terms)) q es d in
    let P : Option (List Hold) → Type 0 = λ o. Swept terms (slice_index_or (unwrap_or o []) j nobody) (value_hold es j q) in
    subst P (sym found) (swept_lanes terms (lookup (same_key q) es) j)

pub holder_from_Swept : (terms : List ℕ) (now old : Hold) → Swept terms now old → holder_in terms now ≡ holder_in terms old
holder_from_Swept terms now old (inl e) = ap (holder_in terms) e
holder_from_Swept terms now old (inr p) = ap (holder_in terms) p.0 ∙ sym p.1

pub known_from_Swept : (terms : List ℕ) (now old : Hold) → Swept terms now old → IsKnown terms old → IsKnown terms now
known_from_Swept terms now old (inl e) k = subst (IsKnown terms) (sym e) k
known_from_Swept terms now old (inr p) k = subst (IsKnown terms) (sym p.0) (omega arith, omega arith)

-- ---- holds taken off
nobody_stays : (k : ℕ) → without_actor k nobody ≡ nobody
nobody_stays k = elim (eqb 0 k) as (λ b. (if b then nobody else nobody) ≡ nobody) [ true ↦ refl | false ↦ refl ]

pub cleared_row : (k : ℕ) (es kept : List (ℕ × Hold)) → kept ≡ map (λ e. (e.0, without_actor k e.1)) es → (n : ℕ) → row_hold kept n ≡ without_actor k (row_hold es n)
cleared_row k es kept e n = ap (λ es. row_hold es n) e ∙ ap (λ o. unwrap_or o nobody) (lookup-map_values (without_actor k) (nat_eq n) es) ∙ go (lookup (nat_eq n) es) where
  go : (o : Option Hold) → unwrap_or (option_map (without_actor k) o) nobody ≡ without_actor k (unwrap_or o nobody)
  go None = sym (nobody_stays k)
  go (Some h) = refl

lane_map : (k : ℕ) (hs : List Hold) (j : ℕ) → slice_index_or (map (without_actor k) hs) j nobody ≡ without_actor k (slice_index_or hs j nobody)
lane_map k [] j = sym (nobody_stays k)
lane_map k (h ∷ hs) zero = refl
lane_map k (h ∷ hs) (suc j) = lane_map k hs j

pub cleared_value : (k : ℕ) (es kept : List (List Value × List Hold)) → kept ≡ map (λ e. (e.0, map (without_actor k) e.1)) es → (j : ℕ) (q : List Value) → value_hold kept j q ≡ without_actor k (value_hold es j q)
cleared_value k es kept e j q = ap (λ es. value_hold es j q) e ∙ ap (λ o. slice_index_or (unwrap_or o []) j nobody) (lookup-map_values (map (without_actor k)) (same_key q) es) ∙ go (lookup (same_key q) es) where
  go : (o : Option (List Hold)) → slice_index_or (unwrap_or (option_map (map (without_actor k)) o) []) j nobody ≡ without_actor k (slice_index_or (unwrap_or o []) j nobody)
  go None = sym (nobody_stays k)
  go (Some hs) = lane_map k hs j

-- ---- one value taken
pub from_ok : {T E : Type 0} (P : Type 0) (r : Result T E) → IsOk r → OnOk r P → P
from_ok P (Ok x) k h = h
from_ok P (Err e) k h = absurd (false≢true k)

and_false : (a : Bool) → a && false ≡ false
and_false true = refl
and_false false = refl

lane : (hs : List Hold) (hold : Hold) (j i : ℕ) → j < length hs → slice_index_or (slice_set hs j hold) i nobody ≡ (if j == i then hold else slice_index_or hs i nobody)
lane hs hold j i room = grind (arith, common_steps, nat_tests)

pub taken_value : (old new : List (List Value × List Hold)) (hs : List Hold) (hold : Hold) (j : ℕ) (key : List Value)
    → ((q : List Value) → lookup (same_key q) new ≡ cond (same_key key q) (Some (slice_set hs j hold)) (lookup (same_key q) old))
    → ((i : ℕ) → slice_index_or hs i nobody ≡ value_hold old i key) → j < length hs
    → (i : ℕ) (q : List Value) → value_hold new i q ≡ (if (j == i) && same_key key q then hold else value_hold old i q)
taken_value old new hs hold j key found was room i q = go (same_key key q) refl where
  go : (b : Bool) → same_key key q ≡ b → value_hold new i q ≡ (if (j == i) && same_key key q then hold else value_hold old i q)
  go false e =
      let seen : lookup (same_key q) new ≡ lookup (same_key q) old = found q ∙ ap (λ b. cond b (Some (slice_set hs j hold)) (lookup (same_key q) old)) e in
      ap (λ o. slice_index_or (unwrap_or o []) i nobody) seen
      ∙ sym (ap (λ b. if (j == i) && b then hold else value_hold old i q) e ∙ ap (λ b. if b then hold else value_hold old i q) (and_false (j == i)))
  go true e =
      let seen : lookup (same_key q) new ≡ Some (slice_set hs j hold) = found q ∙ ap (λ b. cond b (Some (slice_set hs j hold)) (lookup (same_key q) old)) e in
      let same : key ≡ q = same_row key q e in
      ap (λ o. slice_index_or (unwrap_or o []) i nobody) seen ∙ lane hs hold j i room ∙ ap (λ v. if (j == i) then hold else v) (was i ∙ ap (λ k. value_hold old i k) same)
      ∙ sym (ap (λ b. if (j == i) && b then hold else value_hold old i q) e ∙ ap (λ b. if b then hold else value_hold old i q) (and_true (j == i))) where
        and_true : (a : Bool) → a && true ≡ a
        and_true true = refl
        and_true false = refl

-- ---- the same look-ups
pub same_rows : (terms : List ℕ) (old new : List (ℕ × Hold)) → ((q : ℕ) → lookup (nat_eq q) new ≡ lookup (nat_eq q) old) → IsKnownRow terms old → IsKnownRow terms new
same_rows terms old new e k n = subst (λ (o : Option Hold). IsKnown terms (unwrap_or o nobody)) (sym (e n)) (k n)

pub same_values : (terms : List ℕ) (old new : List (List Value × List Hold)) → ((q : List Value) → lookup (same_key q) new ≡ lookup (same_key q) old) → IsKnownValue terms old → IsKnownValue terms new
same_values terms old new e k j q = subst (λ (o : Option (List Hold)). IsKnown terms (slice_index_or (unwrap_or o []) j nobody)) (sym (e q)) (k j q)
