-- What noting a row number keeps.
use Rattle.std.proofs.Common.{◌≡◌, ◌∙◌, refl, sym, ap, ℕ, Bool, true, false, cond, List, [], ◌∷◌, zero, suc, ◌<◌, length, slice_index_or, slice_set, arith, Option, None, Some}
use Rattle.std.specs.declared.cmp.Ordering.{Ordering}
use Rattle.std.specs.declared.cmp.Ordering.TheVariants.{Less, Equal, Greater}
use Rattle.std.specs.Ordering.{is_eq}
use Rattle.std.specs.Map.{lookup}
use Rattle.std.specs.BTreeMap.{BTreeMap, is_at}
use Rattle.std.proofs.lemmas.Bool.{false≢true}
use Rattle.s2_value.specs.declared.values.Value.{Value}
use Rattle.s2_value.specs.Order.{row_cmp, one_row}
use Rattle.s2_rowstore.specs.Keys.{has_id, is_noted, noted_at, KeepsNotes}

pub equal_from : (o : Ordering) → is_eq o ≡ true → o ≡ Equal
equal_from Less e = absurd (false≢true e)
equal_from Equal e = refl
equal_from Greater e = absurd (false≢true e)

pub kept_noted : (old new : List (List Value × List ℕ)) (key : List Value) (was : Option (List ℕ)) (now : List ℕ)
    → lookup (is_at (row_cmp key)) old ≡ was
    → ((q : List Value) → lookup (is_at (row_cmp q)) new ≡ cond (is_at (row_cmp key) q) (Some now) (lookup (is_at (row_cmp q)) old))
    → ((n : ℕ) → has_id n was ≡ true → has_id n (Some now) ≡ true)
    → (q : List Value) (n : ℕ) → is_noted old q n ≡ true → is_noted new q n ≡ true
kept_noted old new key was now found updates kept q n h = go (is_at (row_cmp key) q) refl where
  go : (b : Bool) → is_at (row_cmp key) q ≡ b → is_noted new q n ≡ true
  go true e =
      let same : key ≡ q = one_row key q (equal_from (row_cmp key q) e) in
      ap (has_id n) (updates q ∙ ap (λ b. cond b (Some now) (lookup (is_at (row_cmp q)) old)) e)
      ∙ kept n (ap (has_id n) (sym found ∙ ap (λ k. lookup (is_at (row_cmp k)) old) same) ∙ h)
  go false e = ap (has_id n) (updates q ∙ ap (λ b. cond b (Some now) (lookup (is_at (row_cmp q)) old)) e) ∙ h

pub none_noted : (now : Option (List ℕ)) (n : ℕ) → has_id n None ≡ true → has_id n now ≡ true
none_noted now n e = absurd (false≢true e)

-- one of the lists has more
pub kept_at : (xs : List (BTreeMap (List Value) (List ℕ))) (j : ℕ) (m d : BTreeMap (List Value) (List ℕ)) → j < length xs
    → ((q : List Value) (n : ℕ) → is_noted (slice_index_or xs j d).entries q n ≡ true → is_noted m.entries q n ≡ true)
    → KeepsNotes xs (slice_set xs j m)
kept_at [] j m d lt h i q n e = e
kept_at (x ∷ xs) zero m d lt h zero q n e = h q n e
kept_at (x ∷ xs) zero m d lt h (suc i) q n e = e
kept_at (x ∷ xs) (suc j) m d lt h zero q n e = e
kept_at (x ∷ xs) (suc j) m d lt h (suc i) q n e = kept_at xs j m d (omega arith) h i q n e

pub noted_set : (xs : List (BTreeMap (List Value) (List ℕ))) (j : ℕ) (m : BTreeMap (List Value) (List ℕ)) → j < length xs
    → (q : List Value) (n : ℕ) → noted_at (slice_set xs j m) j q n ≡ is_noted m.entries q n
noted_set [] j m lt q n = absurd (omega arith)
noted_set (x ∷ xs) zero m lt q n = refl
noted_set (x ∷ xs) (suc j) m lt q n = noted_set xs j m (omega arith) q n
