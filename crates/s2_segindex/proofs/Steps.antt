-- One value of a key, in place.
use Rattle.std.proofs.Common.{◌≡◌, ℕ, zero, suc, ◌+◌, ◌-◌, ◌<◌, List, ◌∷◌, [], length, get_or, drop, refl, sym, ap, ◌∙◌, arith, ◌≤◌, Ordering, Less, Equal}
use Rattle.byteorder.specs.Endian.{little_number}
use Rattle.s2_colbytes.specs.Numbers.{numbers}
use Rattle.s2_colbytes.proofs.Lists.{length-numbers}
use Rattle.std.specs.Ordering.{ordering_then}
use Rattle.std.proofs.Math.Seq.{drop-cons}
use Rattle.s2_value.specs.declared.values.Value.{Value}
use Rattle.s2_value.specs.Order.{value_cmp, row_cmp}
use Rattle.s2_segindex.specs.Places.{value_in, after_value, key_in, after_key}

pub key_step : (w : ℕ) (bytes : List ℕ) → 0 < w → key_in w bytes ≡ value_in bytes ∷ key_in (w - 1) (after_value bytes)
key_step zero bytes h = absurd (omega arith)
key_step (suc w) bytes h = let e : suc w - 1 ≡ w = omega arith in rw e refl

pub after_step : (w : ℕ) (bytes : List ℕ) → 0 < w → after_key w bytes ≡ after_key (w - 1) (after_value bytes)
after_step zero bytes h = absurd (omega arith)
after_step (suc w) bytes h = let e : suc w - 1 ≡ w = omega arith in rw e refl

pub numbers_step : (w n : ℕ) (bytes : List ℕ) → 0 < n → numbers w n bytes ≡ little_number w bytes ∷ numbers w (n - 1) (drop w bytes)
numbers_step w zero bytes h = absurd (omega arith)
numbers_step w (suc n) bytes h = let e : suc n - 1 ≡ n = omega arith in rw e refl

pub count_numbers : (w n : ℕ) (bytes : List ℕ) → length (numbers w n bytes) ≡ n
count_numbers = length-numbers

-- a key from value i on against the one in place
pub cmp_from : (key : List Value) (i : ℕ) (v : Value) (w : ℕ) (bytes : List ℕ) (o : Ordering) → i < length key → v ≡ get_or key i v → 0 < w → o ≡ value_cmp v (value_in bytes) → row_cmp (drop i key) (key_in w bytes) ≡ ordering_then o (row_cmp (drop (i + 1) key) (key_in (w - 1) (after_value bytes)))
cmp_from key i v w bytes o l e h q =
    let one : suc i ≡ i + 1 = omega arith in
    let here : drop i key ≡ v ∷ drop (i + 1) key = drop-cons key i v l ∙ ap (λ (x : Value). x ∷ drop (suc i) key) (sym e) ∙ ap (λ (k : ℕ). v ∷ drop k key) one in
    ap (λ (ks : List Value). row_cmp ks (key_in w bytes)) here
    ∙ ap (row_cmp (v ∷ drop (i + 1) key)) (key_step w bytes h)
    ∙ ap (λ (r : Ordering). ordering_then r (row_cmp (drop (i + 1) key) (key_in (w - 1) (after_value bytes)))) (sym q)

drop_all : (i : ℕ) (key : List Value) → length key ≤ i → drop i key ≡ []
drop_all i [] h = none i
  where
    none : (i : ℕ) → ◌≡◌ {A = List Value} (drop i []) []
    none zero = refl
    none (suc i) = refl
drop_all zero (v ∷ key) h = absurd (omega arith)
drop_all (suc i) (v ∷ key) h = drop_all i key (omega arith)

pub cmp_end : (key : List Value) (i w : ℕ) (bytes : List ℕ) → length key ≤ i → 0 < w → row_cmp (drop i key) (key_in w bytes) ≡ Less
cmp_end key i w bytes l h = ap (λ (ks : List Value). row_cmp ks (key_in w bytes)) (drop_all i key l) ∙ ap (row_cmp []) (key_step w bytes h)
