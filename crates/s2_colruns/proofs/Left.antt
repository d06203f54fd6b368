-- The numbers of two bytes that are left.
use Rattle.std.proofs.Common.{◌≡◌, ℕ, zero, suc, ◌+◌, ◌-◌, ◌*◌, ◌<◌, ◌≤◌, List, [], ◌∷◌, length, drop, ap, sym, ◌∙◌, arith}
use Rattle.std.proofs.Common.{◌≢◌, nat_le, nat_eq, false, refl}
use Rattle.std.proofs.lemmas.Bool.Decides.{nat_tests}
use Rattle.s2_colruns.specs.Codes.{has_bad_code}
use Rattle.s2_colruns.specs.Runs.{has_empty}
use Rattle.byteorder.specs.Endian.{little_number}
use Rattle.s2_colbytes.specs.Numbers.{numbers}
use Rattle.s2_colbytes.proofs.Lists.{drop-drop}

-- the next number, and those after it
pub numbers_next : (n i x : ℕ) (bs : List ℕ) → i < n → x ≡ little_number 2 (drop (2 * i) bs) → numbers 2 (n - i) (drop (2 * i) bs) ≡ x ∷ numbers 2 (n - (i + 1)) (drop (2 * (i + 1)) bs)
numbers_next n i x bs l e =
    let m : n - i ≡ suc (n - (i + 1)) = omega arith in
    let p : 2 * i + 2 ≡ 2 * (i + 1) = omega arith in
    let after : drop 2 (drop (2 * i) bs) ≡ drop (2 * (i + 1)) bs = drop-drop (2 * i) 2 bs ∙ ap (λ (k : ℕ). drop k bs) p in
    ap (λ (k : ℕ). numbers 2 k (drop (2 * i) bs)) m ∙ cons_is (sym e) (ap (numbers 2 (n - (i + 1))) after)
  where
    cons_is : {a b : ℕ} {xs ys : List ℕ} → a ≡ b → xs ≡ ys → a ∷ xs ≡ b ∷ ys
    cons_is p q = cc

pub numbers_none : (n i : ℕ) (bs : List ℕ) → n ≤ i → numbers 2 (n - i) (drop (2 * i) bs) ≡ []
numbers_none n i bs l = ap (λ (k : ℕ). numbers 2 k (drop (2 * i) bs)) (let e : n - i ≡ 0 = omega arith in e)

pub bad_next : (d x : ℕ) (xs : List ℕ) → x < d → has_bad_code d (x ∷ xs) ≡ has_bad_code d xs
bad_next d x xs l = let e : nat_le d x ≡ false = grind (arith, nat_tests) in rw e refl

pub empty_next : (x : ℕ) (xs : List ℕ) → x ≢ 0 → has_empty (x ∷ xs) ≡ has_empty xs
empty_next x xs l = let e : nat_eq x 0 ≡ false = grind (arith, nat_tests) in rw e refl
