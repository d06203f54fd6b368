-- Fields of bits in bytes.
use Rattle.std.proofs.Common.{◌≡◌, ℕ, zero, suc, ◌+◌, ◌-◌, ◌*◌, ◌/◌, ◌%◌, ◌^◌, ◌<◌, ◌≤◌, ℤ, pos, ◌+ℤ◌, Bool, true, false, ◌||◌, List, length, get_or, take, drop, sym, ap, refl, ◌∙◌, inl, inr, arith}
use Rattle.std.specs.List.{list_any}
use Rattle.std.proofs.Math.Nat.{mul-add-mod_self_right}
use Rattle.std.proofs.lemmas.Nat.{shr-shr, field_of, pow-add, one_shl, and_mask, mod_below, pow_pos}
use Rattle.std.proofs.Math.Nat.{pow-le-pow_right}
use Rattle.std.specs.Prelude.{bit_and, FitsSigned}
use Rattle.std.specs.Int.{w64}
use mir.Val.{to_z, of_z}
use Rattle.std.proofs.lemmas.Int.{ints, to_z-of_z}
use Rattle.std.proofs.lemmas.List.{take_all}
use Rattle.std.proofs.lemmas.Bool.{cases_lt}
use Rattle.byteorder.proofs.Bytes.{pow256}
use Rattle.s2_colbytes.specs.Numbers.{IsBytes, number_of}
use Rattle.s2_colbytes.proofs.Bytes.{number_of-drop, number_of-split, number_of-lt}
use Rattle.s2_colplain.specs.Packed.{field, unpacked_from, is_over}

-- the low bits of the number that bytes are stand in their first bytes
pub number_of-low : (bs : List ℕ) (k j : ℕ) → j ≤ 8 * k → number_of bs % 2 ^ j ≡ number_of (take k bs) % 2 ^ j
number_of-low bs k j l = elim (cases_lt (length bs) k) [
  | inl short ↦ ap (λ (xs : List ℕ). number_of xs % 2 ^ j) (sym (take_all k bs (omega arith)))
  | inr long ↦
      (let e : 256 ^ k ≡ 2 ^ (8 * k - j) * 2 ^ j = pow256 k ∙ ap (λ (n : ℕ). 2 ^ n) (let f : 8 * k ≡ (8 * k - j) + j = omega arith in f) ∙ pow-add 2 (8 * k - j) j in
      let high : ℕ = number_of (drop k bs) in
      let low : ℕ = number_of (take k bs) in
      let split : number_of bs ≡ high * 2 ^ (8 * k - j) * 2 ^ j + low = number_of-split k bs long ∙ ap (λ (n : ℕ). low + n * high) e ∙ swapped low (2 ^ (8 * k - j)) (2 ^ j) high in
      ap (λ (n : ℕ). n % 2 ^ j) split ∙ mul-add-mod_self_right (high * 2 ^ (8 * k - j)) (2 ^ j) low)
]
  where
    swapped : (a p q h : ℕ) → a + p * q * h ≡ h * p * q + a
    swapped a p q h = omega arith

-- a field stands in so many bytes from the one that it begins in
pub field_in : (k : ℕ) (bs : List ℕ) (at s w i : ℕ) → IsBytes bs → w * i ≡ 8 * at + s → w + s ≤ 8 * k → field w i (number_of bs) ≡ number_of (take k (drop at bs)) / 2 ^ s % 2 ^ w
unfolding field
field_in k bs at s w i h e l =
    let place : number_of bs / 2 ^ (w * i) ≡ number_of (drop at bs) / 2 ^ s =
    ap (λ (n : ℕ). number_of bs / 2 ^ n) e ∙ sym (shr-shr (number_of bs) (8 * at) s) ∙ ap (λ (n : ℕ). number_of bs / n / 2 ^ s) (sym (pow256 at)) ∙ ap (λ (n : ℕ). n / 2 ^ s) (sym (number_of-drop at bs h)) in
    ap (λ (n : ℕ). n % 2 ^ w) place ∙ sym (field_of (number_of (drop at bs)) w s)
    ∙ ap (λ (n : ℕ). n / 2 ^ s) (number_of-low (drop at bs) k (w + s) l)
    ∙ field_of (number_of (take k (drop at bs))) w s

-- a disjunction that doesn't hold
pub or_false : (a b : Bool) → (a || b) ≡ false → (a ≡ false) × (b ≡ false)
or_false true b h = cc
or_false false b h = (refl, h)

-- one of the numbers
pub get_or-unpacked : (base : ℤ) (w bits k n i : ℕ) (d : ℤ) → i < n → get_or (unpacked_from base w bits k n) i d ≡ base +ℤ pos (field w (k + i) bits)
get_or-unpacked base w bits k zero i d l = absurd (omega arith)
get_or-unpacked base w bits k (suc n) zero d l = let e : k + 0 ≡ k = omega arith in rw e refl
get_or-unpacked base w bits k (suc n) (suc i) d l = let e : k + suc i ≡ k + 1 + i = omega arith in rw e (get_or-unpacked base w bits (k + 1) n i d (omega arith))

pub length-unpacked : (base : ℤ) (w bits k n : ℕ) → length (unpacked_from base w bits k n) ≡ n
length-unpacked base w bits k zero = refl
length-unpacked base w bits k (suc n) = ap suc (length-unpacked base w bits (k + 1) n)

-- few bytes are a small number
pub few_bytes : (b : ℕ) (bs : List ℕ) (r : ℕ) → IsBytes bs → length bs ≤ 7 → r ≡ number_of bs → b < 256 → b + 256 * r < 2 ^ 64
few_bytes b bs r h l e f =
    let small : number_of bs < 256 ^ length bs = number_of-lt bs h in
    let most : 256 ^ length bs ≤ 256 ^ 7 = pow-le-pow_right {n = 256} (omega arith) l in
    omega arith

-- the field under a mask in a word of so many bits
pub masked : (size x w m : ℕ) → w < size → m ≡ 1 * 2 ^ w % 2 ^ size - 1 → bit_and x m ≡ x % 2 ^ w
masked size x w m l e = ap (bit_and x) (e ∙ ap (λ (p : ℕ). p - 1) (one_shl w size l)) ∙ and_mask x w

pub field-lt : (w k bits : ℕ) → field w k bits < 2 ^ w
unfolding field
field-lt w k bits = mod_below (bits / 2 ^ (w * k)) (2 ^ w) (pow_pos w)

less_over : (base : ℤ) (a b : ℕ) → a ≤ b → is_over (base +ℤ pos b) ≡ false → is_over (base +ℤ pos a) ≡ false
less_over base a b l h = grind (arith, ints)

-- the numbers of small fields aren't over where the greatest field gives none
pub none_over : (base : ℤ) (w bits k n : ℕ) → is_over (base +ℤ pos (2 ^ w - 1)) ≡ false → list_any is_over (unpacked_from base w bits k n) ≡ false
none_over base w bits k zero h = refl
none_over base w bits k (suc n) h =
    let below : field w k bits < 2 ^ w = field-lt w k bits in
    let first : is_over (base +ℤ pos (field w k bits)) ≡ false = less_over base (field w k bits) (2 ^ w - 1) (omega arith) h in
    rw first (none_over base w bits (k + 1) n h)

-- each number is as great as it may be
pub not_over : (base : ℤ) (w bits k n i : ℕ) → list_any is_over (unpacked_from base w bits k n) ≡ false → i < n → is_over (base +ℤ pos (field w (k + i) bits)) ≡ false
not_over base w bits k zero i h l = absurd (omega arith)
not_over base w bits k (suc n) zero h l = let e : k + 0 ≡ k = omega arith in rw e (or_false (is_over (base +ℤ pos (field w k bits))) _ h).0
not_over base w bits k (suc n) (suc i) h l = let e : k + suc i ≡ k + 1 + i = omega arith in rw e (not_over base w bits (k + 1) n i (or_false (is_over (base +ℤ pos (field w k bits))) _ h).1 (omega arith))

-- no number is over where each by itself isn't
pub all_not_over : (base : ℤ) (w bits k n : ℕ) → ((i : ℕ) → i < n → is_over (base +ℤ pos (field w (k + i) bits)) ≡ false) → list_any is_over (unpacked_from base w bits k n) ≡ false
all_not_over base w bits k zero h = refl
all_not_over base w bits k (suc n) h =
    let e : k + 0 ≡ k = omega arith in
    let first : is_over (base +ℤ pos (field w k bits)) ≡ false = rw e at (h 0 (omega arith)) in
    rw first (all_not_over base w bits (k + 1) n (λ i l. let f : k + suc i ≡ k + 1 + i = omega arith in rw f at (h (suc i) (omega arith))))

-- the sum of base and field, as it is computed
pub sum_fits : (base : ℤ) (f : ℕ) → FitsSigned w64 base → f < 2 ^ 63 → is_over (base +ℤ pos f) ≡ false → FitsSigned w64 (base +ℤ pos f)
sum_fits base f p l h = grind (arith, ints)

pub base_same : (base : ℤ) → FitsSigned w64 base → to_z w64 (of_z w64 base) ≡ base
base_same base p = to_z-of_z w64 base p

-- the greatest field, as it is computed
pub edge : (base : ℤ) (w : ℕ) → FitsSigned w64 base → w ≤ 63 → false ≡ is_over (to_z w64 (of_z w64 base) +ℤ pos (1 * 2 ^ w % 2 ^ 64 - 1)) → is_over (base +ℤ pos (2 ^ w - 1)) ≡ false
edge base w p l h =
    let one : 1 * 2 ^ w % 2 ^ 64 ≡ 2 ^ w = one_shl w 64 (omega arith) in
    ap (λ (z : ℤ). is_over (z +ℤ pos (2 ^ w - 1))) (sym (base_same base p)) ∙ sym (h ∙ ap (λ (n : ℕ). is_over (to_z w64 (of_z w64 base) +ℤ pos (n - 1))) one)
