-- Lists of truth values that words keep, and the words after a change.
use Rattle.std.proofs.Common.{◌≡◌, ◌≢◌, ℕ, zero, suc, ◌+◌, ◌*◌, ◌/◌, ◌%◌, ◌^◌, ◌<◌, ◌≤◌, Bool, true, false, not, ◌&&◌, ◌||◌, cond, eqb, List, ◌++◌, length, get_or, take, drop, map, replicate, inl, inr, sym, ap, refl, ◌∙◌, arith}
use Rattle.std.specs.Prelude.{bit_and, bit_or}
use Rattle.std.specs.List.{range_with_len, zip}
use Rattle.std.specs.Int.{bit_not, w64}
use mir.Val.{bits}
use Rattle.std.proofs.Math.ListN.{set, length-set}
use Rattle.std.proofs.Math.Seq.{take-append_seam}
use Rattle.std.proofs.lemmas.List.{same_lists, get_or-set_same, get_or-set_other, get_or_past}
use Rattle.std.proofs.lemmas.List.FromFn.{length-map-range_with_len, get_or-map-range_with_len}
use Rattle.std.proofs.lemmas.Nat.Bits.{bit_at-zero, bit_at_set_same, bit_at_set_other}
use Rattle.std.proofs.lemmas.Bool.{cases_eq, cases_lt}
use Rattle.std.proofs.lemmas.Bool.Decides.{nat_tests}
use Rattle.s2_bits.specs.Bits.{has_bit, is_set_at, kept_by, Keeps}
use Rattle.s2_bits.proofs.Kept.{has_bit-or, has_bit-and_not}

-- a vector whose elements were written as a slice
pub refilled : (n : ℕ) (xs ws : List ℕ) → n ≡ length xs → length ws ≡ length xs → take n (ws ++ drop (length ws) xs) ≡ ws
refilled n xs ws e f =
    let g : n ≡ length ws = omega arith in
    rw g (take-append_seam ws (drop (length ws) xs))

-- a bit that is set in its word
pub is_set_at-set : (ws : List ℕ) (i k : ℕ) → i < 64 * length ws → is_set_at (set ws (i / 64) (bit_or (get_or ws (i / 64) 0) (1 * 2 ^ (i % 64) % 2 ^ bits w64))) k ≡ cond (eqb k i) true (is_set_at ws k)
unfolding is_set_at
is_set_at-set ws i k l =
    let m : i / 64 < length ws = omega arith in
    let b : i % 64 < 64 = omega arith in
    let word : ℕ = bit_or (get_or ws (i / 64) 0) (1 * 2 ^ (i % 64) % 2 ^ bits w64) in
    elim (cases_eq k i) [
      | inl same ↦ (let t : eqb k i ≡ true = grind (arith, nat_tests) in
          let at : get_or (set ws (i / 64) word) (k / 64) 0 ≡ word = rw same (get_or-set_same ws (i / 64) word 0 m) in
          rw (t, at) (rw same (ap (λ (n : ℕ). eqb n 1) (bit_at_set_same w64 (get_or ws (i / 64) 0) (i % 64) b))))
      | inr other ↦ (let t : eqb k i ≡ false = grind (arith, nat_tests) in
          rw t (elim (cases_eq (k / 64) (i / 64)) [
            | inl here ↦ (let ne : k % 64 ≢ i % 64 = λ e. other (omega arith) in
                let at : get_or (set ws (i / 64) word) (k / 64) 0 ≡ word = rw here (get_or-set_same ws (i / 64) word 0 m) in
                ap (λ (n : ℕ). has_bit n (k % 64)) at ∙ ap (λ (n : ℕ). eqb n 1) (bit_at_set_other w64 (get_or ws (i / 64) 0) (i % 64) b (k % 64) ne) ∙ ap (λ (n : ℕ). has_bit (get_or ws n 0) (k % 64)) (sym here))
            | inr away ↦ ap (λ (n : ℕ). has_bit n (k % 64)) (get_or-set_other ws (i / 64) (k / 64) word 0 away)
          ]))
    ]

has_bit-zero : (i : ℕ) → has_bit 0 i ≡ false
has_bit-zero i = ap (λ (n : ℕ). eqb n 1) (bit_at-zero i)

-- words that are the `|` of two words each
pub is_set_at-or : (ws vs us : List ℕ) → length ws ≡ length vs → length us ≡ length ws → ((k : ℕ) → k < length ws → get_or us k 0 ≡ bit_or (get_or ws k 0) (get_or vs k 0)) → (k : ℕ) → is_set_at us k ≡ is_set_at ws k || is_set_at vs k
unfolding is_set_at
is_set_at-or ws vs us e f each k = elim (cases_lt (k / 64) (length ws)) [
  | inl l ↦ ap (λ (n : ℕ). has_bit n (k % 64)) (each (k / 64) l) ∙ has_bit-or (get_or ws (k / 64) 0) (get_or vs (k / 64) 0) (k % 64)
  | inr l ↦ (let a : get_or us (k / 64) 0 ≡ 0 = get_or_past us (k / 64) 0 (omega arith) in
      let b : get_or ws (k / 64) 0 ≡ 0 = get_or_past ws (k / 64) 0 l in
      let c : get_or vs (k / 64) 0 ≡ 0 = get_or_past vs (k / 64) 0 (omega arith) in
      rw (a, b, c, has_bit-zero (k % 64)) refl)
]

-- words that are the `& !` of two words each
pub is_set_at-and_not : (ws vs us : List ℕ) → length ws ≡ length vs → length us ≡ length ws → ((k : ℕ) → get_or vs k 0 < 2 ^ 64) → ((k : ℕ) → k < length ws → get_or us k 0 ≡ bit_and (get_or ws k 0) (bit_not w64 (get_or vs k 0))) → (k : ℕ) → is_set_at us k ≡ is_set_at ws k && not (is_set_at vs k)
unfolding is_set_at
is_set_at-and_not ws vs us e f fits each k = elim (cases_lt (k / 64) (length ws)) [
  | inl l ↦ ap (λ (n : ℕ). has_bit n (k % 64)) (each (k / 64) l) ∙ has_bit-and_not (get_or ws (k / 64) 0) (get_or vs (k / 64) 0) (k % 64) (fits (k / 64)) (omega arith)
  | inr l ↦ (let a : get_or us (k / 64) 0 ≡ 0 = get_or_past us (k / 64) 0 (omega arith) in
      let b : get_or ws (k / 64) 0 ≡ 0 = get_or_past ws (k / 64) 0 l in
      rw (a, b, has_bit-zero (k % 64)) refl)
]

-- words that are all 0
pub is_set_at-replicate : (n k : ℕ) → is_set_at (replicate {A = ℕ} n 0) k ≡ false
unfolding is_set_at
is_set_at-replicate n k = ap (λ (m : ℕ). has_bit m (k % 64)) (zeros n (k / 64)) ∙ has_bit-zero (k % 64)
  where
    zeros : (n k : ℕ) → get_or (replicate {A = ℕ} n 0) k 0 ≡ 0
    zeros zero k = refl
    zeros (suc n) zero = refl
    zeros (suc n) (suc k) = zeros n k

none_on : (f : ℕ → Bool) → ((k : ℕ) → f k ≡ false) → (a n : ℕ) → map f (range_with_len a n) ≡ replicate n false
none_on f none a zero = refl
none_on f none a (suc n) = rw (none a, none_on f none (a + 1) n) refl

pub kept_by-replicate : (m n : ℕ) → kept_by (replicate {A = ℕ} m 0) n ≡ replicate n false
kept_by-replicate m n = none_on (is_set_at (replicate {A = ℕ} m 0)) (is_set_at-replicate m) 0 n

zip_on : (f g h : ℕ → Bool) (op : Bool → Bool → Bool) → ((k : ℕ) → h k ≡ op (f k) (g k)) → (a n : ℕ) → map h (range_with_len a n) ≡ map (λ (p : Bool × Bool). op p.0 p.1) (zip (map f (range_with_len a n)) (map g (range_with_len a n)))
zip_on f g h op each a zero = refl
zip_on f g h op each a (suc n) = rw (each a, zip_on f g h op each (a + 1) n) refl

pub kept_by-or : (ws vs us : List ℕ) (n : ℕ) → ((k : ℕ) → is_set_at us k ≡ is_set_at ws k || is_set_at vs k) → kept_by us n ≡ map (λ (p : Bool × Bool). p.0 || p.1) (zip (kept_by ws n) (kept_by vs n))
kept_by-or ws vs us n each = zip_on (is_set_at ws) (is_set_at vs) (is_set_at us) (λ a b. a || b) each 0 n

pub kept_by-and_not : (ws vs us : List ℕ) (n : ℕ) → ((k : ℕ) → is_set_at us k ≡ is_set_at ws k && not (is_set_at vs k)) → kept_by us n ≡ map (λ (p : Bool × Bool). p.0 && not p.1) (zip (kept_by ws n) (kept_by vs n))
kept_by-and_not ws vs us n each = zip_on (is_set_at ws) (is_set_at vs) (is_set_at us) (λ a b. a && not b) each 0 n

pub length-kept_by : (ws : List ℕ) (n : ℕ) → length (kept_by ws n) ≡ n
length-kept_by ws n = length-map-range_with_len (is_set_at ws) 0 n

pub get_or-kept_by : (ws : List ℕ) (n i : ℕ) (d : Bool) → i < n → get_or (kept_by ws n) i d ≡ is_set_at ws i
get_or-kept_by ws n i d l = get_or-map-range_with_len (is_set_at ws) 0 n i i d l (omega arith)

pub kept_by-set : (ws us : List ℕ) (n i : ℕ) → i < n → ((k : ℕ) → is_set_at us k ≡ cond (eqb k i) true (is_set_at ws k)) → kept_by us n ≡ set (kept_by ws n) i true
kept_by-set ws us n i l each =
    let lu : length (kept_by us n) ≡ n = length-kept_by us n in
    let lw : length (kept_by ws n) ≡ n = length-kept_by ws n in
    let ls : length (set (kept_by ws n) i true) ≡ length (kept_by ws n) = length-set (kept_by ws n) i true in
    same_lists (kept_by us n) (set (kept_by ws n) i true) (omega arith) (λ k d m.
    get_or-kept_by us n k d (omega arith) ∙ each k ∙ elim (cases_eq k i) [
      | inl same ↦ (let t : eqb k i ≡ true = grind (arith, nat_tests) in rw t (sym (rw same (get_or-set_same (kept_by ws n) i true d (omega arith)))))
      | inr other ↦ (let t : eqb k i ≡ false = grind (arith, nat_tests) in rw t (sym (get_or-set_other (kept_by ws n) i k true d other ∙ get_or-kept_by ws n k d (omega arith))))
    ])

-- words of another content that set nothing past the end
pub Keeps-changed : (ws us : List ℕ) (n : ℕ) → Keeps ws n → length us ≡ length ws → ((k : ℕ) → n ≤ k → is_set_at us k ≡ false) → Keeps us n
Keeps-changed ws us n keeps e clear = record { small = keeps.small; enough = rw e keeps.enough; tight = rw e keeps.tight; clear = clear }

-- two lists of one length are kept in as many words
pub Keeps-same_length : (ws vs : List ℕ) (n m : ℕ) → Keeps ws n → Keeps vs m → n ≡ m → length ws ≡ length vs
Keeps-same_length ws vs n m a b e = (let p = a.enough in let q = a.tight in let r = b.enough in let s = b.tight in omega arith)
