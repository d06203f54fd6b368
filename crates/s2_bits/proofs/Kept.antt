-- Truth values kept in words of 64 bits.
use Rattle.std.proofs.Common.{◌≡◌, ◌≢◌, ℕ, zero, suc, ◌+◌, ◌-◌, ◌*◌, ◌/◌, ◌%◌, ◌^◌, ◌<◌, ◌≤◌, Bool, true, false, not, ◌&&◌, ◌||◌, cond, eqb, min, max, List, [], ◌∷◌, ◌++◌, length, get_or, filter, map, count_by, sym, ap, refl, ◌∙◌, arith}
use Rattle.std.specs.Prelude.{slice_index_or, bit_and, bit_or}
use Rattle.std.specs.List.{range_with_len, sum_by}
use Rattle.std.specs.Int.{bit_at, bit_not, trailing_zeros, w64}
use mir.Val.{bits}
use lib.Count.{ones, ones_in}
use Rattle.std.proofs.Common.{take, length-append}
use Rattle.std.proofs.lemmas.List.Elements.{filter-append}
use Rattle.std.proofs.lemmas.List.Sums.{length-filter, sum_by_more}
use Rattle.std.proofs.lemmas.Nat.{ones_cat, and_le_l}
use Rattle.std.proofs.lemmas.Nat.Bits.{bit_at_and, bit_at_or, bit_at_not, bit_at-suc, bit_at_lowest, bit_at-lt, bit_at-trailing_zeros, bit_at_clear_same, bit_at_clear_other, bit_at-zero}
use Rattle.std.proofs.Math.Nat.{pow-suc}
use Rattle.s2_bits.specs.Bits.{has_bit, is_set_at, kept_by, Keeps, places_in, places_of}
use Rattle.std.proofs.Math.Seq.{take-length}
use Rattle.std.proofs.lemmas.List.FromFn.{length-map-range_with_len, get_or-map-range_with_len}
use Rattle.s2_bits.proofs.Ranges.{range_with_len-add, filter-same_on, filter-none_on, filter-first_on, filter-short}

-- the tests of bits that are minima, maxima and differences of bits
has_bit_cases : (m n : ℕ) → m < 2 → n < 2 → (eqb (max m n) 1 ≡ eqb m 1 || eqb n 1) × (eqb (min m n) 1 ≡ eqb m 1 && eqb n 1) × (eqb (min m (1 - n)) 1 ≡ eqb m 1 && not (eqb n 1))
has_bit_cases zero zero p q = (refl, refl, refl)
has_bit_cases zero (suc zero) p q = (refl, refl, refl)
has_bit_cases (suc zero) zero p q = (refl, refl, refl)
has_bit_cases (suc zero) (suc zero) p q = (refl, refl, refl)
has_bit_cases (suc (suc m)) n p q = absurd (omega arith)
has_bit_cases m (suc (suc n)) p q = absurd (omega arith)

pub has_bit-or : (a b i : ℕ) → has_bit (bit_or a b) i ≡ has_bit a i || has_bit b i
has_bit-or a b i = ap (λ (n : ℕ). eqb n 1) (bit_at_or a b i) ∙ (has_bit_cases (bit_at a i) (bit_at b i) (bit_at-lt a i) (bit_at-lt b i)).0

pub has_bit-and_not : (a b i : ℕ) → b < 2 ^ 64 → i < 64 → has_bit (bit_and a (bit_not w64 b)) i ≡ has_bit a i && not (has_bit b i)
has_bit-and_not a b i fits within = ap (λ (n : ℕ). eqb n 1) (bit_at_and a (bit_not w64 b) i ∙ ap (λ (n : ℕ). min (bit_at a i) n) (bit_at_not w64 b i fits within)) ∙ (has_bit_cases (bit_at a i) (bit_at b i) (bit_at-lt a i) (bit_at-lt b i)).2

-- how many bits are set, counted place by place
length_kept : (b : Bool) (x : ℕ) (xs : List ℕ) → length (cond b (x ∷ xs) xs) ≡ cond b 1 0 + length xs
length_kept true x xs = omega arith
length_kept false x xs = omega arith

one_or_none : (m : ℕ) → m < 2 → cond (eqb m 1) 1 0 ≡ m
one_or_none zero p = refl
one_or_none (suc zero) p = refl
one_or_none (suc (suc m)) p = absurd (omega arith)

ones_below_two : (m : ℕ) → m < 2 → ones m ≡ m
unfolding ones ones_in
ones_below_two zero p = refl
ones_below_two (suc zero) p = refl
ones_below_two (suc (suc m)) p = absurd (omega arith)

ones_halves : (n : ℕ) → ones n ≡ n % 2 + ones (n / 2)
ones_halves n =
    let e : n ≡ n / 2 * 2 ^ 1 + n % 2 = omega arith in
    let l : n % 2 < 2 ^ 1 = omega arith in
    let b : n % 2 < 2 = omega arith in
    let o : ones (n % 2) ≡ n % 2 = ones_below_two (n % 2) b in
    let c : ones (n / 2 * 2 ^ 1 + n % 2) ≡ ones (n / 2) + ones (n % 2) = ones_cat 1 (n / 2) (n % 2) l in
    ap ones e ∙ (omega arith)

pub length-filter-bits : (p : ℕ → Bool) (k n a : ℕ) → n < 2 ^ k → ((i : ℕ) → i < k → p (a + i) ≡ has_bit n i) → length (filter p (range_with_len a k)) ≡ ones n
length-filter-bits p zero n a l h =
    let z : 0 ≡ n = omega arith in
    sym (ones_below_two 0 (omega arith)) ∙ ap ones z
length-filter-bits p (suc k) n a l h =
    let half : n / 2 < 2 ^ k = (let e = pow-suc 2 k in omega arith) in
    let e : a + 0 ≡ a = omega arith in
    let b : n % 2 < 2 = omega arith in
    let low : bit_at n 0 ≡ n % 2 = bit_at_lowest n in
    let here : p a ≡ eqb (n % 2) 1 = rw e at (h 0 (omega arith)) ∙ ap (λ (m : ℕ). eqb m 1) low in
    let later : length (filter p (range_with_len (a + 1) k)) ≡ ones (n / 2) = length-filter-bits p k (n / 2) (a + 1) half (λ i s. let f : a + suc i ≡ a + 1 + i = omega arith in rw f at (h (suc i) (omega arith)) ∙ ap (λ (m : ℕ). eqb m 1) (bit_at-suc n i)) in
    length_kept (p a) a (filter p (range_with_len (a + 1) k)) ∙ (let one : cond (p a) 1 0 ≡ n % 2 = ap (λ t. cond t 1 0) here ∙ one_or_none (n % 2) b in let whole : ones n ≡ n % 2 + ones (n / 2) = ones_halves n in omega arith)

-- place i of the words from some word on
word_place : (a i : ℕ) → i < 64 → ((64 * a + i) / 64 ≡ a) × ((64 * a + i) % 64 ≡ i)
word_place a i l = (omega arith, omega arith)

pub is_set_at-word : (ws : List ℕ) (a i : ℕ) → i < 64 → is_set_at ws (64 * a + i) ≡ has_bit (get_or ws a 0) i
unfolding is_set_at
is_set_at-word ws a i l = rw ((word_place a i l).0, (word_place a i l).1) refl

AllBelow : List ℕ → Type 0
AllBelow ws = (k : ℕ) → get_or ws k 0 < 2 ^ 64

-- the set places of the first words are as many as their bits that are set
count_front : (ws : List ℕ) → ((k : ℕ) → get_or ws k 0 < 2 ^ 64) → (m : ℕ) → m ≤ length ws → length (filter (is_set_at ws) (range_with_len 0 (64 * m))) ≡ sum_by ones (take m ws)
count_front ws fits zero l = let z : 64 * 0 ≡ 0 = omega arith in rw z refl
count_front ws fits (suc m) l =
    let e : 64 * suc m ≡ 64 * m + 64 = omega arith in
    let z : 0 + 64 * m ≡ 64 * m = omega arith in
    let front : length (filter (is_set_at ws) (range_with_len 0 (64 * m))) ≡ sum_by ones (take m ws) = count_front ws fits m (omega arith) in
    let word : length (filter (is_set_at ws) (range_with_len (64 * m) 64)) ≡ ones (get_or ws m 0) = length-filter-bits (is_set_at ws) 64 (get_or ws m 0) (64 * m) (fits m) (λ i s. is_set_at-word ws m i s) in
    let joined : filter (is_set_at ws) (range_with_len 0 (64 * m + 64)) ≡ filter (is_set_at ws) (range_with_len 0 (64 * m)) ++ filter (is_set_at ws) (range_with_len (64 * m) 64) = ap (filter (is_set_at ws)) (range_with_len-add 0 (64 * m) 64) ∙ filter-append (is_set_at ws) (range_with_len 0 (64 * m)) (range_with_len (0 + 64 * m) 64) ∙ rw z refl in
    let more : sum_by ones (take (m + 1) ws) ≡ sum_by ones (take m ws) + ones (get_or ws m 0) = sum_by_more ones ws m 0 (omega arith) in
    let one : m + 1 ≡ suc m = omega arith in
    let sums : sum_by ones (take (suc m) ws) ≡ sum_by ones (take m ws) + ones (get_or ws m 0) = rw one at more in
    ap (λ (k : ℕ). length (filter (is_set_at ws) (range_with_len 0 k))) e ∙ ap length joined ∙ length-append (filter (is_set_at ws) (range_with_len 0 (64 * m))) (filter (is_set_at ws) (range_with_len (64 * m) 64)) ∙ (omega arith)

-- the test of a value in a list made from the places
filter_map : (p : ℕ → Bool) (xs : List ℕ) → count_by (λ b. b) (map p xs) ≡ length (filter p xs)
filter_map p xs = sym (length-filter (λ b. b) (map p xs)) ∙ filtered p xs
  where
    filtered : (p : ℕ → Bool) (xs : List ℕ) → length (filter (λ b. b) (map p xs)) ≡ length (filter p xs)
    filtered p [] = refl
    filtered p (x ∷ xs) = elim (p x) as (λ b. length (cond b (b ∷ filter (λ c. c) (map p xs)) (filter (λ c. c) (map p xs))) ≡ length (cond b (x ∷ filter p xs) (filter p xs))) [ true ↦ ap suc (filtered p xs) | false ↦ filtered p xs ]

pub count_of_words : (ws : List ℕ) (n : ℕ) → ((k : ℕ) → get_or ws k 0 < 2 ^ 64) → Keeps ws n → sum_by ones ws ≡ count_by (λ b. b) (kept_by ws n)
count_of_words ws n fits keeps =
    ap (sum_by ones) (sym (take-length ws))
    ∙ sym (count_front ws fits (length ws) (omega arith))
    ∙ ap length (filter-short (is_set_at ws) n (64 * length ws) keeps.enough keeps.clear)
    ∙ sym (filter_map (is_set_at ws) (range_with_len 0 n))

-- the places of a word, from the lowest that is set
clear_at : (word k : ℕ) → k < 64 → has_bit (bit_and word (bit_not w64 (1 * 2 ^ k % 2 ^ bits w64))) k ≡ false
clear_at word k l = ap (λ (n : ℕ). eqb n 1) (bit_at_clear_same w64 word k l)

clear_other : (word k i : ℕ) → k < 64 → i < 64 → i ≢ k → has_bit (bit_and word (bit_not w64 (1 * 2 ^ k % 2 ^ bits w64))) i ≡ has_bit word i
clear_other word k i l m ne = ap (λ (n : ℕ). eqb n 1) (bit_at_clear_other w64 word k l i m ne)

first_of_two : (p q : ℕ → Bool) (a t w : ℕ) → t < w → ((i : ℕ) → i < t → p (a + i) ≡ false) → p (a + t) ≡ true → q (a + t) ≡ false → ((i : ℕ) → i < w → i ≢ t → q (a + i) ≡ p (a + i)) → filter p (range_with_len a w) ≡ (a + t) ∷ filter q (range_with_len a w)
first_of_two p q a t w l none here gone same =
    let e : w ≡ t + suc (w - (t + 1)) = omega arith in
    let later : filter p (range_with_len (a + t + 1) (w - (t + 1))) ≡ filter q (range_with_len (a + t + 1) (w - (t + 1))) =
    filter-same_on p q (a + t + 1) (w - (t + 1)) (λ i s. let f : a + t + 1 + i ≡ a + (t + 1 + i) = omega arith in rw f (sym (same (t + 1 + i) (omega arith) (omega arith)))) in
    let rest : filter q (range_with_len a (t + suc (w - (t + 1)))) ≡ filter q (range_with_len (a + t + 1) (w - (t + 1))) =
    ap (filter q) (range_with_len-add a t (suc (w - (t + 1)))) ∙ filter-append q (range_with_len a t) (range_with_len (a + t) (suc (w - (t + 1))))
    ∙ ap (λ xs. xs ++ filter q (range_with_len (a + t) (suc (w - (t + 1))))) (filter-none_on q a t (λ i s. same i (omega arith) (omega arith) ∙ none i s)) ∙ rw gone refl in
    ap (λ (n : ℕ). filter p (range_with_len a n)) e ∙ filter-first_on p a t (w - (t + 1)) none here ∙ ap (λ xs. (a + t) ∷ xs) (later ∙ sym rest) ∙ ap (λ (n : ℕ). (a + t) ∷ filter q (range_with_len a n)) (sym e)

pub places_first : (base word : ℕ) → 0 < word → word < 2 ^ 64 → places_in base word ≡ (base + trailing_zeros w64 word) ∷ places_in base (bit_and word (bit_not w64 (1 * 2 ^ trailing_zeros w64 word % 2 ^ bits w64)))
unfolding places_in
places_first base word pos fits =
    let t = trailing_zeros w64 word in
    let found = bit_at-trailing_zeros w64 word pos fits in
    let at : (i : ℕ) → base + i - base ≡ i = λ i. omega arith in
    first_of_two (λ k. has_bit word (k - base)) (λ k. has_bit (bit_and word (bit_not w64 (1 * 2 ^ t % 2 ^ bits w64))) (k - base)) base t 64 found.0
    (λ i l. ap (has_bit word) (at i) ∙ ap (λ (n : ℕ). eqb n 1) (found.2 i l))
    (ap (has_bit word) (at t) ∙ ap (λ (n : ℕ). eqb n 1) found.1)
    (ap (has_bit (bit_and word (bit_not w64 (1 * 2 ^ t % 2 ^ bits w64)))) (at t) ∙ clear_at word t found.0)
    (λ i l ne. ap (has_bit (bit_and word (bit_not w64 (1 * 2 ^ t % 2 ^ bits w64)))) (at i) ∙ clear_other word t i found.0 l ne ∙ sym (ap (has_bit word) (at i)))

-- a word without its lowest bit that is set is less
pub rest_less : (word : ℕ) → 0 < word → word < 2 ^ 64 → bit_and word (bit_not w64 (1 * 2 ^ trailing_zeros w64 word % 2 ^ bits w64)) < word
rest_less word pos fits =
    let t = trailing_zeros w64 word in
    let found = bit_at-trailing_zeros w64 word pos fits in
    let le = and_le_l word (bit_not w64 (1 * 2 ^ t % 2 ^ bits w64)) in
    let ne : bit_and word (bit_not w64 (1 * 2 ^ t % 2 ^ bits w64)) ≢ word = λ e. (let gone : bit_at (bit_and word (bit_not w64 (1 * 2 ^ t % 2 ^ bits w64))) t ≡ 0 = bit_at_clear_same w64 word t found.0 in let one : bit_at word t ≡ 0 = rw e at gone in omega (arith, found.1)) in
    omega arith

-- a word with no bit set has no places
pub places_none : (base : ℕ) → places_in base 0 ≡ []
unfolding places_in
places_none base = filter-none_on (λ k. has_bit 0 (k - base)) base 64 (λ i l. ap (λ (n : ℕ). eqb n 1) (bit_at-zero (base + i - base)))

-- the places of a word's bits, in the list of all words
pub places_of_word : (ws : List ℕ) (a : ℕ) → places_in (64 * a) (get_or ws a 0) ≡ filter (is_set_at ws) (range_with_len (64 * a) 64)
unfolding places_in
places_of_word ws a = filter-same_on (λ k. has_bit (get_or ws a 0) (k - 64 * a)) (is_set_at ws) (64 * a) 64 (λ i l. let e : 64 * a + i - 64 * a ≡ i = omega arith in ap (has_bit (get_or ws a 0)) e ∙ sym (is_set_at-word ws a i l))

pub places_more : (ws : List ℕ) (a : ℕ) → filter (is_set_at ws) (range_with_len 0 (64 * (a + 1))) ≡ filter (is_set_at ws) (range_with_len 0 (64 * a)) ++ places_in (64 * a) (get_or ws a 0)
places_more ws a =
    let e : 64 * (a + 1) ≡ 64 * a + 64 = omega arith in
    let z : 0 + 64 * a ≡ 64 * a = omega arith in
    ap (λ (k : ℕ). filter (is_set_at ws) (range_with_len 0 k)) e ∙ ap (filter (is_set_at ws)) (range_with_len-add 0 (64 * a) 64) ∙ filter-append (is_set_at ws) (range_with_len 0 (64 * a)) (range_with_len (0 + 64 * a) 64) ∙ rw z (ap (λ xs. filter (is_set_at ws) (range_with_len 0 (64 * a)) ++ xs) (sym (places_of_word ws a)))

-- the places of a list kept in words
pub places_of_kept : (ws : List ℕ) (n : ℕ) → Keeps ws n → filter (is_set_at ws) (range_with_len 0 (64 * length ws)) ≡ places_of (kept_by ws n)
places_of_kept ws n keeps =
    let len : length (kept_by ws n) ≡ n = length-map-range_with_len (is_set_at ws) 0 n in
    filter-short (is_set_at ws) n (64 * length ws) keeps.enough keeps.clear
    ∙ filter-same_on (is_set_at ws) (λ i. slice_index_or (kept_by ws n) i false) 0 n (λ i l. sym (get_or-map-range_with_len (is_set_at ws) 0 n (0 + i) (0 + i) false (omega arith) (omega arith)))
    ∙ ap (λ (k : ℕ). filter (λ i. slice_index_or (kept_by ws n) i false) (range_with_len 0 k)) (sym len)
