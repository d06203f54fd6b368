-- What is packed is unpacked.
use Rattle.std.proofs.Common.{◌≡◌, ℕ, ℤ, suc, ◌+◌, ◌-◌, ◌*◌, ◌/◌, ◌%◌, ◌^◌, ◌<◌, ◌≤◌, pos, ◌+ℤ◌, FitsSigned, false, List, [], ◌∷◌, length, map, sym, ap, refl, ◌∙◌, arith}
use Rattle.std.specs.Int.{w64}
use Rattle.std.specs.List.{list_any, AllByRecursion}
use Rattle.std.proofs.lemmas.Int.{ints}
use Rattle.std.proofs.lemmas.Nat.{pow-add, pow_pos, div-mul-add}
use Rattle.std.proofs.Math.Nat.{pow-le-pow_right, mul-suc, add_comm, mul_comm, div-div-eq-div-mul, add-mul-mod_self_left, mod-eq_of_lt, mul-le-mul_left}
use Rattle.byteorder.proofs.Bytes.{pow256}
use Rattle.s2_colbytes.specs.Numbers.{number_of, bytes_of}
use Rattle.s2_colbytes.proofs.Bytes.{number_of-bytes_of, length-bytes_of}
use Rattle.s2_colplain.specs.Packed.{field, unpacked, unpacked_from, packed_len, is_over, rank, of_rank, least_rank, greatest_rank, spread, digits, pack, distances, field_bytes}
use Rattle.s2_colplain.proofs.Waiting.{HasDigits, digits_fit, length-distances}

pack_below : (w : ℕ) (fs : List ℕ) → AllByRecursion (λ f. f < 2 ^ w) fs → pack w fs < 2 ^ (w * length fs)
pack_below w [] h = let z : w * 0 ≡ 0 = omega arith in rw z (omega arith)
pack_below w (f ∷ fs) h =
    let r = pack_below w fs h.1 in
    let e : w * suc (length fs) ≡ w + w * length fs = mul-suc w (length fs) ∙ add_comm (w * length fs) w in
    let first = h.0 in
    let p = pow-add 2 w (w * length fs) in
    let m : 2 ^ w * (pack w fs + 1) ≤ 2 ^ w * 2 ^ (w * length fs) = mul-le-mul_left (2 ^ w) (omega arith) in
    let d : 2 ^ w * (pack w fs + 1) ≡ 2 ^ w * pack w fs + 2 ^ w = omega arith in
    rw (e, p) (omega arith)

-- the number that the fields' bytes are
packed_number : (w : ℕ) (fs : List ℕ) → AllByRecursion (λ f. f < 2 ^ w) fs → number_of (bytes_of (packed_len w (length fs)) (pack w fs)) ≡ pack w fs
packed_number w fs h =
    let len = packed_len w (length fs) in
    let below = pack_below w fs h in
    let swap : length fs * w ≡ w * length fs = mul_comm (length fs) w in
    let room : w * length fs ≤ 8 * packed_len w (length fs) = omega arith in
    let more : 2 ^ (w * length fs) ≤ 2 ^ (8 * packed_len w (length fs)) = pow-le-pow_right {n = 2} (omega arith) room in
    let p = pow256 (packed_len w (length fs)) in
    number_of-bytes_of (packed_len w (length fs)) (pack w fs) (omega arith)

-- the fields from place k on
fields : (base : ℤ) (w : ℕ) (bits k : ℕ) (fs : List ℕ) → AllByRecursion (λ f. f < 2 ^ w) fs → bits / 2 ^ (w * k) ≡ pack w fs → unpacked_from base w bits k (length fs) ≡ map (λ f. base +ℤ pos f) fs
unfolding field
fields base w bits k [] h e = refl
fields base w bits k (f ∷ fs) h e =
    let above = pow_pos w in
    let first = h.0 in
    let one : (f + 2 ^ w * pack w fs) % 2 ^ w ≡ f = low f (2 ^ w) (pack w fs) first in
    let rest : (f + 2 ^ w * pack w fs) / 2 ^ w ≡ pack w fs = high f (2 ^ w) (pack w fs) first in
    let here : bits / 2 ^ (w * k) % 2 ^ w ≡ f = ap (λ (n : ℕ). n % 2 ^ w) e ∙ one in
    let step : w * k + w ≡ w * (k + 1) = omega arith in
    let next : bits / 2 ^ (w * (k + 1)) ≡ pack w fs =
    ap (λ (n : ℕ). bits / n) (ap (λ (n : ℕ). 2 ^ n) (sym step) ∙ pow-add 2 (w * k) w) ∙ sym (div-div-eq-div-mul bits (2 ^ (w * k)) (2 ^ w)) ∙ ap (λ (n : ℕ). n / 2 ^ w) e ∙ rest in
    cons_is (ap (λ (n : ℕ). base +ℤ pos n) here) (fields base w bits (k + 1) fs h.1 next)
  where
    low : (f p q : ℕ) → f < p → (f + p * q) % p ≡ f
    low f p q l = add-mul-mod_self_left f p q ∙ mod-eq_of_lt l

    high : (f p q : ℕ) → f < p → (f + p * q) / p ≡ q
    high f p q l = ap (λ (n : ℕ). n / p) (let e : f + p * q ≡ q * p + f = omega arith in e) ∙ div-mul-add q p f l

    cons_is : {a b : ℤ} {xs ys : List ℤ} → a ≡ b → xs ≡ ys → a ∷ xs ≡ b ∷ ys
    cons_is p q = cc

-- the base plus its distance
one_back : (least : ℕ) (x : ℤ) → FitsSigned w64 x → least ≤ rank x → of_rank least +ℤ pos (rank x - least) ≡ x
one_back least x p l = grind (arith, ints)

all_back : (least : ℕ) (xs : List ℤ) → AllByRecursion (FitsSigned w64) xs → least ≤ least_rank xs → map (λ f. of_rank least +ℤ pos f) (distances least xs) ≡ xs
all_back least [] h l = refl
all_back least (x ∷ xs) h l = cons_is (one_back least x h.0 (omega arith)) (all_back least xs h.1 (omega arith))
  where
    cons_is : {a b : ℤ} {xs ys : List ℤ} → a ≡ b → xs ≡ ys → a ∷ xs ≡ b ∷ ys
    cons_is p q = cc

fit : (least most : ℕ) (xs : List ℤ) → greatest_rank xs < least + most → 0 < most → AllByRecursion (λ f. f < most) (distances least xs)
fit least most [] l m = tt
fit least most (x ∷ xs) l m = (omega arith, fit least most xs (omega arith) m)

least_fits : (x : ℤ) (xs : List ℤ) → FitsSigned w64 x → least_rank (x ∷ xs) < 18446744073709551616
least_fits x xs p = let r : rank x < 18446744073709551616 = omega (arith, ints) in omega arith

of_rank_fits : (r : ℕ) → r < 18446744073709551616 → FitsSigned w64 (of_rank r)
of_rank_fits r l = omega (arith, ints)

none_over : (xs : List ℤ) → AllByRecursion (FitsSigned w64) xs → list_any is_over xs ≡ false
none_over [] h = refl
none_over (x ∷ xs) h = rw (one x h.0) (none_over xs h.1)
  where
    one : (x : ℤ) → FitsSigned w64 x → is_over x ≡ false
    one x p = grind (arith, ints)

-- the body of packed numbers, by its parts
pub record Packs (xs : List ℤ) : Type 0 where
  pub base : FitsSigned w64 (of_rank (least_rank xs))
  pub narrow : digits (spread xs) ≤ 63
  pub whole : length (field_bytes (least_rank xs) (digits (spread xs)) xs) ≡ packed_len (digits (spread xs)) (length xs)
  pub back : unpacked (of_rank (least_rank xs)) (digits (spread xs)) (length xs) (field_bytes (least_rank xs) (digits (spread xs)) xs) ≡ xs
  pub none : list_any is_over (unpacked (of_rank (least_rank xs)) (digits (spread xs)) (length xs) (field_bytes (least_rank xs) (digits (spread xs)) xs)) ≡ false

pub packs : (xs : List ℤ) → 0 < length xs → AllByRecursion (FitsSigned w64) xs → spread xs < 2 ^ 63 → Packs xs
packs [] l h s = absurd (omega arith)
packs (x ∷ xs) l h s =
    let all : List ℤ = x ∷ xs in
    let w : ℕ = digits (spread (x ∷ xs)) in
    let least : ℕ = least_rank (x ∷ xs) in
    let ds : List ℕ = distances least (x ∷ xs) in
    let has : HasDigits (spread (x ∷ xs)) = digits_fit (spread (x ∷ xs)) s in
    let enough = has.fit in
    let len : length ds ≡ length (x ∷ xs) = length-distances least (x ∷ xs) in
    let fs : AllByRecursion (λ f. f < 2 ^ w) ds = fit least (2 ^ w) (x ∷ xs) (omega arith) (pow_pos w) in
    let number : number_of (bytes_of (packed_len w (length ds)) (pack w ds)) ≡ pack w ds = packed_number w ds fs in
    let bits : number_of (bytes_of (packed_len w (length (x ∷ xs))) (pack w ds)) ≡ pack w ds = ap (λ (n : ℕ). number_of (bytes_of (packed_len w n) (pack w ds))) (sym len) ∙ number in
    let zero_place : pack w ds / 2 ^ (w * 0) ≡ pack w ds = (let z : w * 0 ≡ 0 = omega arith in rw z (omega arith)) in
    let back : unpacked (of_rank least) w (length (x ∷ xs)) (field_bytes least w (x ∷ xs)) ≡ x ∷ xs =
    ap (λ (n : ℕ). unpacked_from (of_rank least) w n 0 (length (x ∷ xs))) bits ∙ ap (λ (n : ℕ). unpacked_from (of_rank least) w (pack w ds) 0 n) (sym len) ∙ fields (of_rank least) w (pack w ds) 0 ds fs zero_place ∙ all_back least (x ∷ xs) h (omega arith) in
    record {
      base = of_rank_fits least (least_fits x xs h.0);
      narrow = has.few;
      whole = length-bytes_of (packed_len w (length (x ∷ xs))) (pack w ds);
      back = back;
      none = ap (list_any is_over) back ∙ none_over (x ∷ xs) h;
    }
