-- Fields that are packed one after the other.
use Rattle.std.proofs.Common.{◌≡◌, ℕ, zero, suc, ◌+◌, ◌-◌, ◌*◌, ◌/◌, ◌%◌, ◌^◌, ◌<◌, ◌≤◌, ℤ, pos, List, [], ◌∷◌, ◌++◌, length, get_or, take, sym, ap, refl, ◌∙◌, inl, inr, arith, rules}
use Rattle.std.proofs.Math.Nat.{pow-suc, mul_assoc, mul_comm, div-div-eq-div-mul, div-lt_iff_lt-mul, div-add-mod', add-mul-div_left, mul-suc, mul-le-mul_left, add_comm}
use Rattle.std.proofs.lemmas.Nat.{pow-add, pow_pos}
use Rattle.std.proofs.lemmas.List.{append_assoc, length-append}
use Rattle.byteorder.proofs.Bytes.{pow256}
use Rattle.s2_colbytes.specs.Numbers.{bytes_of}
use Rattle.std.specs.Prelude.{bit_and}
use Rattle.std.proofs.lemmas.Nat.{and_mask, leading_length}
use Rattle.std.proofs.lemmas.List.{take_more, length-map, map-append}
use Rattle.std.proofs.lemmas.Bool.{cases_lt}
use Rattle.std.proofs.Math.Nat.{pow-le-pow_right}
use Rattle.std.proofs.Math.Seq.{take-append_seam}
use Rattle.byteorder.specs.Endian.{little_bytes}
use Rattle.s2_colbytes.proofs.Bytes.{little_bytes-is, length-bytes_of}
use Rattle.s2_colplain.specs.Packed.{pack, packed_len, rank, distances, least_rank, greatest_rank, digits}

-- the lower bytes, then the upper ones
pub bytes_of-add : (a b x : ℕ) → bytes_of (a + b) x ≡ bytes_of a x ++ bytes_of b (x / 256 ^ a)
bytes_of-add zero b x = let e : 0 + b ≡ b = omega arith in let f : x / 256 ^ 0 ≡ x = omega arith in rw (e, f) refl
bytes_of-add (suc a) b x =
    let e : suc a + b ≡ suc (a + b) = omega arith in
    let f : x / 256 / 256 ^ a ≡ x / 256 ^ suc a = div-div-eq-div-mul x 256 (256 ^ a) ∙ ap (λ (p : ℕ). x / p) (mul_comm 256 (256 ^ a) ∙ sym (pow-suc 256 a)) in
    ap (λ (k : ℕ). bytes_of k x) e ∙ ap (λ (bs : List ℕ). x % 256 ∷ bs) (bytes_of-add a b (x / 256) ∙ ap (λ (y : ℕ). bytes_of a (x / 256) ++ bytes_of b y) f)

-- what is above the bytes doesn't matter
pub bytes_of-high : (a x y : ℕ) → bytes_of a (x + 256 ^ a * y) ≡ bytes_of a x
bytes_of-high zero x y = refl
bytes_of-high (suc a) x y =
    let e : 256 ^ suc a * y ≡ 256 * (256 ^ a * y) = ap (λ (p : ℕ). p * y) (pow-suc 256 a ∙ mul_comm (256 ^ a) 256) ∙ mul_assoc 256 (256 ^ a) y in
    let low : (x + 256 ^ suc a * y) % 256 ≡ x % 256 = omega arith in
    let high : (x + 256 ^ suc a * y) / 256 ≡ x / 256 + 256 ^ a * y = omega arith in
    rw (low, high) (ap (λ (bs : List ℕ). x % 256 ∷ bs) (bytes_of-high a (x / 256) y))

pub bytes_of-mod : (a x : ℕ) → bytes_of a (x % 256 ^ a) ≡ bytes_of a x
bytes_of-mod a x =
    let e : x ≡ x % 256 ^ a + 256 ^ a * (x / 256 ^ a) = sym (add_comm (x % 256 ^ a) (256 ^ a * (x / 256 ^ a)) ∙ ap (λ (n : ℕ). n + x % 256 ^ a) (mul_comm (256 ^ a) (x / 256 ^ a)) ∙ div-add-mod' x (256 ^ a)) in
    sym (ap (bytes_of a) e ∙ bytes_of-high a (x % 256 ^ a) (x / 256 ^ a))

-- one more field
pub pack-more : (w : ℕ) (fs : List ℕ) (f : ℕ) → pack w (fs ++ f ∷ []) ≡ pack w fs + 2 ^ (w * length fs) * f
pack-more w [] f = let z : w * 0 ≡ 0 = omega arith in rw z (omega arith)
pack-more w (g ∷ fs) f =
    let e : w * suc (length fs) ≡ w + w * length fs = mul-suc w (length fs) ∙ add_comm (w * length fs) w in
    rw (pack-more w fs f, e, pow-add 2 w (w * length fs)) (omega arith)

-- fields so far: the whole words of 64 bits are written, the bits above them wait
pub record Packing (w : ℕ) (fs old out : List ℕ) (acc filled m : ℕ) : Type 0 where
  pub place : 64 * m + filled ≡ w * length fs
  pub below : filled < 64
  pub written : out ≡ old ++ bytes_of (8 * m) (pack w fs)
  pub waits : acc ≡ pack w fs / 256 ^ (8 * m)
  pub small : acc < 2 ^ filled

pub packing_none : (w : ℕ) (old : List ℕ) → Packing w [] old old 0 0 0
packing_none w old = record { place = omega arith; below = omega arith; written = sym (search rules); waits = omega arith; small = omega arith }

-- the fields with one more, above those before it
next_pack : (w : ℕ) (fs : List ℕ) (f filled m : ℕ) → 64 * m + filled ≡ w * length fs → pack w (fs ++ f ∷ []) ≡ pack w fs + 256 ^ (8 * m) * (2 ^ filled * f)
next_pack w fs f filled m e =
    let eights : 8 * (8 * m) ≡ 64 * m = omega arith in
    let p : 2 ^ (w * length fs) ≡ 256 ^ (8 * m) * 2 ^ filled =
    ap (λ (n : ℕ). 2 ^ n) (sym e) ∙ pow-add 2 (64 * m) filled ∙ ap (λ (n : ℕ). 2 ^ n * 2 ^ filled) (sym eights) ∙ ap (λ (n : ℕ). n * 2 ^ filled) (sym (pow256 (8 * m))) in
    pack-more w fs f ∙ ap (λ (n : ℕ). pack w fs + n * f) p ∙ ap (λ (n : ℕ). pack w fs + n) (mul_assoc (256 ^ (8 * m)) (2 ^ filled) f)

pow256_pos : (k : ℕ) → 0 < 256 ^ k
pow256_pos k = rw (pow256 k) (pow_pos (8 * k))

next_waits : (p q y acc : ℕ) → 0 < q → acc ≡ p / q → acc + y ≡ (p + q * y) / q
next_waits p q y acc above e = rw e (sym (add-mul-div_left p y above))

-- the new field above the bits that wait
stacked : (acc f filled w : ℕ) → acc < 2 ^ filled → f < 2 ^ w → acc + f * 2 ^ filled < 2 ^ (filled + w)
stacked acc f filled w l h =
    let e : 2 ^ (filled + w) ≡ 2 ^ filled * 2 ^ w = pow-add 2 filled w in
    let more : 2 ^ filled * (f + 1) ≤ 2 ^ filled * 2 ^ w = mul-le-mul_left (2 ^ filled) (omega arith) in
    let g : 2 ^ filled * (f + 1) ≡ f * 2 ^ filled + 2 ^ filled = omega arith in
    omega arith

last_length : (w : ℕ) (fs : List ℕ) (f : ℕ) → w * length (fs ++ f ∷ []) ≡ w * length fs + w
last_length w fs f = ap (λ (n : ℕ). w * n) (length-append fs (f ∷ [])) ∙ (let e : w * (length fs + 1) ≡ w * length fs + w = omega arith in e)

-- one more field, which leaves the words as they are
pub packing_waits : (w : ℕ) (fs old out : List ℕ) (acc filled m f : ℕ) → Packing w fs old out acc filled m → f < 2 ^ w → filled + w < 64 → Packing w (fs ++ f ∷ []) old out (acc + f * 2 ^ filled) (filled + w) m
packing_waits w fs old out acc filled m f p l few =
    let next = next_pack w fs f filled m p.place in
    let swap : f * 2 ^ filled ≡ 2 ^ filled * f = mul_comm f (2 ^ filled) in
    record {
      place = (let a = p.place in let b = last_length w fs f in omega arith);
      below = few;
      written = p.written ∙ ap (λ (bs : List ℕ). old ++ bs) (sym (ap (bytes_of (8 * m)) next ∙ bytes_of-high (8 * m) (pack w fs) (2 ^ filled * f)));
      waits = ap (λ (n : ℕ). acc + n) swap ∙ next_waits (pack w fs) (256 ^ (8 * m)) (2 ^ filled * f) acc (pow256_pos (8 * m)) p.waits ∙ ap (λ (n : ℕ). n / 256 ^ (8 * m)) (sym next);
      small = stacked acc f filled w p.small l;
    }

-- one more field, with which a word is whole
pub packing_flushes : (w : ℕ) (fs old out : List ℕ) (acc filled m f : ℕ) → Packing w fs old out acc filled m → f < 2 ^ w → w ≤ 63 → 64 ≤ filled + w → Packing w (fs ++ f ∷ []) old (out ++ bytes_of 8 (acc + f * 2 ^ filled)) ((acc + f * 2 ^ filled) / 2 ^ 64) (filled + w - 64) (m + 1)
packing_flushes w fs old out acc filled m f p l narrow many =
    let next = next_pack w fs f filled m p.place in
    let swap : f * 2 ^ filled ≡ 2 ^ filled * f = mul_comm f (2 ^ filled) in
    let sum : acc + f * 2 ^ filled ≡ pack w (fs ++ f ∷ []) / 256 ^ (8 * m) = ap (λ (n : ℕ). acc + n) swap ∙ next_waits (pack w fs) (256 ^ (8 * m)) (2 ^ filled * f) acc (pow256_pos (8 * m)) p.waits ∙ ap (λ (n : ℕ). n / 256 ^ (8 * m)) (sym next) in
    let eight : 8 * (m + 1) ≡ 8 * m + 8 = omega arith in
    let q : 256 ^ (8 * m) * 256 ^ 8 ≡ 256 ^ (8 * (m + 1)) = sym (ap (λ (n : ℕ). 256 ^ n) eight ∙ pow-add 256 (8 * m) 8) in
    let top : acc + f * 2 ^ filled < 2 ^ (filled + w - 64) * 2 ^ 64 = (let e : filled + w ≡ filled + w - 64 + 64 = omega arith in rw (← pow-add 2 (filled + w - 64) 64, ← e) (stacked acc f filled w p.small l)) in
    record {
      place = (let a = p.place in let b = last_length w fs f in omega arith);
      below = (let a = p.below in omega arith);
      written = ap (λ (bs : List ℕ). bs ++ bytes_of 8 (acc + f * 2 ^ filled)) p.written ∙ append_assoc old (bytes_of (8 * m) (pack w fs)) (bytes_of 8 (acc + f * 2 ^ filled))
          ∙ ap (λ (bs : List ℕ). old ++ (bs ++ bytes_of 8 (acc + f * 2 ^ filled))) (sym (ap (bytes_of (8 * m)) next ∙ bytes_of-high (8 * m) (pack w fs) (2 ^ filled * f)))
          ∙ ap (λ (n : ℕ). old ++ (bytes_of (8 * m) (pack w (fs ++ f ∷ [])) ++ bytes_of 8 n)) sum
          ∙ ap (λ (bs : List ℕ). old ++ bs) (sym (ap (λ (n : ℕ). bytes_of n (pack w (fs ++ f ∷ []))) eight ∙ bytes_of-add (8 * m) 8 (pack w (fs ++ f ∷ []))));
      waits = ap (λ (n : ℕ). n / 2 ^ 64) sum ∙ div-div-eq-div-mul (pack w (fs ++ f ∷ [])) (256 ^ (8 * m)) (256 ^ 8) ∙ ap (λ (n : ℕ). pack w (fs ++ f ∷ []) / n) q;
      small = (div-lt_iff_lt-mul (pow_pos 64)).1 top;
    }

-- the last bytes
pub packing_ends : (w : ℕ) (fs old out : List ℕ) (acc filled m : ℕ) → Packing w fs old out acc filled m → out ++ bytes_of ((filled + 7) / 8) acc ≡ old ++ bytes_of (packed_len w (length fs)) (pack w fs)
packing_ends w fs old out acc filled m p =
    let place = p.place in
    let c : length fs * w ≡ 64 * m + filled = mul_comm (length fs) w ∙ sym place in
    let e : 8 * m + (filled + 7) / 8 ≡ packed_len w (length fs) = omega arith in
    ap (λ (bs : List ℕ). bs ++ bytes_of ((filled + 7) / 8) acc) p.written ∙ append_assoc old (bytes_of (8 * m) (pack w fs)) (bytes_of ((filled + 7) / 8) acc)
    ∙ ap (λ (n : ℕ). old ++ (bytes_of (8 * m) (pack w fs) ++ bytes_of ((filled + 7) / 8) n)) p.waits
    ∙ ap (λ (bs : List ℕ). old ++ bs) (sym (bytes_of-add (8 * m) ((filled + 7) / 8) (pack w fs)) ∙ ap (λ (n : ℕ). bytes_of n (pack w fs)) e)

-- the lowest word's bytes, as they are computed
pub low_word : (x low : ℕ) → low ≡ bit_and x 18446744073709551615 → little_bytes 8 low ≡ bytes_of 8 x
low_word x low e = ap (little_bytes 8) (e ∙ and_mask x 64) ∙ little_bytes-is 8 (x % 2 ^ 64) ∙ bytes_of-mod 8 x

-- its first bytes
pub low_bytes : (k x : ℕ) → k ≤ 8 → take k (bytes_of 8 x) ≡ bytes_of k x
low_bytes k x l =
    let e : 8 ≡ k + (8 - k) = omega arith in
    let len : length (bytes_of k x) ≡ k = length-bytes_of k x in
    ap (λ (n : ℕ). take k (bytes_of n x)) e ∙ ap (take k) (bytes_of-add k (8 - k) x) ∙ ap (λ (n : ℕ). take n (bytes_of k x ++ bytes_of (8 - k) (x / 256 ^ k))) (sym len) ∙ take-append_seam (bytes_of k x) (bytes_of (8 - k) (x / 256 ^ k))

-- the distances of one more number
pub distances-more : (base : ℕ) (xs : List ℤ) (i : ℕ) → i < length xs → distances base (take (i + 1) xs) ≡ distances base (take i xs) ++ (rank (get_or xs i (pos 0)) - base) ∷ []
distances-more base xs i l = ap (distances base) (take_more xs i (pos 0) l) ∙ map-append (λ x. rank x - base) (take i xs) (get_or xs i (pos 0) ∷ [])

pub length-distances : (base : ℕ) (xs : List ℤ) → length (distances base xs) ≡ length xs
length-distances base xs = length-map xs (λ x. rank x - base)

-- no number is below the least nor above the greatest
pub least_below : (xs : List ℤ) (i : ℕ) → i < length xs → least_rank xs ≤ rank (get_or xs i (pos 0))
least_below [] i l = absurd (omega arith)
least_below (x ∷ xs) zero l = omega arith
least_below (x ∷ xs) (suc i) l = let r = least_below xs i (omega arith) in omega arith

pub greatest_above : (xs : List ℤ) (i : ℕ) → i < length xs → rank (get_or xs i (pos 0)) ≤ greatest_rank xs
greatest_above [] i l = absurd (omega arith)
greatest_above (x ∷ xs) zero l = omega arith
greatest_above (x ∷ xs) (suc i) l = let r = greatest_above xs i (omega arith) in omega arith

-- a number has as many digits as it needs
pub record HasDigits (n : ℕ) : Type 0 where
  pub few : digits n ≤ 63
  pub fit : n < 2 ^ digits n

pub digits_fit : (n : ℕ) → n < 2 ^ 63 → HasDigits n
digits_fit n l =
    let all = leading_length 64 n (omega arith) in
    let same : digits n ≡ all.0 = omega (arith, all.1) in
    let narrow : all.0 ≤ 63 = elim (cases_lt 63 all.0) [
      | inl more ↦ (let big : 2 ^ 64 ≤ 2 ^ all.0 = pow-le-pow_right {n = 2} (omega arith) more in absurd (omega (arith, all.3)))
      | inr few ↦ few
    ] in
    record { few = omega arith; fit = rw same all.2 }
