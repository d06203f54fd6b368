-- The number that bytes are, and the bytes of a number.
use Rattle.std.proofs.Common.{◌≡◌, ℕ, zero, suc, ◌+◌, ◌-◌, ◌*◌, ◌/◌, ◌%◌, ◌^◌, ◌<◌, ◌≤◌, List, [], ◌∷◌, ◌++◌, length, get_or, take, drop, slice_index, sym, ap, refl, ◌∙◌, subst, arith, rules}
use Rattle.std.specs.Int.{byte_at, bytes_low_first}
use Rattle.std.proofs.Math.Nat.{pow-suc, pow-succ', div-div-eq-div-mul, div-one, mul_comm, mul_assoc, mul_left_comm, one-le-pow, zero-div}
use Rattle.std.proofs.lemmas.List.{length-take-le, take-append-drop}
use Rattle.byteorder.specs.Endian.{little_from, little_number, little_bytes}
use Rattle.byteorder.specs.Numbers.{little_from-cons}
use Rattle.s2_colbytes.specs.Numbers.{IsBytes, number_of, bytes_of}

pub IsBytes-tail : (b : ℕ) (bs : List ℕ) → IsBytes (b ∷ bs) → IsBytes bs
IsBytes-tail b bs h i = h (suc i)

pub IsBytes-drop : (k : ℕ) (bs : List ℕ) → IsBytes bs → IsBytes (drop k bs)
IsBytes-drop zero bs h = h
IsBytes-drop (suc k) [] h = h
IsBytes-drop (suc k) (b ∷ bs) h = IsBytes-drop k bs (IsBytes-tail b bs h)

pub IsBytes-take : (k : ℕ) (bs : List ℕ) → IsBytes bs → IsBytes (take k bs)
IsBytes-take zero bs h i = omega arith
IsBytes-take (suc k) [] h i = h i
IsBytes-take (suc k) (b ∷ bs) h zero = h 0
IsBytes-take (suc k) (b ∷ bs) h (suc i) = IsBytes-take k bs (IsBytes-tail b bs h) i

-- bytes from place j upward are those of the number without its lower bytes
low_first : (k j x : ℕ) → bytes_low_first j k x ≡ bytes_of k (x / 256 ^ j)
low_first zero j x = refl
low_first (suc k) j x =
    let next : x / 256 ^ suc j ≡ x / 256 ^ j / 256 = ap (λ (p : ℕ). x / p) (pow-suc 256 j) ∙ sym (div-div-eq-div-mul x (256 ^ j) 256) in
    let first : byte_at j x ≡ x / 256 ^ j % 256 = at j x in
    rw (first, low_first k (suc j) x, next) refl
  where
    at : (j x : ℕ) → byte_at j x ≡ x / 256 ^ j % 256
    at zero x = ap (λ (y : ℕ). y % 256) (sym (div-one x))
    at (suc j) x = refl

pub little_bytes-is : (n x : ℕ) → little_bytes n x ≡ bytes_of n x
little_bytes-is n x = low_first n 0 x ∙ ap (bytes_of n) (div-one x)

pub little_number-is : (n : ℕ) (bs : List ℕ) → n ≤ length bs → little_number n bs ≡ number_of (take n bs)
little_number-is zero bs l = refl
little_number-is (suc n) [] l = absurd (omega arith)
little_number-is (suc n) (b ∷ bs) l =
    ap (λ (r : ℕ). b + 256 * r) (little_from-cons 0 n b bs ∙ little_number-is n bs (omega arith))

pub length-bytes_of : (n x : ℕ) → length (bytes_of n x) ≡ n
length-bytes_of zero x = refl
length-bytes_of (suc n) x = ap suc (length-bytes_of n (x / 256))

pub IsBytes-bytes_of : (n x : ℕ) → IsBytes (bytes_of n x)
IsBytes-bytes_of zero x i = omega arith
IsBytes-bytes_of (suc n) x zero = omega arith
IsBytes-bytes_of (suc n) x (suc i) = IsBytes-bytes_of n (x / 256) i

pub number_of-bytes_of : (n x : ℕ) → x < 256 ^ n → number_of (bytes_of n x) ≡ x
number_of-bytes_of zero x l = omega arith
number_of-bytes_of (suc n) x l =
    let e = pow-suc 256 n in
    let s : x / 256 < 256 ^ n = omega arith in
    let r = number_of-bytes_of n (x / 256) s in
    omega arith

pub bytes_of-number_of : (bs : List ℕ) → IsBytes bs → bytes_of (length bs) (number_of bs) ≡ bs
bytes_of-number_of [] h = refl
bytes_of-number_of (b ∷ bs) h =
    let first : b < 256 = h 0 in
    let low : (b + 256 * number_of bs) % 256 ≡ b = omega arith in
    let high : (b + 256 * number_of bs) / 256 ≡ number_of bs = omega arith in
    rw (low, high, bytes_of-number_of bs (IsBytes-tail b bs h)) refl

pub number_of-lt : (bs : List ℕ) → IsBytes bs → number_of bs < 256 ^ length bs
number_of-lt [] h = omega arith
number_of-lt (b ∷ bs) h =
    let e = pow-suc 256 (length bs) in
    let first : b < 256 = h 0 in
    let r = number_of-lt bs (IsBytes-tail b bs h) in
    omega arith

pub number_of-drop : (k : ℕ) (bs : List ℕ) → IsBytes bs → number_of (drop k bs) ≡ number_of bs / 256 ^ k
number_of-drop zero bs h = sym (div-one (number_of bs))
number_of-drop (suc k) [] h = sym (zero-div (256 ^ suc k))
number_of-drop (suc k) (b ∷ bs) h =
    let first : b < 256 = h 0 in
    let high : (b + 256 * number_of bs) / 256 ≡ number_of bs = omega arith in
    number_of-drop k bs (IsBytes-tail b bs h) ∙ ap (λ (x : ℕ). x / 256 ^ k) (sym high)
    ∙ div-div-eq-div-mul (b + 256 * number_of bs) 256 (256 ^ k) ∙ ap (λ (p : ℕ). (b + 256 * number_of bs) / p) (mul_comm 256 (256 ^ k) ∙ sym (pow-suc 256 k))

pub number_of-append : (xs ys : List ℕ) → number_of (xs ++ ys) ≡ number_of xs + 256 ^ length xs * number_of ys
number_of-append [] ys = omega arith
number_of-append (x ∷ xs) ys = rw (number_of-append xs ys, pow-suc 256 (length xs)) (omega arith)

pub number_of-split : (k : ℕ) (bs : List ℕ) → k ≤ length bs → number_of bs ≡ number_of (take k bs) + 256 ^ k * number_of (drop k bs)
number_of-split k bs l =
    let len : length (take k bs) ≡ k = length-take-le k bs l in
    ap number_of (sym (take-append-drop k bs)) ∙ number_of-append (take k bs) (drop k bs) ∙ ap (λ (n : ℕ). number_of (take k bs) + 256 ^ n * number_of (drop k bs)) len

-- the bytes of the number that the first n bytes are
pub little_bytes-little_number : (n : ℕ) (bs : List ℕ) → IsBytes bs → n ≤ length bs → little_bytes n (little_number n bs) ≡ take n bs
little_bytes-little_number n bs h l =
    let len : length (take n bs) ≡ n = length-take-le n bs l in
    ap (little_bytes n) (little_number-is n bs l) ∙ little_bytes-is n (number_of (take n bs)) ∙ ap (λ (k : ℕ). bytes_of k (number_of (take n bs))) (sym len) ∙ bytes_of-number_of (take n bs) (IsBytes-take n bs h)
