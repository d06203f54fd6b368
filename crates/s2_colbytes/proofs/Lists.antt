-- Numbers of a fixed width, one after the other.
use Rattle.std.proofs.Common.{◌≡◌, ℕ, zero, suc, ◌+◌, ◌-◌, ◌*◌, ◌/◌, ◌%◌, ◌^◌, ◌<◌, ◌≤◌, List, [], ◌∷◌, ◌++◌, length, get_or, take, drop, slice_index, sym, ap, refl, ◌∙◌, subst, arith, rules}
use Rattle.std.specs.List.{AllByRecursion}
use Rattle.std.proofs.Math.Seq.{take-append_seam, drop-append_seam}
use Rattle.std.proofs.lemmas.List.{take-append-drop, length-take-le}
use Rattle.std.proofs.lemmas.List.{append_assoc, length-append}
use Rattle.byteorder.specs.Endian.{little_from, little_number, little_bytes}
use Rattle.std.proofs.Math.Nat.{mul-suc, add_comm}
use Rattle.std.proofs.Common.{take-add}
use Rattle.std.proofs.Math.Seq.{drop-nil}
use Rattle.std.proofs.lemmas.List.{length-drop}
use Rattle.byteorder.specs.Numbers.{little_from-lt, little_from-cons, little_number-reads_back, length-bytes_low_first}
use Rattle.s2_colbytes.specs.Numbers.{IsBytes, number_of, bytes_of, numbers, spelled}
use Rattle.s2_colbytes.proofs.Bytes.{IsBytes-drop, little_bytes-little_number}

pub length-numbers : (w n : ℕ) (bs : List ℕ) → length (numbers w n bs) ≡ n
length-numbers w zero bs = refl
length-numbers w (suc n) bs = ap suc (length-numbers w n (drop w bs))

pub length-spelled : (w : ℕ) (xs : List ℕ) → length (spelled w xs) ≡ w * length xs
length-spelled w [] = omega arith
length-spelled w (x ∷ xs) = length-append (little_bytes w x) (spelled w xs) ∙ ap (λ (k : ℕ). k + length (spelled w xs)) (length-bytes_low_first 0 w x) ∙ ap (λ (k : ℕ). w + k) (length-spelled w xs) ∙ sym (mul-suc w (length xs) ∙ add_comm (w * length xs) w)

pub drop-drop : (a b : ℕ) (bs : List ℕ) → drop b (drop a bs) ≡ drop (a + b) bs
drop-drop zero b bs = let e : 0 + b ≡ b = omega arith in rw e refl
drop-drop (suc a) b [] = drop-nil b ∙ sym (drop-nil (suc a + b))
drop-drop (suc a) b (x ∷ bs) = let e : suc a + b ≡ suc (a + b) = omega arith in drop-drop a b bs ∙ rw e refl

times_suc : (w i : ℕ) → w + w * i ≡ w * suc i
times_suc w i = sym (mul-suc w i ∙ add_comm (w * i) w)

pub get_or-numbers : (w n i : ℕ) (bs : List ℕ) → i < n → get_or (numbers w n bs) i 0 ≡ little_number w (drop (w * i) bs)
get_or-numbers w zero i bs l = absurd (omega arith)
get_or-numbers w (suc n) zero bs l = let z : w * 0 ≡ 0 = omega arith in rw z refl
get_or-numbers w (suc n) (suc i) bs l = get_or-numbers w n i (drop w bs) (omega arith) ∙ ap (little_number w) (drop-drop w (w * i) bs ∙ ap (λ (k : ℕ). drop k bs) (times_suc w i))

-- what is spelled so is read
pub numbers-spelled : (w : ℕ) (xs rest : List ℕ) → AllByRecursion (λ x. x < 256 ^ w) xs → numbers w (length xs) (spelled w xs ++ rest) ≡ xs
numbers-spelled w [] rest h = refl
numbers-spelled w (x ∷ xs) rest h =
    let e : spelled w (x ∷ xs) ++ rest ≡ little_bytes w x ++ (spelled w xs ++ rest) = append_assoc (little_bytes w x) (spelled w xs) rest in
    let first : little_number w (little_bytes w x ++ (spelled w xs ++ rest)) ≡ x = little_number-reads_back w x (spelled w xs ++ rest) h.0 in
    let len : length (little_bytes w x) ≡ w = length-bytes_low_first 0 w x in
    let after : drop w (little_bytes w x ++ (spelled w xs ++ rest)) ≡ spelled w xs ++ rest = ap (λ (k : ℕ). drop k (little_bytes w x ++ (spelled w xs ++ rest))) (sym len) ∙ drop-append_seam (little_bytes w x) (spelled w xs ++ rest) in
    ap (numbers w (suc (length xs))) e ∙ cons_is first (ap (numbers w (length xs)) after ∙ numbers-spelled w xs rest h.1)
  where
    cons_is : {a b : ℕ} {xs ys : List ℕ} → a ≡ b → xs ≡ ys → a ∷ xs ≡ b ∷ ys
    cons_is p q = cc

-- the bytes after the numbers
pub drop-spelled : (w : ℕ) (xs rest : List ℕ) → drop (w * length xs) (spelled w xs ++ rest) ≡ rest
drop-spelled w xs rest = ap (λ (k : ℕ). drop k (spelled w xs ++ rest)) (sym (length-spelled w xs)) ∙ drop-append_seam (spelled w xs) rest

-- what is read is spelled so
pub spelled-numbers : (w n : ℕ) (bs : List ℕ) → IsBytes bs → w * n ≤ length bs → spelled w (numbers w n bs) ≡ take (w * n) bs
spelled-numbers w zero bs h l = let z : w * 0 ≡ 0 = omega arith in rw z refl
spelled-numbers w (suc n) bs h l =
    let t = times_suc w n in
    let len : length (drop w bs) ≡ length bs - w = length-drop w bs in
    let first : little_bytes w (little_number w bs) ≡ take w bs = little_bytes-little_number w bs h (omega arith) in
    let later : spelled w (numbers w n (drop w bs)) ≡ take (w * n) (drop w bs) = spelled-numbers w n (drop w bs) (IsBytes-drop w bs h) (omega arith) in
    ap (λ (xs : List ℕ). xs ++ spelled w (numbers w n (drop w bs))) first ∙ ap (λ (xs : List ℕ). take w bs ++ xs) later ∙ sym (take-add w (w * n) bs) ∙ ap (λ (k : ℕ). take k bs) t

pub numbers-fit : (w n : ℕ) (bs : List ℕ) → IsBytes bs → AllByRecursion (λ x. x < 256 ^ w) (numbers w n bs)
numbers-fit w zero bs h = tt
numbers-fit w (suc n) bs h = (little_from-lt 0 w bs h, numbers-fit w n (drop w bs) (IsBytes-drop w bs h))

-- the bytes that spell numbers, and the bytes after them
pub spells-numbers : (w n : ℕ) (bs : List ℕ) → IsBytes bs → w * n ≤ length bs → bs ≡ spelled w (numbers w n bs) ++ drop (w * n) bs
spells-numbers w n bs h l = sym (ap (λ (xs : List ℕ). xs ++ drop (w * n) bs) (spelled-numbers w n bs h l) ∙ take-append-drop (w * n) bs)
