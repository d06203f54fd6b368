-- Readings that went well, and bytes that are read as they are spelled.
use Rattle.std.proofs.Common.{◌≡◌, ℕ, ◌+◌, ◌*◌, ◌^◌, ◌<◌, ◌≤◌, Bool, true, false, not, nat_lt, nat_le, ◌&&◌, List, [], ◌∷◌, ◌++◌, length, take, drop, refl, sym, ap, ◌∙◌, arith, Result, Ok, Err}
use Rattle.std.specs.Prelude.{if◌then◌else◌}
use Rattle.std.proofs.lemmas.Bool.Decides.{nat_tests}
use Rattle.std.proofs.lemmas.Bool.{ltb-false}
use Rattle.std.proofs.lemmas.List.{length-append, take-append-drop, length-drop}
use Rattle.std.proofs.Math.Seq.{take-append_seam, drop-append_seam}
use Rattle.byteorder.specs.Endian.{little_bytes, little_number}
use Rattle.byteorder.specs.Numbers.{little_number-reads_back, length-bytes_low_first}
use Rattle.s2_colbytes.specs.Numbers.{IsBytes}
use Rattle.s2_colbytes.proofs.Bytes.{little_bytes-little_number}
use Rattle.s2_segindex.specs.Reading.{◌>>=◌, front_or, number_or, unless, rest_of, alone_or}

-- a reading that goes on was Ok so far
pub record Goes {A B E : Type 0} (read : Result A E) (f : A → Result B E) (y : B) : Type 0 where
  pub first : A
  pub was : read ≡ Ok first
  pub later : f first ≡ Ok y

pub goes : {A B E : Type 0} (read : Result A E) (f : A → Result B E) (y : B) → (read >>= f) ≡ Ok y → Goes read f y
goes (Ok x) f y h = record { first = x; was = refl; later = h }
goes (Err e) f y h = cc

pub chosen : {X E : Type 0} (wrong : Bool) (err : E) (x y : X) → (if wrong then Err err else Ok x) ≡ Ok y → (wrong ≡ false) × (x ≡ y)
chosen true err x y h = cc
chosen false err x y h = (refl, cc)

pub tested : {X E : Type 0} (right : Bool) (err : E) (read : Result X E) (y : X) → (if right then read else Err err) ≡ Ok y → (right ≡ true) × (read ≡ Ok y)
tested true err read y h = (refl, h)
tested false err read y h = cc

pub same_ok : {X E : Type 0} (x y : X) → ◌≡◌ {A = Result X E} (Ok x) (Ok y) → x ≡ y
same_ok x y h = cc

pub ended : {X E : Type 0} (err : E) (x : X) (rest : List ℕ) (y : X) → alone_or err x rest ≡ Ok y → (rest ≡ []) × (x ≡ y)
ended err x [] y h = (refl, cc)
ended err x (b ∷ bs) y h = cc

pub not_true : (b : Bool) → not b ≡ false → b ≡ true
not_true true h = refl
not_true false h = cc

pub both_true : (a b : Bool) → (a && b) ≡ true → (a ≡ true) × (b ≡ true)
both_true true b h = (refl, h)
both_true false b h = cc

pub not_less : (a b : ℕ) → b ≤ a → nat_lt a b ≡ false
not_less a b l = grind (arith, nat_tests)

pub is_less : (a b : ℕ) → a < b → nat_lt a b ≡ true
is_less a b l = grind (arith, nat_tests)

-- bytes at the front
pub record Front (n : ℕ) (bytes : List ℕ) (x : List ℕ × List ℕ) : Type 0 where
  pub enough : n ≤ length bytes
  pub is : (take n bytes, drop n bytes) ≡ x

pub front_read : {E : Type 0} (err : E) (n : ℕ) (bytes : List ℕ) (x : List ℕ × List ℕ) → front_or err n bytes ≡ Ok x → Front n bytes x
front_read err n bytes x h =
    let p = chosen (nat_lt (length bytes) n) err (take n bytes, drop n bytes) x h in
    record { enough = ltb-false (length bytes) n p.0; is = p.1 }

pub record Number (w : ℕ) (bytes : List ℕ) (x : ℕ × List ℕ) : Type 0 where
  pub enough : w ≤ length bytes
  pub is : (little_number w bytes, drop w bytes) ≡ x

pub number_read : {E : Type 0} (err : E) (w : ℕ) (bytes : List ℕ) (x : ℕ × List ℕ) → number_or err w bytes ≡ Ok x → Number w bytes x
number_read err w bytes x h =
    let p = chosen (nat_lt (length bytes) w) err (little_number w bytes, drop w bytes) x h in
    record { enough = ltb-false (length bytes) w p.0; is = p.1 }

-- the number that was read is spelled by the bytes in front of the rest
pub number_spelled : (w : ℕ) (bytes : List ℕ) → IsBytes bytes → w ≤ length bytes → bytes ≡ little_bytes w (little_number w bytes) ++ drop w bytes
number_spelled w bytes b l = sym (ap (λ (xs : List ℕ). xs ++ drop w bytes) (little_bytes-little_number w bytes b l) ∙ take-append-drop w bytes)

pub front_is : {E : Type 0} (err : E) (n : ℕ) (xs rest : List ℕ) → length xs ≡ n → front_or err n (xs ++ rest) ≡ Ok (xs, rest)
front_is err n xs rest e =
    let len = length-append xs rest in
    let enough : nat_lt (length (xs ++ rest)) n ≡ false = not_less (length (xs ++ rest)) n (omega arith) in
    let first : take n (xs ++ rest) ≡ xs = ap (λ (k : ℕ). take k (xs ++ rest)) (sym e) ∙ take-append_seam xs rest in
    let last : drop n (xs ++ rest) ≡ rest = ap (λ (k : ℕ). drop k (xs ++ rest)) (sym e) ∙ drop-append_seam xs rest in
    rw (enough, first, last) refl

pub number_is : {E : Type 0} (err : E) (w x : ℕ) (rest : List ℕ) → x < 256 ^ w → number_or err w (little_bytes w x ++ rest) ≡ Ok (x, rest)
number_is err w x rest l =
    let width = length-bytes_low_first 0 w x in
    let len = length-append (little_bytes w x) rest in
    let enough : nat_lt (length (little_bytes w x ++ rest)) w ≡ false = not_less (length (little_bytes w x ++ rest)) w (omega arith) in
    let first : little_number w (little_bytes w x ++ rest) ≡ x = little_number-reads_back w x rest l in
    let last : drop w (little_bytes w x ++ rest) ≡ rest = ap (λ (k : ℕ). drop k (little_bytes w x ++ rest)) (sym width) ∙ drop-append_seam (little_bytes w x) rest in
    rw (enough, first, last) refl
