-- The parts of a block are read as they are spelled.
use Rattle.std.proofs.Common.{◌≡◌, ℕ, ℤ, ◌+◌, ◌-◌, ◌*◌, ◌^◌, ◌<◌, ◌≤◌, FitsSigned, true, false, nat_lt, nat_le, nat_eq, List, [], ◌∷◌, ◌++◌, length, get_or, take, drop, map, sum, sym, ap, refl, ◌∙◌, arith, Result, Ok}
use Rattle.std.specs.Int.{w64, cast_unsigned}
use Rattle.std.specs.List.{list_all, list_any, concat, AllByRecursion}
use Rattle.std.proofs.lemmas.Bool.Decides.{nat_tests}
use Rattle.std.proofs.lemmas.Int.{to_z-of_z, ints}
use Rattle.std.proofs.lemmas.List.{length-append, length-map, append-nil, append_assoc}
use Rattle.std.proofs.Math.Seq.{take-append_seam, drop-append_seam, get_or-append_seam}
use Rattle.byteorder.specs.Endian.{little_bytes, little_number}
use Rattle.byteorder.specs.Numbers.{little_number-reads_back, length-bytes_low_first}
use Rattle.s2_colbytes.specs.declared.ColErr.{ColErr}
use Rattle.s2_colbytes.specs.declared.ColErr.TheVariants.{BadWidth}
use Rattle.s2_colbytes.specs.Reading.{◌>>=◌, front_at, number_at, unless}
use Rattle.s2_colbytes.specs.Numbers.{numbers, spelled, signed, int_bytes}
use Rattle.s2_colbytes.proofs.Lists.{length-spelled, numbers-spelled}
use Rattle.s2_colplain.specs.Ints.{ints_at, ints_in, plain_ints}
use Rattle.s2_colplain.specs.Packed.{packed_at, head_at, unpacked, packed_len, is_over}
use Rattle.s2_colplain.specs.Texts.{texts_at, cut_at, are_ends, last_end, are_texts, ends_from, plain_texts}
use Rattle.s2_colruns.specs.Codes.{codes_at, has_bad_code}
use Rattle.s2_colruns.specs.Runs.{lens_at, has_empty}
use Rattle.s2_value.specs.Text.{is_txt, is_text_bytes}
use Rattle.s2_colenc.proofs.Lengths.{length-int, length-ints, length-ends, and_true}

not_less : (a b : ℕ) → b ≤ a → nat_lt a b ≡ false
not_less a b l = grind (arith, nat_tests)

pub front_is : (n : ℕ) (xs rest : List ℕ) → length xs ≡ n → front_at n (xs ++ rest) ≡ Ok (xs, rest)
front_is n xs rest e =
    let len = length-append xs rest in
    let enough : nat_lt (length (xs ++ rest)) n ≡ false = not_less (length (xs ++ rest)) n (omega arith) in
    let first : take n (xs ++ rest) ≡ xs = ap (λ (k : ℕ). take k (xs ++ rest)) (sym e) ∙ take-append_seam xs rest in
    let last : drop n (xs ++ rest) ≡ rest = ap (λ (k : ℕ). drop k (xs ++ rest)) (sym e) ∙ drop-append_seam xs rest in
    rw (enough, first, last) refl

pub number_is : (w x : ℕ) (rest : List ℕ) → x < 256 ^ w → number_at w (little_bytes w x ++ rest) ≡ Ok (x, rest)
number_is w x rest l =
    let width = length-bytes_low_first 0 w x in
    let len = length-append (little_bytes w x) rest in
    let enough : nat_lt (length (little_bytes w x ++ rest)) w ≡ false = not_less (length (little_bytes w x ++ rest)) w (omega arith) in
    let first : little_number w (little_bytes w x ++ rest) ≡ x = little_number-reads_back w x rest l in
    let last : drop w (little_bytes w x ++ rest) ≡ rest = ap (λ (k : ℕ). drop k (little_bytes w x ++ rest)) (sym width) ∙ drop-append_seam (little_bytes w x) rest in
    rw (enough, first, last) refl

-- all the numbers and nothing after them
pub numbers_are : (w : ℕ) (xs : List ℕ) (n : ℕ) → AllByRecursion (λ x. x < 256 ^ w) xs → length xs ≡ n → numbers w n (spelled w xs) ≡ xs
numbers_are w xs n h e = ap (λ (k : ℕ). numbers w k (spelled w xs)) (sym e) ∙ ap (numbers w (length xs)) (sym (append-nil (spelled w xs))) ∙ numbers-spelled w xs [] h

-- signed numbers

as_spelled : (xs : List ℤ) → plain_ints xs ≡ spelled 8 (map (cast_unsigned w64) xs)
as_spelled [] = refl
as_spelled (x ∷ xs) = ap (λ (bs : List ℕ). int_bytes x ++ bs) (as_spelled xs)

bits_fit : (xs : List ℤ) → AllByRecursion (FitsSigned w64) xs → AllByRecursion (λ x. x < 256 ^ 8) (map (cast_unsigned w64) xs)
bits_fit [] h = tt
bits_fit (x ∷ xs) h = (fit x h.0, bits_fit xs h.1)
  where
    fit : (x : ℤ) → FitsSigned w64 x → cast_unsigned w64 x < 256 ^ 8
    fit x p = omega (arith, ints)

bits_back : (xs : List ℤ) → AllByRecursion (FitsSigned w64) xs → map signed (map (cast_unsigned w64) xs) ≡ xs
bits_back [] h = refl
bits_back (x ∷ xs) h = cons_is (to_z-of_z w64 x h.0) (bits_back xs h.1)
  where
    cons_is : {a b : ℤ} {xs ys : List ℤ} → a ≡ b → xs ≡ ys → a ∷ xs ≡ b ∷ ys
    cons_is p q = cc

ints_back : (xs : List ℤ) → AllByRecursion (FitsSigned w64) xs → ints_in (length xs) (plain_ints xs) ≡ xs
ints_back xs h =
    ap (λ (bs : List ℕ). map signed (numbers 8 (length xs) bs)) (as_spelled xs)
    ∙ ap (map signed) (numbers_are 8 (map (cast_unsigned w64) xs) (length xs) (bits_fit xs h) (length-map xs (cast_unsigned w64)))
    ∙ bits_back xs h

pub ints_read : (xs : List ℤ) (rest : List ℕ) → AllByRecursion (FitsSigned w64) xs → ints_at (length xs) (plain_ints xs ++ rest) ≡ Ok (xs, rest)
unfolding ints_at
ints_read xs rest h = rw (front_is (8 * length xs) (plain_ints xs) rest (length-ints xs), ints_back xs h) refl

-- texts

pub record TextIs (t : List ℕ) : Type 0 where
  pub short : length t ≤ 255
  pub text : is_text_bytes t ≡ true

pub text_is : (t : List ℕ) → is_txt t ≡ true → TextIs t
text_is t h = let both = and_true (nat_le (length t) 255) (is_text_bytes t) h in record { short = grind (arith, nat_tests); text = both.1 }

rising : (start : ℕ) (ts : List (List ℕ)) → list_all is_txt ts ≡ true → are_ends start (ends_from start ts) ≡ true
rising start [] h = refl
rising start (t ∷ ts) h =
    let both = and_true (is_txt t) (list_all is_txt ts) h in
    let short = (text_is t both.0).short in
    let low : nat_le start (start + length t) ≡ true = le start (start + length t) (omega arith) in
    let high : nat_le (start + length t) (start + 255) ≡ true = le (start + length t) (start + 255) (omega arith) in
    rw (low, high, rising (start + length t) ts both.1) refl
  where
    le : (a b : ℕ) → a ≤ b → nat_le a b ≡ true
    le a b l = grind (arith, nat_tests)

last_is : (start : ℕ) (ts : List (List ℕ)) → last_end start (ends_from start ts) ≡ start + length (concat ts)
last_is start [] = omega arith
last_is start (t ∷ ts) = let len = length-append t (concat ts) in let r = last_is (start + length t) ts in omega arith

cut_is : (start : ℕ) (ts : List (List ℕ)) → cut_at start (ends_from start ts) (concat ts) ≡ ts
cut_is start [] = refl
cut_is start (t ∷ ts) =
    let n : start + length t - start ≡ length t = omega arith in
    let first : take (start + length t - start) (t ++ concat ts) ≡ t = ap (λ (k : ℕ). take k (t ++ concat ts)) n ∙ take-append_seam t (concat ts) in
    let later : drop (start + length t - start) (t ++ concat ts) ≡ concat ts = ap (λ (k : ℕ). drop k (t ++ concat ts)) n ∙ drop-append_seam t (concat ts) in
    cons_is first (ap (cut_at (start + length t) (ends_from (start + length t) ts)) later ∙ cut_is (start + length t) ts)
  where
    cons_is : {a b : List ℕ} {xs ys : List (List ℕ)} → a ≡ b → xs ≡ ys → a ∷ xs ≡ b ∷ ys
    cons_is p q = cc

texts_are : (ts : List (List ℕ)) → list_all is_txt ts ≡ true → are_texts ts ≡ true
texts_are [] h = refl
texts_are (t ∷ ts) h = let both = and_true (is_txt t) (list_all is_txt ts) h in rw ((text_is t both.0).text, texts_are ts both.1) refl

ends_fit : (start : ℕ) (ts : List (List ℕ)) → start + length (concat ts) < 4294967296 → AllByRecursion (λ x. x < 256 ^ 4) (ends_from start ts)
ends_fit start [] l = tt
ends_fit start (t ∷ ts) l = let len = length-append t (concat ts) in (omega arith, ends_fit (start + length t) ts (omega arith))

pub texts_read : (ts : List (List ℕ)) (rest : List ℕ) → list_all is_txt ts ≡ true → length (concat ts) < 4294967296 → texts_at (length ts) (plain_texts ts ++ rest) ≡ Ok (ts, rest)
unfolding texts_at
texts_read ts rest h l =
    let front : length (spelled 4 (ends_from 0 ts)) ≡ 4 * length ts = length-spelled 4 (ends_from 0 ts) ∙ ap (λ (k : ℕ). 4 * k) (length-ends 0 ts) in
    let back : numbers 4 (length ts) (spelled 4 (ends_from 0 ts)) ≡ ends_from 0 ts = numbers_are 4 (ends_from 0 ts) (length ts) (ends_fit 0 ts (omega arith)) (length-ends 0 ts) in
    let last : length (concat ts) ≡ last_end 0 (ends_from 0 ts) = (let e = last_is 0 ts in omega arith) in
    rw (append_assoc (spelled 4 (ends_from 0 ts)) (concat ts) rest, front_is (4 * length ts) (spelled 4 (ends_from 0 ts)) (concat ts ++ rest) front, back, rising 0 ts h, front_is (last_end 0 (ends_from 0 ts)) (concat ts) rest last, cut_is 0 ts, texts_are ts h) refl

-- codes and run lengths

pub codes_read : (d : ℕ) (codes rest : List ℕ) → AllByRecursion (λ c. c < 65536) codes → has_bad_code d codes ≡ false → codes_at (length codes) d (spelled 2 codes ++ rest) ≡ Ok (codes, rest)
unfolding codes_at
codes_read d codes rest h b = rw (front_is (2 * length codes) (spelled 2 codes) rest (length-spelled 2 codes), numbers_are 2 codes (length codes) h refl, b) refl

pub lens_read : (lens rest : List ℕ) (n m : ℕ) → AllByRecursion (λ l. l < 65536) lens → has_empty lens ≡ false → sum lens ≡ n → length lens ≡ m → lens_at n m (spelled 2 lens ++ rest) ≡ Ok (lens, rest)
unfolding lens_at
lens_read lens rest n m h e s l =
    let all : length (spelled 2 lens) ≡ 2 * m = length-spelled 2 lens ∙ ap (λ (k : ℕ). 2 * k) l in
    let right : nat_eq (sum lens) n ≡ true = eq_true (sum lens) n s in
    rw (front_is (2 * m) (spelled 2 lens) rest all, numbers_are 2 lens m h l, e, right) refl
  where
    eq_true : (a b : ℕ) → a ≡ b → nat_eq a b ≡ true
    eq_true a b p = grind (arith, nat_tests)

-- packed numbers

pub head_is : (base : ℤ) (width : ℕ) (bits : List ℕ) → FitsSigned w64 base → width ≤ 63 → head_at (int_bytes base ++ width ∷ bits) ≡ Ok (base, width, bits)
unfolding head_at
head_is base width bits p w =
    let nine : List ℕ = int_bytes base ++ width ∷ [] in
    let eight = length-int base in
    let len : length nine ≡ 9 = length-append (int_bytes base) (width ∷ []) ∙ (omega arith) in
    let split : int_bytes base ++ width ∷ bits ≡ nine ++ bits = sym (append_assoc (int_bytes base) (width ∷ []) bits) in
    let w_is : get_or nine 8 0 ≡ width = ap (λ (k : ℕ). get_or nine k 0) (sym eight) ∙ get_or-append_seam (int_bytes base) width [] 0 in
    let narrow : nat_lt 63 width ≡ false = not_less 63 width w in
    let b_is : signed (little_number 8 nine) ≡ base = ap signed (little_number-reads_back 8 (cast_unsigned w64 base) (width ∷ []) (fit base p)) ∙ to_z-of_z w64 base p in
    ap (λ (bs : List ℕ). front_at 9 bs >>= read_head) split ∙ rw (front_is 9 nine bits len, narrow, b_is) refl
  where
    fit : (x : ℤ) → FitsSigned w64 x → cast_unsigned w64 x < 256 ^ 8
    fit x q = omega (arith, ints)

    read_head : List ℕ × List ℕ → Result (ℤ × ℕ × List ℕ) ColErr
    read_head head = unless (nat_lt 63 (get_or head.0 8 0)) BadWidth (get_or head.0 8 0) >>= (λ width. Ok (signed (little_number 8 head.0), width, head.1))

pub packed_read : (base : ℤ) (width n : ℕ) (bits rest : List ℕ) → FitsSigned w64 base → width ≤ 63 → length bits ≡ packed_len width n → list_any is_over (unpacked base width n bits) ≡ false → packed_at n ((int_bytes base ++ width ∷ bits) ++ rest) ≡ Ok (unpacked base width n bits, rest)
unfolding packed_at
packed_read base width n bits rest p w l o =
    rw (append_assoc (int_bytes base) (width ∷ bits) rest, head_is base width (bits ++ rest) p w, front_is (packed_len width n) bits rest l, o) refl
