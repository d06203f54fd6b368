-- Texts that are cut at their ends.
use Rattle.std.proofs.Common.{◌≡◌, ℕ, zero, suc, ◌+◌, ◌-◌, ◌*◌, ◌<◌, ◌≤◌, Bool, true, false, ◌&&◌, List, [], ◌∷◌, length, get_or, take, drop, nat_le, sym, ap, refl, ◌∙◌, arith}
use Rattle.std.proofs.lemmas.Bool.Decides.{nat_tests}
use Rattle.std.proofs.lemmas.List.{length-drop}
use Rattle.byteorder.specs.Endian.{little_number}
use Rattle.s2_value.specs.Text.{is_text_bytes}
use Rattle.s2_colbytes.specs.Numbers.{numbers}
use Rattle.s2_colbytes.proofs.Lists.{drop-drop, length-numbers, get_or-numbers}
use Rattle.s2_colplain.specs.Texts.{are_ends, last_end, cut_at, are_texts, start_at}

pub and_true : (a b : Bool) → (a && b) ≡ true → (a ≡ true) × (b ≡ true)
and_true true b h = (refl, h)
and_true false b h = cc

pub record IsEnd (start e : ℕ) (es : List ℕ) : Type 0 where
  pub low : start ≤ e
  pub high : e ≤ start + 255
  pub later : are_ends e es ≡ true

pub first_end : (start e : ℕ) (es : List ℕ) → are_ends start (e ∷ es) ≡ true → IsEnd start e es
first_end start e es h =
    let outer = and_true (nat_le start e && nat_le e (start + 255)) (are_ends e es) h in
    let inner = and_true (nat_le start e) (nat_le e (start + 255)) outer.0 in
    record { low = grind (arith, nat_tests); high = grind (arith, nat_tests); later = outer.1 }

-- an end is no lower than the start before it, at most 255 above it, and no text passes the last end
pub record InPlace (start i : ℕ) (es : List ℕ) : Type 0 where
  pub from : start ≤ get_or (start ∷ es) i 0
  pub rising : get_or (start ∷ es) i 0 ≤ get_or es i 0
  pub short : get_or es i 0 ≤ get_or (start ∷ es) i 0 + 255
  pub within : get_or es i 0 ≤ last_end start es

last_after : (start : ℕ) (es : List ℕ) → are_ends start es ≡ true → start ≤ last_end start es
last_after start [] h = omega arith
last_after start (e ∷ es) h = let f = first_end start e es h in let r = last_after e es f.later in omega (arith, f.low)

pub in_place : (start i : ℕ) (es : List ℕ) → are_ends start es ≡ true → i < length es → InPlace start i es
in_place start i [] h l = absurd (omega arith)
in_place start zero (e ∷ es) h l =
    let f = first_end start e es h in
    let r = last_after e es f.later in
    record { from = omega arith; rising = f.low; short = f.high; within = r }
in_place start (suc i) (e ∷ es) h l =
    let f = first_end start e es h in
    let r = in_place e i es f.later (omega arith) in
    record { from = omega (arith, f.low, r.from); rising = r.rising; short = r.short; within = r.within }

pub length-cut_at : (start : ℕ) (es bytes : List ℕ) → length (cut_at start es bytes) ≡ length es
length-cut_at start [] bytes = refl
length-cut_at start (e ∷ es) bytes = ap suc (length-cut_at e es (drop (e - start) bytes))

-- one of the texts
pub get_or-cut_at : (start i : ℕ) (es bytes : List ℕ) → are_ends start es ≡ true → i < length es → get_or (cut_at start es bytes) i [] ≡ take (get_or es i 0 - get_or (start ∷ es) i 0) (drop (get_or (start ∷ es) i 0 - start) bytes)
get_or-cut_at start i [] bytes h l = absurd (omega arith)
get_or-cut_at start zero (e ∷ es) bytes h l = let z : start - start ≡ 0 = omega arith in rw z refl
get_or-cut_at start (suc i) (e ∷ es) bytes h l =
    let f = first_end start e es h in
    let r = in_place e i es f.later (omega arith) in
    let d : (e - start) + (get_or (e ∷ es) i 0 - e) ≡ get_or (e ∷ es) i 0 - start = omega (arith, f.low, r.from) in
    get_or-cut_at e i es (drop (e - start) bytes) f.later (omega arith)
    ∙ ap (take (get_or es i 0 - get_or (e ∷ es) i 0)) (drop-drop (e - start) (get_or (e ∷ es) i 0 - e) bytes ∙ ap (λ (k : ℕ). drop k bytes) d)

pub text_of_all : (ts : List (List ℕ)) (i : ℕ) → are_texts ts ≡ true → i < length ts → is_text_bytes (get_or ts i []) ≡ true
text_of_all [] i h l = absurd (omega arith)
text_of_all (t ∷ ts) zero h l = (and_true (is_text_bytes t) (are_texts ts) h).0
text_of_all (t ∷ ts) (suc i) h l = text_of_all ts i (and_true (is_text_bytes t) (are_texts ts) h).1 (omega arith)

-- where a text begins, read from the ends' bytes
pub start_at-is : (n i : ℕ) (ends : List ℕ) → i < n → start_at i ends ≡ get_or (0 ∷ numbers 4 n ends) i 0
start_at-is n zero ends l = refl
start_at-is n (suc i) ends l = sym (get_or-numbers 4 n i ends (omega arith))

last_end-is : (start : ℕ) (es : List ℕ) → last_end start es ≡ get_or (start ∷ es) (length es) 0
last_end-is start [] = refl
last_end-is start (e ∷ es) = last_end-is e es

-- one more text would begin where the last one ends
pub start_at-last : (n : ℕ) (ends : List ℕ) → start_at n ends ≡ last_end 0 (numbers 4 n ends)
start_at-last zero ends = refl
start_at-last (suc n) ends =
    sym (get_or-numbers 4 (suc n) n ends (omega arith))
    ∙ ap (λ (k : ℕ). get_or (numbers 4 (suc n) ends) k 0) (sym (length-numbers 4 n (drop 4 ends)))
    ∙ sym (last_end-is 0 (numbers 4 (suc n) ends))

-- the next of the ends that are left
pub numbers_next : (n k : ℕ) (bs : List ℕ) → k < n → numbers 4 (n - k) bs ≡ little_number 4 bs ∷ numbers 4 (n - (k + 1)) (drop 4 bs)
numbers_next n k bs l = ap (λ (m : ℕ). numbers 4 m bs) (let e : n - k ≡ suc (n - (k + 1)) = omega arith in e)

pub ends_next : (start e : ℕ) (es : List ℕ) → start ≤ e → e ≤ start + 255 → are_ends start (e ∷ es) ≡ are_ends e es
ends_next start e es l h =
    let a : nat_le start e ≡ true = grind (arith, nat_tests) in
    let b : nat_le e (start + 255) ≡ true = grind (arith, nat_tests) in
    rw (a, b) refl

-- the ends after the next one, with the bytes that spell them
pub record Left (start e n k : ℕ) (bs later : List ℕ) : Type 0 where
  pub whole : length later ≡ 4 * (n - (k + 1))
  pub next : numbers 4 (n - k) bs ≡ e ∷ numbers 4 (n - (k + 1)) later

pub left_is : (start e n k : ℕ) (bs later : List ℕ) → k < n → length bs ≡ 4 * (n - k) → e ≡ little_number 4 bs → later ≡ drop 4 bs → Left start e n k bs later
left_is start e n k bs later l w p q = record {
  whole = ap length q ∙ (let d = length-drop 4 bs in omega arith);
  next = numbers_next n k bs l ∙ cons_is (sym p) (ap (numbers 4 (n - (k + 1))) (sym q));
}
  where
    cons_is : {a b : ℕ} {xs ys : List ℕ} → a ≡ b → xs ≡ ys → a ∷ xs ≡ b ∷ ys
    cons_is p q = cc

-- a text and the bytes after it
pub record Cuts (start e : ℕ) (es left : List ℕ) : Type 0 where
  pub low : start ≤ e
  pub part : e - start ≤ length left
  pub rising : are_ends e es ≡ true
  pub last : last_end e es ≡ e + length (drop (e - start) left)

pub cuts_one : (start e : ℕ) (all es left : List ℕ) → all ≡ e ∷ es → are_ends start all ≡ true → last_end start all ≡ start + length left → Cuts start e es left
cuts_one start e all es left p h l =
    let f = first_end start e es (sym (ap (are_ends start) p) ∙ h) in
    let last : last_end e es ≡ start + length left = sym (ap (last_end start) p) ∙ l in
    let r = last_after e es f.later in
    let low = f.low in
    let d = length-drop (e - start) left in
    record { low = low; part = omega arith; rising = f.later; last = omega arith }
