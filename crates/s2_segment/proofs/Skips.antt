-- Blocks are passed over one by one, and numbers are listed one by one.
use Rattle.std.proofs.Common.{◌≡◌, ℕ, zero, suc, ◌+◌, ◌-◌, ◌*◌, ◌<◌, ◌≤◌, List, [], ◌∷◌, ◌++◌, length, take, drop, get_or, refl, sym, ap, ◌∙◌, arith, Result, Ok}
use Rattle.std.proofs.lemmas.List.{take_more}
use Rattle.byteorder.specs.Endian.{little_number}
use Rattle.s2_colbytes.specs.Numbers.{numbers}
use Rattle.s2_colbytes.proofs.Lists.{length-numbers, get_or-numbers}
use Rattle.s2_segindex.specs.Reading.{◌>>=◌}
use Rattle.s2_segment.specs.declared.faults.SegErr.{SegErr}
use Rattle.s2_segment.specs.Parts.{block_at}
use Rattle.s2_segment.specs.Skips.{after_blocks}

pub skip_step : (left : ℕ) (bytes : List ℕ) → 0 < left → after_blocks left bytes ≡ (block_at bytes >>= (λ (block : List ℕ × List ℕ). after_blocks (left - 1) block.1))
skip_step zero bytes l = absurd (omega arith)
skip_step (suc k) bytes l =
    let e : k ≡ suc k - 1 = omega arith in
    ap (λ (n : ℕ). block_at bytes >>= (λ (block : List ℕ × List ℕ). after_blocks n block.1)) e

pub skipped : (left : ℕ) (bytes : List ℕ) → left ≤ 0 → after_blocks left bytes ≡ Ok bytes
skipped left bytes l = let e : left ≡ 0 = omega arith in ap (λ (n : ℕ). after_blocks n bytes) e

pub take_all : {X : Type 0} (i : ℕ) (xs : List X) → i ≡ length xs → take i xs ≡ xs
take_all i [] e = ap (λ (k : ℕ). take k []) e
take_all {X = X} i (x ∷ xs) e = ap (λ (k : ℕ). take k (x ∷ xs)) e ∙ ap (λ (ys : List X). x ∷ ys) (take_all (length xs) xs refl)

pub number_more : (w n i x : ℕ) (bytes list more : List ℕ) → i < n → list ≡ take i (numbers w n bytes) → x ≡ little_number w (drop (w * i) bytes) → more ≡ list ++ x ∷ [] → more ≡ take (i + 1) (numbers w n bytes)
number_more w n i x bytes list more l e x_is m =
    let len = length-numbers w n bytes in
    m ∙ ap (λ (xs : List ℕ). xs ++ x ∷ []) e ∙ ap (λ (y : ℕ). take i (numbers w n bytes) ++ y ∷ []) (x_is ∙ sym (get_or-numbers w n i bytes l)) ∙ sym (take_more (numbers w n bytes) i 0 (omega arith))
