-- The head and the row numbers: read as they are spelled, and spelled as they are read.
use Rattle.std.proofs.Common.{◌≡◌, ℕ, zero, suc, ◌+◌, ◌*◌, ◌^◌, ◌<◌, ◌≤◌, Bool, true, false, not, nat_eq, nat_le, nat_lt, ◌&&◌, ◌==◌, List, [], ◌∷◌, ◌++◌, length, take, drop, get_or, refl, sym, ap, subst, ◌∙◌, arith, Result, Ok, Err}
use Rattle.std.specs.Prelude.{slice_index, if◌then◌else◌}
use Rattle.std.specs.List.{list_all, AllByRecursion}
use Rattle.std.specs.Cmp.Lexicographic.{pointwise, bytes_decides}
use Rattle.std.proofs.lemmas.Bool.{eqb-true, eq-eqb, leb-true}
use Rattle.std.proofs.lemmas.Bool.Decides.{nat_tests}
use Rattle.std.proofs.lemmas.List.{append_assoc, append-nil, length-append, length-drop, length-take-le, take-append-drop}
use Rattle.std.proofs.Math.Seq.{drop-cons}
use Rattle.byteorder.specs.Endian.{little_bytes, little_number}
use Rattle.byteorder.specs.Numbers.{little_number-reads_back, length-bytes_low_first}
use Rattle.s2_colbytes.specs.Numbers.{IsBytes, numbers, spelled}
use Rattle.s2_colbytes.proofs.Bytes.{IsBytes-take, IsBytes-drop}
use Rattle.s2_colbytes.proofs.Lists.{length-numbers, length-spelled, spelled-numbers, numbers-fit, numbers-spelled, drop-drop}
use Rattle.s2_value.specs.declared.schemas.Schema.{Schema}
use Rattle.s2_value.specs.Columns.{is_between, are_distinct}
use Rattle.s2_value.specs.Schemas.{keys_of}
use Rattle.s2_segindex.specs.Reading.{◌>>=◌, front_or, unless}
use Rattle.s2_segindex.proofs.Results.{goes, chosen, front_read, front_is, both_true, not_true, number_spelled}
use Rattle.s2_segment.specs.declared.faults.SegErr.{SegErr}
use Rattle.s2_segment.specs.declared.faults.SegErr.TheVariants as fault
use Rattle.s2_segment.specs.Parts.{magic, has_magic, has_shape, count_in, head_at, are_ids, ids_at}
use Rattle.s2_segment.specs.Spells.{head_of}
use Rattle.s2_segment.proofs.Steps.{drop_end}

take_all : (k : ℕ) (xs : List ℕ) → length xs ≡ k → take k xs ≡ xs
take_all zero [] e = refl
take_all zero (x ∷ xs) e = absurd (omega arith)
take_all (suc k) [] e = refl
take_all (suc k) (x ∷ xs) e = ap (λ (ys : List ℕ). x ∷ ys) (take_all k xs (omega arith))

pub record HeadSpelled (schema : Schema) (bytes : List ℕ) (x : ℕ × List ℕ) : Type 0 where
  pub is : bytes ≡ head_of schema x.0 ++ x.1
  pub some : 1 ≤ x.0
  pub few : x.0 ≤ 8192
  pub rest_bytes : IsBytes x.1

-- what the tests of a head say of its bytes
head_is : (schema : Schema) (front : List ℕ) → IsBytes front → length front ≡ 11 → has_magic front ≡ true → slice_index front 4 == 1 ≡ true → has_shape schema front ≡ true → front ≡ head_of schema (count_in front)
head_is schema front b l m v s =
    let magic_is : take 4 front ≡ magic = (bytes_decides (take 4 front) magic).0 m in
    let version : get_or front 4 0 ≡ 1 = eqb-true (get_or front 4 0) 1 v in
    let shape = both_true (get_or front 5 0 == length schema.cols) (get_or front 6 0 == length (keys_of schema)) s in
    let cols : get_or front 5 0 ≡ length schema.cols = eqb-true (get_or front 5 0) (length schema.cols) shape.0 in
    let keys : get_or front 6 0 ≡ length (keys_of schema) = eqb-true (get_or front 6 0) (length (keys_of schema)) shape.1 in
    let four = length-drop 7 front in
    let last : drop 7 front ≡ little_bytes 4 (count_in front) = number_spelled 4 (drop 7 front) (IsBytes-drop 7 front b) (omega arith) ∙ ap (λ (bs : List ℕ). little_bytes 4 (count_in front) ++ bs) (drop_end 4 (drop 7 front) (omega arith)) ∙ append-nil (little_bytes 4 (count_in front)) in
    let tail : drop 4 front ≡ 1 ∷ length schema.cols ∷ length (keys_of schema) ∷ little_bytes 4 (count_in front) =
    drop-cons front 4 0 (omega arith) ∙ ap (λ (x : ℕ). x ∷ drop 5 front) version
    ∙ ap (λ (bs : List ℕ). 1 ∷ bs) (drop-cons front 5 0 (omega arith) ∙ ap (λ (x : ℕ). x ∷ drop 6 front) cols ∙ ap (λ (bs : List ℕ). length schema.cols ∷ bs) (drop-cons front 6 0 (omega arith) ∙ ap (λ (x : ℕ). x ∷ drop 7 front) keys ∙ ap (λ (bs : List ℕ). length (keys_of schema) ∷ bs) last)) in
    sym (take-append-drop 4 front) ∙ ap (λ (bs : List ℕ). bs ++ drop 4 front) magic_is ∙ ap (λ (bs : List ℕ). magic ++ bs) tail

pub head_spelled : (schema : Schema) (bytes : List ℕ) (x : ℕ × List ℕ) → IsBytes bytes → head_at schema bytes ≡ Ok x → HeadSpelled schema bytes x
unfolding head_at
head_spelled schema bytes x b h =
    let f5 : List ℕ × List ℕ → Result (ℕ × List ℕ) SegErr = λ s. unless (not (is_between 1 8192 (count_in s.0))) fault.BadCount (count_in s.0, s.1) in
    let f4 : List ℕ × List ℕ → Result (ℕ × List ℕ) SegErr = λ v. unless (not (has_shape schema v.0)) fault.BadShape v >>= f5 in
    let f3 : List ℕ × List ℕ → Result (ℕ × List ℕ) SegErr = λ m. unless (not (slice_index m.0 4 == 1)) fault.BadVersion m >>= f4 in
    let f2 : List ℕ × List ℕ → Result (ℕ × List ℕ) SegErr = λ f. unless (not (has_magic f.0)) fault.BadMagic f >>= f3 in
    let g1 = goes (front_or fault.Short 11 bytes) f2 x h in
    let front = front_read fault.Short 11 bytes g1.first g1.was in
    let g2 = goes (unless (not (has_magic g1.first.0)) fault.BadMagic g1.first) f3 x g1.later in
    let c2 = chosen (not (has_magic g1.first.0)) fault.BadMagic g1.first g2.first g2.was in
    let g3 = goes (unless (not (slice_index g2.first.0 4 == 1)) fault.BadVersion g2.first) f4 x g2.later in
    let c3 = chosen (not (slice_index g2.first.0 4 == 1)) fault.BadVersion g2.first g3.first g3.was in
    let g4 = goes (unless (not (has_shape schema g3.first.0)) fault.BadShape g3.first) f5 x g3.later in
    let c4 = chosen (not (has_shape schema g3.first.0)) fault.BadShape g3.first g4.first g4.was in
    let c5 = chosen (not (is_between 1 8192 (count_in g4.first.0))) fault.BadCount (count_in g4.first.0, g4.first.1) x g4.later in
    let p2 : g1.first ≡ (take 11 bytes, drop 11 bytes) = sym front.is in
    let p3 : g2.first ≡ (take 11 bytes, drop 11 bytes) = sym c2.1 ∙ p2 in
    let p4 : g3.first ≡ (take 11 bytes, drop 11 bytes) = sym c3.1 ∙ p3 in
    let p5 : g4.first ≡ (take 11 bytes, drop 11 bytes) = sym c4.1 ∙ p4 in
    let m : has_magic (take 11 bytes) ≡ true = ap (λ (y : List ℕ × List ℕ). has_magic y.0) (sym p2) ∙ not_true (has_magic g1.first.0) c2.0 in
    let v : slice_index (take 11 bytes) 4 == 1 ≡ true = ap (λ (y : List ℕ × List ℕ). slice_index y.0 4 == 1) (sym p3) ∙ not_true (slice_index g2.first.0 4 == 1) c3.0 in
    let s : has_shape schema (take 11 bytes) ≡ true = ap (λ (y : List ℕ × List ℕ). has_shape schema y.0) (sym p4) ∙ not_true (has_shape schema g3.first.0) c4.0 in
    let n : is_between 1 8192 (count_in (take 11 bytes)) ≡ true = ap (λ (y : List ℕ × List ℕ). is_between 1 8192 (count_in y.0)) (sym p5) ∙ not_true (is_between 1 8192 (count_in g4.first.0)) c5.0 in
    let is : (count_in (take 11 bytes), drop 11 bytes) ≡ x = ap (λ (y : List ℕ × List ℕ). (count_in y.0, y.1)) (sym p5) ∙ c5.1 in
    let len : length (take 11 bytes) ≡ 11 = length-take-le 11 bytes front.enough in
    let range = both_true (nat_le 1 (count_in (take 11 bytes))) (nat_le (count_in (take 11 bytes)) 8192) n in
    subst (HeadSpelled schema bytes) is (record {
      is = sym (take-append-drop 11 bytes) ∙ ap (λ (bs : List ℕ). bs ++ drop 11 bytes) (head_is schema (take 11 bytes) (IsBytes-take 11 bytes b) len m v s);
      some = leb-true 1 (count_in (take 11 bytes)) range.0;
      few = leb-true (count_in (take 11 bytes)) 8192 range.1;
      rest_bytes = IsBytes-drop 11 bytes b;
    })

le : (a b : ℕ) → a ≤ b → nat_le a b ≡ true
le a b q = grind (arith, nat_tests)

pub head_read : (schema : Schema) (n : ℕ) (rest : List ℕ) → 1 ≤ n → n ≤ 8192 → head_at schema (head_of schema n ++ rest) ≡ Ok (n, rest)
unfolding head_at
head_read schema n rest some few =
    let head : List ℕ = head_of schema n in
    let four = length-bytes_low_first 0 4 n in
    let len : length head ≡ 11 = omega arith in
    let front : front_or fault.Short 11 (head ++ rest) ≡ Ok (head, rest) = front_is fault.Short 11 head rest len in
    let number : count_in head ≡ n = ap (little_number 4) (sym (append-nil (little_bytes 4 n))) ∙ little_number-reads_back 4 n [] (omega arith) in
    let shape : has_shape schema head ≡ true = rw (eq-eqb (length schema.cols) (length schema.cols) refl, eq-eqb (length (keys_of schema)) (length (keys_of schema)) refl) refl in
    let range : is_between 1 8192 (count_in head) ≡ true = ap (is_between 1 8192) number ∙ rw (le 1 n some, le n 8192 few) refl in
    let f5 : List ℕ × List ℕ → Result (ℕ × List ℕ) SegErr = λ s. unless (not (is_between 1 8192 (count_in s.0))) fault.BadCount (count_in s.0, s.1) in
    let f4 : List ℕ × List ℕ → Result (ℕ × List ℕ) SegErr = λ v. unless (not (has_shape schema v.0)) fault.BadShape v >>= f5 in
    let f3 : List ℕ × List ℕ → Result (ℕ × List ℕ) SegErr = λ m. unless (not (slice_index m.0 4 == 1)) fault.BadVersion m >>= f4 in
    let f2 : List ℕ × List ℕ → Result (ℕ × List ℕ) SegErr = λ f. unless (not (has_magic f.0)) fault.BadMagic f >>= f3 in
    let last : f5 (head, rest) ≡ Ok (n, rest) = ap (λ (t : Bool). if not t then Err fault.BadCount else Ok (count_in head, rest)) range ∙ pair number in
    ap (λ (r : Result (List ℕ × List ℕ) SegErr). r >>= f2) front
    ∙ ap (λ (t : Bool). (if not t then Err fault.BadShape else Ok (head, rest)) >>= f5) shape ∙ last
  where
    pair : {a b : ℕ} → a ≡ b → ◌≡◌ {A = Result (ℕ × List ℕ) SegErr} (Ok (a, rest)) (Ok (b, rest))
    pair p = cc

pub record IdsSpelled (n : ℕ) (bytes : List ℕ) (x : List ℕ × List ℕ) : Type 0 where
  pub is : bytes ≡ spelled 8 x.0 ++ x.1
  pub many : length x.0 ≡ n
  pub ids : are_ids x.0 ≡ true
  pub narrow : AllByRecursion (λ i. i < 18446744073709551616) x.0
  pub rest_bytes : IsBytes x.1

pub ids_spelled : (n : ℕ) (bytes : List ℕ) (x : List ℕ × List ℕ) → IsBytes bytes → ids_at n bytes ≡ Ok x → IdsSpelled n bytes x
unfolding ids_at
ids_spelled n bytes x b h =
    let f : List ℕ × List ℕ → Result (List ℕ × List ℕ) SegErr = λ f. unless (not (are_ids (numbers 8 n f.0))) fault.BadRows (numbers 8 n f.0, f.1) in
    let g = goes (front_or fault.Short (8 * n) bytes) f x h in
    let front = front_read fault.Short (8 * n) bytes g.first g.was in
    let c = chosen (not (are_ids (numbers 8 n g.first.0))) fault.BadRows (numbers 8 n g.first.0, g.first.1) x g.later in
    let first : List ℕ = take (8 * n) bytes in
    let front_bytes = IsBytes-take (8 * n) bytes b in
    let len : length first ≡ 8 * n = length-take-le (8 * n) bytes front.enough in
    let is : (numbers 8 n first, drop (8 * n) bytes) ≡ x = ap (λ (y : List ℕ × List ℕ). (numbers 8 n y.0, y.1)) front.is ∙ c.1 in
    let good : are_ids (numbers 8 n first) ≡ true = ap (λ (y : List ℕ × List ℕ). are_ids (numbers 8 n y.0)) front.is ∙ not_true (are_ids (numbers 8 n g.first.0)) c.0 in
    let all : first ≡ spelled 8 (numbers 8 n first) = sym (spelled-numbers 8 n first front_bytes (omega arith) ∙ take_all (8 * n) first len) in
    subst (IdsSpelled n bytes) is (record {
      is = sym (take-append-drop (8 * n) bytes) ∙ ap (λ (bs : List ℕ). bs ++ drop (8 * n) bytes) all;
      many = length-numbers 8 n first;
      ids = good;
      narrow = numbers-fit 8 n first front_bytes;
      rest_bytes = IsBytes-drop (8 * n) bytes b;
    })

pub ids_read : (ids rest : List ℕ) → are_ids ids ≡ true → AllByRecursion (λ i. i < 18446744073709551616) ids → ids_at (length ids) (spelled 8 ids ++ rest) ≡ Ok (ids, rest)
unfolding ids_at
ids_read ids rest good narrow =
    let n = length ids in
    let front : front_or fault.Short (8 * n) (spelled 8 ids ++ rest) ≡ Ok (spelled 8 ids, rest) = front_is fault.Short (8 * n) (spelled 8 ids) rest (length-spelled 8 ids) in
    let same : numbers 8 n (spelled 8 ids) ≡ ids = ap (numbers 8 n) (sym (append-nil (spelled 8 ids))) ∙ numbers-spelled 8 ids [] narrow in
    ap (λ (r : Result (List ℕ × List ℕ) SegErr). r >>= (λ (f : List ℕ × List ℕ). unless (not (are_ids (numbers 8 n f.0))) fault.BadRows (numbers 8 n f.0, f.1))) front
    ∙ ap (λ (is : List ℕ). unless (not (are_ids is)) fault.BadRows (is, rest)) same
    ∙ ap (λ (t : Bool). if not t then Err fault.BadRows else Ok (ids, rest)) good
