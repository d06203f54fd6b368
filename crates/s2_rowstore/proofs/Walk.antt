-- A walk over the numbers of blocks, and the list of them all.
use Rattle.std.proofs.Common.{◌≡◌, ◌∙◌, refl, sym, ap, ℕ, ◌<◌, ◌≤◌, ◌+◌, ◌-◌, ◌*◌, ◌/◌, ◌%◌, ◌^◌, zero, suc, Bool, true, false, cond, ◌||◌, ◌&&◌, ◌==◌, nat_lt, not, List, [], ◌∷◌, ◌++◌, take, Some, eqb-true, arith, length, slice_index_or, append_assoc}
use Rattle.std.specs.declared.cmp.Ordering.{Ordering}
use Rattle.std.specs.declared.cmp.Ordering.TheVariants.{Less, Equal, Greater}
use Rattle.std.specs.declared.ops.Bound.TheVariants.{Included, Unbounded}
use Rattle.std.specs.List.{filter, list_all, range_with_len}
use Rattle.std.specs.Map.{lookup, keys_of}
use Rattle.std.specs.Ordering.{nat_cmp, is_le}
use Rattle.std.specs.BTreeMap.{is_at}
use Rattle.std.specs.BTreeMap.Range.{range_contains}
use Rattle.std.specs.Cmp.{nat_eq_equiv, unsigned_ties}
use Rattle.std.proofs.lemmas.Bool.{false≢true, ltb-true, ltb-false, lt-ltb, le-ltb, eqb-false, ne_eqb, not-true, false_from_ne_true}
use Rattle.std.proofs.lemmas.Cmp.{ranked}
use Rattle.std.proofs.lemmas.List.Folds.{list_any-append}
use Rattle.std.proofs.lemmas.Nat.{mod-mul-add}
use Rattle.s2_rowstore.specs.Lines.{names_row}
use Rattle.s2_rowstore.specs.Numbers.{is_flagged, is_among, sixteen, numbers_of, numbers_in}
use Rattle.s2_rowstore.specs.Visible.{are_rising}
use Rattle.s2_rowstore.proofs.Rising.{filter_rising, names_filter}
use Rattle.s2_rowstore.proofs.Steps.{both}

-- ---- one block
unfoldable pub rest_of : ℕ → ℕ → List ℕ
rest_of b i = range_with_len (b * 16 + i) (16 - i)

pub rest_first : (b : ℕ) → rest_of b 0 ≡ sixteen b
unfolding rest_of sixteen
rest_first b = let e : b * 16 + 0 ≡ b * 16 = omega arith in ap (λ a. range_with_len a 16) e

pub rest_more : (b i : ℕ) → i < 16 → rest_of b i ≡ (b * 16 + i) ∷ rest_of b (i + 1)
unfolding rest_of
rest_more b i lt =
    let e : 16 - i ≡ suc (16 - (i + 1)) = omega arith in
    let f : b * 16 + i + 1 ≡ b * 16 + (i + 1) = omega arith in
    ap (range_with_len (b * 16 + i)) e ∙ ap (λ a. (b * 16 + i) ∷ range_with_len a (16 - (i + 1))) f

pub rest_none : (b i : ℕ) → 16 ≤ i → rest_of b i ≡ []
unfolding rest_of
rest_none b i le = let e : 16 - i ≡ 0 = omega arith in ap (range_with_len (b * 16 + i)) e

pub flag_here : (flags : List Bool) (b i : ℕ) (v : Bool) → i < 16 → b * 16 + 16 ≤ 2 ^ 64 → slice_index_or flags i false ≡ v → is_flagged (Some flags) (b * 16 + i) ≡ v
flag_here flags b i v lt small e =
    ap (λ a. a && slice_index_or flags ((b * 16 + i) % 16) false) (lt-ltb (b * 16 + i) (2 ^ 64) (omega arith))
    ∙ ap (λ k. slice_index_or flags k false) (mod-mul-add b 16 i lt) ∙ e

-- one number of those that are left
pub one_skipped : (P Q : ℕ → Bool) (most : ℕ) (found all rest target : List ℕ) (x : ℕ) → all ≡ x ∷ rest → (Q x && P x) ≡ false
    → take most (found ++ filter P (filter Q all)) ≡ target → take most (found ++ filter P (filter Q rest)) ≡ target
one_skipped P Q most found all rest target x step fails inv =
    sym (ap (λ ns. take most (found ++ ns)) (ap (λ ns. filter P (filter Q ns)) step ∙ go (Q x) (P x) refl fails)) ∙ inv where
      go : (q p : Bool) → P x ≡ p → (q && p) ≡ false → filter P (cond q (x ∷ filter Q rest) (filter Q rest)) ≡ filter P (filter Q rest)
      go false p e f = refl
      go true p e f = ap (λ b. cond b (x ∷ filter P (filter Q rest)) (filter P (filter Q rest))) (e ∙ f)

pub one_found : (P Q : ℕ → Bool) (most : ℕ) (found now all rest target : List ℕ) (x : ℕ) → now ≡ found ++ x ∷ [] → all ≡ x ∷ rest → Q x ≡ true → P x ≡ true
    → take most (found ++ filter P (filter Q all)) ≡ target → take most (now ++ filter P (filter Q rest)) ≡ target
one_found P Q most found now all rest target x more step flagged passes inv =
    ap (λ ns. take most (ns ++ filter P (filter Q rest))) more ∙ ap (take most) (append_assoc found (x ∷ []) (filter P (filter Q rest)))
    ∙ sym (ap (λ ns. take most (found ++ ns)) these) ∙ inv where
      these : filter P (filter Q all) ≡ x ∷ filter P (filter Q rest)
      these = ap (λ ns. filter P (filter Q ns)) step ∙ ap (λ b. filter P (cond b (x ∷ filter Q rest) (filter Q rest))) flagged
          ∙ ap (λ b. cond b (x ∷ filter P (filter Q rest)) (filter P (filter Q rest))) passes

-- enough are found, or none is left
pub take_enough : (most : ℕ) (xs ys : List ℕ) → length xs ≤ most → most ≤ length xs → take most (xs ++ ys) ≡ xs
take_enough zero [] ys le ge = refl
take_enough (suc m) [] ys le ge = absurd (omega arith)
take_enough zero (x ∷ xs) ys le ge = absurd (omega arith)
take_enough (suc m) (x ∷ xs) ys le ge = ap (λ zs. x ∷ zs) (take_enough m xs ys (omega arith) (omega arith))

pub take_no_more : (most : ℕ) (xs : List ℕ) → length xs ≤ most → take most (xs ++ []) ≡ xs
take_no_more zero [] le = refl
take_no_more (suc m) [] le = refl
take_no_more zero (x ∷ xs) le = absurd (omega arith)
take_no_more (suc m) (x ∷ xs) le = ap (λ zs. x ∷ zs) (take_no_more m xs (omega arith))

-- ---- one block after another
take_again : (most : ℕ) (xs ys : List ℕ) → take most (take most xs ++ ys) ≡ take most (xs ++ ys)
take_again zero xs ys = refl
take_again (suc m) [] ys = refl
take_again (suc m) (x ∷ xs) ys = ap (λ zs. x ∷ zs) (take_again m xs ys)

filter_parts : (P : ℕ → Bool) (xs ys : List ℕ) → filter P (xs ++ ys) ≡ filter P xs ++ filter P ys
filter_parts P [] ys = refl
filter_parts P (x ∷ xs) ys = go (P x) (filter_parts P xs ys) where
  go : (b : Bool) → filter P (xs ++ ys) ≡ filter P xs ++ filter P ys → cond b (x ∷ filter P (xs ++ ys)) (filter P (xs ++ ys)) ≡ cond b (x ∷ filter P xs) (filter P xs) ++ filter P ys
  go true ih = ap (λ zs. x ∷ zs) ih
  go false ih = ih

pub block_found : (P : ℕ → Bool) (most : ℕ) (found now target : List ℕ) (blocks rest : List (ℕ × List Bool)) (e : ℕ × List Bool)
    → now ≡ take most (found ++ filter P (numbers_of e)) → blocks ≡ e ∷ rest
    → take most (found ++ filter P (numbers_in blocks)) ≡ target → take most (now ++ filter P (numbers_in rest)) ≡ target
block_found P most found now target blocks rest e more step inv =
    ap (λ ns. take most (ns ++ filter P (numbers_in rest))) more ∙ take_again most (found ++ filter P (numbers_of e)) (filter P (numbers_in rest))
    ∙ ap (take most) (append_assoc found (filter P (numbers_of e)) (filter P (numbers_in rest)))
    ∙ ap (λ ns. take most (found ++ ns)) (sym (filter_parts P (numbers_of e) (numbers_in rest)))
    ∙ ap (λ bs. take most (found ++ filter P (numbers_in bs))) (sym step) ∙ inv

-- ---- blocks that are passed over
none_pass : (P Q : ℕ → Bool) (k s : ℕ) → ((n : ℕ) → s ≤ n → n < s + k → Q n ≡ true → P n ≡ false) → filter P (filter Q (range_with_len s k)) ≡ []
none_pass P Q zero s none = refl
none_pass P Q (suc k) s none = go (Q s) refl (none_pass P Q k (s + 1) (λ n le lt. none n (omega arith) (omega arith))) where
  go : (b : Bool) → Q s ≡ b → filter P (filter Q (range_with_len (s + 1) k)) ≡ [] → filter P (cond b (s ∷ filter Q (range_with_len (s + 1) k)) (filter Q (range_with_len (s + 1) k))) ≡ []
  go false e ih = ih
  go true e ih = ap (λ b. cond b (s ∷ filter P (filter Q (range_with_len (s + 1) k))) (filter P (filter Q (range_with_len (s + 1) k)))) (none s (omega arith) (omega arith) e) ∙ ih

block_passed : (P : ℕ → Bool) (e : ℕ × List Bool) → ((n : ℕ) → e.0 * 16 ≤ n → n < e.0 * 16 + 16 → is_flagged (Some e.1) n ≡ true → P n ≡ false) → filter P (numbers_of e) ≡ []
unfolding sixteen
block_passed P e none = none_pass P (is_flagged (Some e.1)) 16 (e.0 * 16) none

-- a block from 2 ^ 60 on has no numbers
pub none_so_high : (P : ℕ → Bool) (b : ℕ) (flags : List Bool) → 2 ^ 64 ≤ b * 16 → filter P (numbers_of (b, flags)) ≡ []
none_so_high P b flags high = block_passed P (b, flags) (λ n le lt e.
    let low : n < 2 ^ 64 = ltb-true n (2 ^ 64) (both _ _ e).0 in
    absurd (omega arith))

not_from : (a q : ℕ) → range_contains nat_cmp (Included a) Unbounded q ≡ false → q < a
not_from a q f = go (nat_cmp a q) refl f where
  go : (o : Ordering) → o ≡ nat_cmp a q → (is_le o && true) ≡ false → q < a
  go Less is f = absurd (false≢true (sym f))
  go Equal is f = absurd (false≢true (sym f))
  go Greater is f = ranked a q Greater is

pub blocks_passed : (P : ℕ → Bool) (from : ℕ) → ((n : ℕ) → P n ≡ true → from < n) → (blocks : List (ℕ × List Bool))
    → filter P (numbers_in (filter (λ e. range_contains nat_cmp (Included (from / 16)) Unbounded e.0) blocks)) ≡ filter P (numbers_in blocks)
blocks_passed P from above [] = refl
blocks_passed P from above (e ∷ es) = go (range_contains nat_cmp (Included (from / 16)) Unbounded e.0) refl (blocks_passed P from above es) where
  these : List (ℕ × List Bool)
  these = filter (λ e. range_contains nat_cmp (Included (from / 16)) Unbounded e.0) es

  go : (b : Bool) → range_contains nat_cmp (Included (from / 16)) Unbounded e.0 ≡ b → filter P (numbers_in these) ≡ filter P (numbers_in es)
      → filter P (numbers_in (cond b (e ∷ these) these)) ≡ filter P (numbers_of e ++ numbers_in es)
  go true f ih = filter_parts P (numbers_of e) (numbers_in these) ∙ ap (λ ns. filter P (numbers_of e) ++ ns) ih ∙ sym (filter_parts P (numbers_of e) (numbers_in es))
  go false f ih =
      let less : e.0 < from / 16 = not_from (from / 16) e.0 f in
      ih ∙ sym (filter_parts P (numbers_of e) (numbers_in es) ∙ ap (λ ns. ns ++ filter P (numbers_in es)) (block_passed P e (λ n le lt h. false_from_ne_true (P n) (λ p.
      let more : from < n = above n p in
      absurd (omega arith)))))

-- ---- the list of all numbers
named_in : (k s n : ℕ) → s ≤ n → n < s + k → names_row (range_with_len s k) n ≡ true
named_in zero s n le lt = absurd (omega arith)
named_in (suc k) s n le lt = go (s == n) refl (λ l. named_in k (s + 1) n l (omega arith)) where
  go : (b : Bool) → (s == n) ≡ b → (s + 1 ≤ n → names_row (range_with_len (s + 1) k) n ≡ true) → (b || names_row (range_with_len (s + 1) k) n) ≡ true
  go true e ih = refl
  go false e ih =
      let apart : s ≡ n → ⊥ = eqb-false s n e in
      ih (omega arith)

named_out : (k s n : ℕ) → (s ≤ n → n < s + k → ⊥) → names_row (range_with_len s k) n ≡ false
named_out zero s n out = refl
named_out (suc k) s n out =
    ap (λ b. b || names_row (range_with_len (s + 1) k) n) (ne_eqb s n (λ e. out (omega arith) (omega arith)))
    ∙ named_out k (s + 1) n (λ le lt. out (omega arith) (omega arith))

names_sixteen : (b n : ℕ) → names_row (sixteen b) n ≡ (b == n / 16)
unfolding sixteen
names_sixteen b n = go (b == n / 16) refl where
  go : (v : Bool) → (b == n / 16) ≡ v → names_row (range_with_len (b * 16) 16) n ≡ v
  go true e =
      let same : b ≡ n / 16 = eqb-true b (n / 16) e in
      named_in 16 (b * 16) n (omega arith) (omega arith)
  go false e =
      let apart : b ≡ n / 16 → ⊥ = eqb-false b (n / 16) e in
      named_out 16 (b * 16) n (λ le lt. apart (omega arith))

names_block : (e : ℕ × List Bool) (n : ℕ) → names_row (numbers_of e) n ≡ ((e.0 == n / 16) && is_flagged (Some e.1) n)
names_block e n = names_filter (is_flagged (Some e.1)) (sixteen e.0) n ∙ ap (λ b. b && is_flagged (Some e.1) n) (names_sixteen e.0 n)

-- the number's block is before these
names_none : (blocks : List (ℕ × List Bool)) (n : ℕ) → list_all (nat_lt (n / 16)) (keys_of blocks) ≡ true → names_row (numbers_in blocks) n ≡ false
names_none [] n before = refl
names_none (e ∷ es) n before =
    let less : n / 16 < e.0 = ltb-true (n / 16) e.0 (both _ _ before).0 in
    list_any-append (λ id. id == n) (numbers_of e) (numbers_in es)
    ∙ ap (λ b. b || names_row (numbers_in es) n) (names_block e n ∙ ap (λ b. b && is_flagged (Some e.1) n) (ne_eqb e.0 (n / 16) (λ same. omega arith)))
    ∙ names_none es n (both _ _ before).1

pub names_among : (blocks : List (ℕ × List Bool)) (n : ℕ) → are_rising (keys_of blocks) ≡ true → names_row (numbers_in blocks) n ≡ is_among blocks n
names_among [] n rising = refl
names_among (e ∷ es) n rising =
    list_any-append (λ id. id == n) (numbers_of e) (numbers_in es) ∙ ap (λ b. b || names_row (numbers_in es) n) (names_block e n)
    ∙ go (e.0 == n / 16) refl (names_among es n (both _ _ rising).1)
    ∙ ap (λ b. is_flagged (cond b (Some e.1) (lookup (is_at (nat_cmp (n / 16))) es)) n) (nat_eq_equiv.symm e.0 (n / 16) ∙ unsigned_ties (n / 16) e.0) where
      none : (b : Bool) → (b || false) ≡ b
      none true = refl
      none false = refl

      go : (v : Bool) → (e.0 == n / 16) ≡ v → names_row (numbers_in es) n ≡ is_among es n → ((v && is_flagged (Some e.1) n) || names_row (numbers_in es) n) ≡ is_flagged (cond v (Some e.1) (lookup (is_at (nat_cmp (n / 16))) es)) n
      go true t ih =
          let before : list_all (nat_lt (n / 16)) (keys_of es) ≡ true = ap (λ b. list_all (nat_lt b) (keys_of es)) (sym (eqb-true e.0 (n / 16) t)) ∙ (both _ _ rising).0 in
          ap (λ b. is_flagged (Some e.1) n || b) (names_none es n before) ∙ none (is_flagged (Some e.1) n)
      go false t ih = ih

-- ---- and that it rises
range_above : (k s m : ℕ) → m < s → list_all (nat_lt m) (range_with_len s k) ≡ true
range_above zero s m lt = refl
range_above (suc k) s m lt = ap (λ b. b && list_all (nat_lt m) (range_with_len (s + 1) k)) (lt-ltb m s lt) ∙ range_above k (s + 1) m (omega arith)

range_rising : (k s : ℕ) → are_rising (range_with_len s k) ≡ true
range_rising zero s = refl
range_rising (suc k) s = ap (λ b. b && are_rising (range_with_len (s + 1) k)) (range_above k (s + 1) s (omega arith)) ∙ range_rising k (s + 1)

range_under : (k s m : ℕ) → s + k ≤ m → list_all (λ n. nat_lt n m) (range_with_len s k) ≡ true
range_under zero s m le = refl
range_under (suc k) s m le = ap (λ b. b && list_all (λ n. nat_lt n m) (range_with_len (s + 1) k)) (lt-ltb s m (omega arith)) ∙ range_under k (s + 1) m (omega arith)

range_from : (k s m : ℕ) → m ≤ s → list_all (λ n. not (nat_lt n m)) (range_with_len s k) ≡ true
range_from zero s m le = refl
range_from (suc k) s m le = ap (λ b. not b && list_all (λ n. not (nat_lt n m)) (range_with_len (s + 1) k)) (le-ltb s m le) ∙ range_from k (s + 1) m (omega arith)

all_filtered : (T P : ℕ → Bool) (ns : List ℕ) → list_all T ns ≡ true → list_all T (filter P ns) ≡ true
all_filtered T P [] h = refl
all_filtered T P (n ∷ ns) h = go (P n) (all_filtered T P ns (both _ _ h).1) where
  go : (b : Bool) → list_all T (filter P ns) ≡ true → list_all T (cond b (n ∷ filter P ns) (filter P ns)) ≡ true
  go true ih = ap (λ b. b && list_all T (filter P ns)) (both _ _ h).0 ∙ ih
  go false ih = ih

all_parts : (T : ℕ → Bool) (xs ys : List ℕ) → list_all T xs ≡ true → list_all T ys ≡ true → list_all T (xs ++ ys) ≡ true
all_parts T [] ys h g = g
all_parts T (x ∷ xs) ys h g = ap (λ b. b && list_all T (xs ++ ys)) (both _ _ h).0 ∙ all_parts T xs ys (both _ _ h).1 g

all_weaker : (T U : ℕ → Bool) → ((n : ℕ) → T n ≡ true → U n ≡ true) → (ns : List ℕ) → list_all T ns ≡ true → list_all U ns ≡ true
all_weaker T U weaker [] h = refl
all_weaker T U weaker (n ∷ ns) h = ap (λ b. b && list_all U ns) (weaker n (both _ _ h).0) ∙ all_weaker T U weaker ns (both _ _ h).1

-- xs are below m, and ys aren't
rising_parts : (m : ℕ) (xs ys : List ℕ) → are_rising xs ≡ true → are_rising ys ≡ true → list_all (λ n. nat_lt n m) xs ≡ true → list_all (λ n. not (nat_lt n m)) ys ≡ true → are_rising (xs ++ ys) ≡ true
rising_parts m [] ys r s u o = s
rising_parts m (x ∷ xs) ys r s u o =
    ap (λ b. b && are_rising (xs ++ ys)) (all_parts (nat_lt x) xs ys (both _ _ r).0 (all_weaker (λ n. not (nat_lt n m)) (nat_lt x) over ys o))
    ∙ rising_parts m xs ys (both _ _ r).1 s (both _ _ u).1 o where
      over : (n : ℕ) → not (nat_lt n m) ≡ true → nat_lt x n ≡ true
      over n h =
          let below : x < m = ltb-true x m (both _ _ u).0 in
          let above : m ≤ n = ltb-false n m (not-true (nat_lt n m) h) in
          lt-ltb x n (omega arith)

from_block : (m : ℕ) (blocks : List (ℕ × List Bool)) → list_all (nat_lt m) (keys_of blocks) ≡ true → list_all (λ n. not (nat_lt n (m * 16 + 16))) (numbers_in blocks) ≡ true
unfolding sixteen
from_block m [] before = refl
from_block m (e ∷ es) before =
    let less : m < e.0 = ltb-true m e.0 (both _ _ before).0 in
    all_parts (λ n. not (nat_lt n (m * 16 + 16))) (numbers_of e) (numbers_in es)
    (all_filtered (λ n. not (nat_lt n (m * 16 + 16))) (is_flagged (Some e.1)) (sixteen e.0) (range_from 16 (e.0 * 16) (m * 16 + 16) (omega arith)))
    (from_block m es (both _ _ before).1)

pub all_rising : (blocks : List (ℕ × List Bool)) → are_rising (keys_of blocks) ≡ true → are_rising (numbers_in blocks) ≡ true
unfolding sixteen
all_rising [] rising = refl
all_rising (e ∷ es) rising =
    rising_parts (e.0 * 16 + 16) (numbers_of e) (numbers_in es) (filter_rising (is_flagged (Some e.1)) (sixteen e.0) (range_rising 16 (e.0 * 16))) (all_rising es (both _ _ rising).1)
    (all_filtered (λ n. nat_lt n (e.0 * 16 + 16)) (is_flagged (Some e.1)) (sixteen e.0) (range_under 16 (e.0 * 16) (e.0 * 16 + 16) (omega arith)))
    (from_block e.0 es (both _ _ rising).0)
