-- Lists and tuples are read as they are written, and what is read is of its type.
use Rattle.std.proofs.Common.{◌≡◌, ◌⊎◌, ℕ, zero, suc, ◌+◌, ◌<◌, ◌≤◌, Bool, true, false, cond, List, [], ◌∷◌, ◌++◌, length, drop, Option, Some, None, Result, Err, refl, sym, ap, subst, ◌∙◌, append_assoc, inl, inr, arith, length-append, codes}
use Rattle.std.specs.List.{flat_map, AllByRecursion}
use Rattle.std.specs.Option.{option_map_or}
use Rattle.s2_value.specs.RowText.{separated}
use Rattle.s2_token.specs.Lexing.{◌>>=◌}
use Rattle.s2_token.proofs.Tools.{bind_some, some_is}
use Rattle.s2_outread.specs.declared.stops.Stop.{Stop}
use Rattle.s2_outread.specs.declared.stops.Stop.TheVariants.{Refused, Memory}
use Rattle.s2_outread.specs.Reading.{Fails, Gives, with_front, Reader, after, begins, items_at, list_at, tuple_at, comma_at}
use Rattle.s2_outread.proofs.Tools.{after_again}
use Rattle.s2_outread.proofs.TokenLaws.{Closes, after_none}

-- what an item's reader does: it reads an item as it is written, and what it reads is right
pub record Reads {A : Type 0} (at : Reader A) (text : A → List ℕ) (fits : A → Type 0) : Type 0 where
  pub again : (a : A) (rest : List ℕ) → fits a → Closes rest → at (text a ++ rest) ≡ Some (a, rest)
  pub typed : (bytes : List ℕ) (y : A × List ℕ) → at bytes ≡ Some y → fits y.0

abbrev pub later_text : {A : Type 0} → (A → List ℕ) → List A → List ℕ
later_text text xs = flat_map (λ y. codes ", " ++ text y) xs

pub map_or_some : {A B : Type 0} (f : A → Option B) (o : Option A) (other : Option B) (y : B) → option_map_or f o other ≡ Some y → ((x : A) × (o ≡ Some x) × (f x ≡ Some y)) ⊎ (other ≡ Some y)
map_or_some f (Some x) other y e = inl (x, refl, e)
map_or_some f None other y e = inr e

items_again : {A : Type 0} (at : Reader A) (text : A → List ℕ) (fits : A → Type 0) → Reads at text fits
    → (left : List ℕ) (x : A) (xs : List A) (rest : List ℕ) → length (x ∷ xs) ≤ length left → AllByRecursion fits (x ∷ xs) → Closes rest → after (codes ", ") rest ≡ None
    → items_at at left ((text x ++ later_text text xs) ++ rest) ≡ Some (x ∷ xs, rest)
unfolding items_at comma_at
items_again {A} at text fits reads [] x xs rest few fit end none = absurd (omega arith)
items_again {A} at text fits reads (t ∷ left) x [] rest few fit end none =
    ap (items_at at (t ∷ left)) (append_assoc (text x) [] rest)
    ∙ ap (λ (o : Option (A × List ℕ)). o >>= λ u. option_map_or (λ r. items_at at left r >>= λ y. Some (u.0 ∷ y.0, y.1)) (comma_at u.1) (Some (u.0 ∷ [], u.1))) (reads.again x rest fit.0 end)
    ∙ ap (λ (o : Option (List ℕ)). option_map_or (λ r. items_at at left r >>= λ y. Some (x ∷ y.0, y.1)) o (Some (x ∷ [], rest))) none
items_again {A} at text fits reads (t ∷ left) x (y ∷ ys) rest few fit end none =
    let next : List ℕ = (text y ++ later_text text ys) ++ rest in
    let tail : List ℕ = later_text text (y ∷ ys) ++ rest in
    let closes : Closes tail = record { number = refl; quote = refl } in
    let fewer : length (y ∷ ys) ≤ length left = omega arith in
    ap (items_at at (t ∷ left)) (append_assoc (text x) (later_text text (y ∷ ys)) rest)
    ∙ ap (λ (o : Option (A × List ℕ)). o >>= λ u. option_map_or (λ r. items_at at left r >>= λ y. Some (u.0 ∷ y.0, y.1)) (comma_at u.1) (Some (u.0 ∷ [], u.1))) (reads.again x tail fit.0 closes)
    ∙ ap (λ (o : Option (List ℕ)). option_map_or (λ r. items_at at left r >>= λ y. Some (x ∷ y.0, y.1)) o (Some (x ∷ [], tail))) (after_again (codes ", ") next)
    ∙ ap (λ (o : Option (List A × List ℕ)). o >>= λ z. Some (x ∷ z.0, z.1)) (items_again at text fits reads left y ys rest fewer fit.1 end none)

later_long : {A : Type 0} (text : A → List ℕ) (xs : List A) → length xs ≤ length (later_text text xs)
later_long text [] = omega arith
later_long text (x ∷ xs) =
    let rest = later_long text xs in
    omega (arith, length-append (codes ", " ++ text x) (later_text text xs), rest)

list_long : {A : Type 0} (text : A → List ℕ) (x : A) (xs : List A) (rest : List ℕ) → 1 ≤ length rest → length (x ∷ xs) ≤ length ((text x ++ later_text text xs) ++ rest)
list_long text x xs rest some =
    omega (arith, some, length-append (text x ++ later_text text xs) rest, length-append (text x) (later_text text xs), later_long text xs)

pub list_again : {A : Type 0} {at : Reader A} {text : A → List ℕ} {fits : A → Type 0} → Reads at text fits
    → (x : A) (xs : List A) (rest : List ℕ) → AllByRecursion fits (x ∷ xs) → 1 ≤ length rest → Closes rest → after (codes ", ") rest ≡ None
    → list_at at (separated (codes ", ") text (x ∷ xs) ++ rest) ≡ Some (x ∷ xs, rest)
list_again {A} {at} {text} {fits} reads x xs rest fit some end none =
    items_again at text fits reads ((text x ++ later_text text xs) ++ rest) x xs rest (list_long text x xs rest some) fit end none

pub items_typed : {A : Type 0} (at : Reader A) (text : A → List ℕ) (fits : A → Type 0) → Reads at text fits
    → (left bytes : List ℕ) (y : List A × List ℕ) → items_at at left bytes ≡ Some y → AllByRecursion fits y.0
unfolding items_at comma_at
items_typed {A} at text fits reads [] bytes y e = absurd cc
items_typed {A} at text fits reads (t ∷ left) bytes y e =
    let P : List A × List ℕ → Type 0 = λ z. AllByRecursion fits z.0 in
    let a = bind_some (at bytes) (λ u. option_map_or (λ r. items_at at left r >>= λ y. Some (u.0 ∷ y.0, y.1)) (comma_at u.1) (Some (u.0 ∷ [], u.1))) y e in
    let item : fits a.0.0 = reads.typed bytes a.0 a.1 in
    elim (map_or_some (λ r. items_at at left r >>= λ y. Some (a.0.0 ∷ y.0, y.1)) (comma_at a.0.1) (Some (a.0.0 ∷ [], a.0.1)) y a.2) [
      | inl m ↦
          let b = bind_some (items_at at left m.0) (λ y. Some (a.0.0 ∷ y.0, y.1)) y m.2 in
          subst P (some_is (a.0.0 ∷ b.0.0, b.0.1) y b.2) (item, items_typed at text fits reads left m.0 b.0 b.1)
      | inr n ↦ subst P (some_is (a.0.0 ∷ [], a.0.1) y n) (item, tt)
    ]

-- ---- the loop

pub err_gives : {X Y : Type 0} (view : X → Y) (r : Result X Stop) (read : Option Y) (e : Stop) → r ≡ Err e → Fails e read → Gives view r read
err_gives {X} view r read e is f = subst (λ (q : Result X Stop). Gives view q read) (sym is) f

drop_more : (i : ℕ) (bytes : List ℕ) → i < length bytes → (b : ℕ) × (drop i bytes ≡ b ∷ drop (suc i) bytes)
drop_more zero [] lt = absurd (omega arith)
drop_more zero (b ∷ bytes) lt = (b, refl)
drop_more (suc i) [] lt = absurd (omega arith)
drop_more (suc i) (b ∷ bytes) lt = drop_more i bytes (omega arith)

-- what is left is read with one more byte to count by
counted_at : {A : Type 0} (at : Reader A) (acc : List A) (i : ℕ) (bytes left : List ℕ) → i < length bytes → with_front acc (items_at at (drop i bytes) left) ≡ items_at at bytes bytes
    → with_front acc (at left >>= λ x. option_map_or (λ r. items_at at (drop (suc i) bytes) r >>= λ y. Some (x.0 ∷ y.0, y.1)) (comma_at x.1) (Some (x.0 ∷ [], x.1))) ≡ items_at at bytes bytes
unfolding items_at
counted_at at acc i bytes left lt inv =
    let d = drop_more i bytes lt in
    ap (λ (l : List ℕ). with_front acc (items_at at l left)) (sym d.1) ∙ inv

pub list_fails : {A : Type 0} (at : Reader A) (acc : List A) (i : ℕ) (bytes left : List ℕ) (e : Stop) → i < length bytes → with_front acc (items_at at (drop i bytes) left) ≡ items_at at bytes bytes
    → Fails e (at left) → Fails e (list_at at bytes)
list_fails at acc i bytes left Memory lt inv f = tt
list_fails {A} at acc i bytes left Refused lt inv f =
    sym (counted_at at acc i bytes left lt inv)
    ∙ ap (λ (o : Option (A × List ℕ)). with_front acc (o >>= λ x. option_map_or (λ r. items_at at (drop (suc i) bytes) r >>= λ y. Some (x.0 ∷ y.0, y.1)) (comma_at x.1) (Some (x.0 ∷ [], x.1)))) f

pub list_last : {A : Type 0} (at : Reader A) (acc : List A) (i : ℕ) (bytes left : List ℕ) (x : A) (rest : List ℕ) → i < length bytes → with_front acc (items_at at (drop i bytes) left) ≡ items_at at bytes bytes
    → at left ≡ Some (x, rest) → comma_at rest ≡ None → list_at at bytes ≡ Some (acc ++ x ∷ [], rest)
list_last {A} at acc i bytes left x rest lt inv read none =
    sym (counted_at at acc i bytes left lt inv)
    ∙ ap (λ (o : Option (A × List ℕ)). with_front acc (o >>= λ x. option_map_or (λ r. items_at at (drop (suc i) bytes) r >>= λ y. Some (x.0 ∷ y.0, y.1)) (comma_at x.1) (Some (x.0 ∷ [], x.1)))) read
    ∙ ap (λ (o : Option (List ℕ)). with_front acc (option_map_or (λ r. items_at at (drop (suc i) bytes) r >>= λ y. Some (x ∷ y.0, y.1)) o (Some (x ∷ [], rest)))) none

front_more : {A : Type 0} (acc : List A) (x : A) (o : Option (List A × List ℕ)) → with_front (acc ++ x ∷ []) o ≡ with_front acc (o >>= λ y. Some (x ∷ y.0, y.1))
front_more acc x None = refl
front_more {A} acc x (Some y) = ap (λ (l : List A). Some (l, y.1)) (append_assoc acc (x ∷ []) y.0)

pub list_step : {A : Type 0} (at : Reader A) (acc : List A) (i : ℕ) (bytes left : List ℕ) (x : A) (rest later : List ℕ) → i < length bytes → with_front acc (items_at at (drop i bytes) left) ≡ items_at at bytes bytes
    → at left ≡ Some (x, rest) → comma_at rest ≡ Some later → with_front (acc ++ x ∷ []) (items_at at (drop (i + 1) bytes) later) ≡ items_at at bytes bytes
list_step {A} at acc i bytes left x rest later lt inv read some =
    let next : i + 1 ≡ suc i = omega arith in
    ap (λ (n : ℕ). with_front (acc ++ x ∷ []) (items_at at (drop n bytes) later)) next
    ∙ front_more acc x (items_at at (drop (suc i) bytes) later)
    ∙ ap (λ (o : Option (List ℕ)). with_front acc (option_map_or (λ r. items_at at (drop (suc i) bytes) r >>= λ y. Some (x ∷ y.0, y.1)) o (Some (x ∷ [], rest)))) (sym some)
    ∙ ap (λ (o : Option (A × List ℕ)). with_front acc (o >>= λ x. option_map_or (λ r. items_at at (drop (suc i) bytes) r >>= λ y. Some (x.0 ∷ y.0, y.1)) (comma_at x.1) (Some (x.0 ∷ [], x.1)))) (sym read)
    ∙ counted_at at acc i bytes left lt inv

-- ---- tuples

abbrev pub tuple_text : {A : Type 0} → (A → List ℕ) → List A → List ℕ
tuple_text text xs = codes "(" ++ separated (codes ", ") text xs ++ codes ")"

abbrev closing : {A : Type 0} → Option (List A × List ℕ) → Option (List A × List ℕ)
closing o = o >>= λ x. after (codes ")") x.1 >>= λ r. Some (x.0, r)

pub tuple_again : {A : Type 0} {at : Reader A} {text : A → List ℕ} {fits : A → Type 0} → Reads at text fits → ((a : A) (rest : List ℕ) → fits a → begins 41 (text a ++ rest) ≡ false)
    → (xs : List A) (rest : List ℕ) → AllByRecursion fits xs → tuple_at at (tuple_text text xs ++ rest) ≡ Some (xs, rest)
unfolding tuple_at
tuple_again {A} {at} {text} {fits} reads open' [] rest fit =
    ap (λ (o : Option (List ℕ)). o >>= λ b. closing (cond (begins 41 b) (Some ([], b)) (list_at at b))) (after_again (codes "(") (41 ∷ rest))
    ∙ ap (λ (o : Option (List ℕ)). o >>= λ r. Some ([], r)) (after_again (codes ")") rest)
tuple_again {A} {at} {text} {fits} reads open' (x ∷ xs) rest fit =
    let inside : List ℕ = separated (codes ", ") text (x ∷ xs) ++ (41 ∷ rest) in
    let regrouped : tuple_text text (x ∷ xs) ++ rest ≡ codes "(" ++ inside = ap (λ (t : List ℕ). 40 ∷ t) (append_assoc (separated (codes ", ") text (x ∷ xs)) (codes ")") rest) in
    let closes : Closes (41 ∷ rest) = record { number = refl; quote = refl } in
    let first : begins 41 inside ≡ false =
    ap (begins 41) (append_assoc (text x) (later_text text xs) (41 ∷ rest)) ∙ open' x (later_text text xs ++ (41 ∷ rest)) fit.0 in
    ap (tuple_at at) regrouped
    ∙ ap (λ (o : Option (List ℕ)). o >>= λ b. closing (cond (begins 41 b) (Some ([], b)) (list_at at b))) (after_again (codes "(") inside)
    ∙ ap (λ (b : Bool). closing (cond b (Some ([], inside)) (list_at at inside))) first
    ∙ ap closing (list_again reads x xs (41 ∷ rest) fit (omega arith) closes (not_comma rest))
    ∙ ap (λ (o : Option (List ℕ)). o >>= λ r. Some (x ∷ xs, r)) (after_again (codes ")") rest)
  where
    not_comma : (rest : List ℕ) → after (codes ", ") (41 ∷ rest) ≡ None
    not_comma rest = after_none 44 (32 ∷ []) (41 ∷ rest) refl

pub tuple_typed : {A : Type 0} {at : Reader A} {text : A → List ℕ} {fits : A → Type 0} → Reads at text fits
    → (bytes : List ℕ) (y : List A × List ℕ) → tuple_at at bytes ≡ Some y → AllByRecursion fits y.0
unfolding tuple_at
tuple_typed {A} {at} {text} {fits} reads bytes y e =
    let P : List A × List ℕ → Type 0 = λ z. AllByRecursion fits z.0 in
    let a = bind_some (after (codes "(") bytes) (λ b. closing (cond (begins 41 b) (Some ([], b)) (list_at at b))) y e in
    let b = bind_some (cond (begins 41 a.0) (Some ([], a.0)) (list_at at a.0)) (λ x. after (codes ")") x.1 >>= λ r. Some (x.0, r)) y a.2 in
    let c = bind_some (after (codes ")") b.0.1) (λ r. Some (b.0.0, r)) y b.2 in
    subst P (some_is (b.0.0, c.0) y c.2) (inner (begins 41 a.0) a.0 b.0 b.1)
  where
    inner : (t : Bool) (bytes : List ℕ) (z : List A × List ℕ) → cond t (Some ([], bytes)) (list_at at bytes) ≡ Some z → AllByRecursion fits z.0
    inner true bytes z e = subst (λ (z : List A × List ℕ). AllByRecursion fits z.0) (some_is ([], bytes) z e) tt
    inner false bytes z e = items_typed at text fits reads bytes bytes z e
