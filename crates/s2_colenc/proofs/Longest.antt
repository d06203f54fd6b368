-- The longest runs, taken from the front one by one.
use Rattle.std.proofs.Common.{◌≡◌, ℕ, suc, ◌+◌, ◌≤◌, Bool, true, false, List, [], ◌∷◌, length, get_or, take, drop, ◌-◌, sym, ap, refl, ◌∙◌, arith}
use Rattle.std.specs.List.{sum_by}
use Rattle.std.proofs.lemmas.List.{take_all, length-drop}
use Rattle.std.proofs.lemmas.List.Sums.{sum_by-cons}
use Rattle.s2_value.specs.declared.values.Value.{Value}
use Rattle.s2_value.specs.Order.{value_eq, same_value}
use Rattle.s2_colenc.specs.Written.{with_run, runs_of}
use Rattle.s2_colenc.specs.Sizes.{leading, entry_size, runs_size}

join : (v w : Value) (b : Bool) (vals : List Value) → value_eq v w ≡ b → runs_of (w ∷ vals) ≡ (w, leading w vals + 1) ∷ runs_of (drop (leading w vals) vals) → runs_of (v ∷ w ∷ vals) ≡ (v, leading v (w ∷ vals) + 1) ∷ runs_of (drop (leading v (w ∷ vals)) (w ∷ vals))
join v w true vals e h =
    let same : v ≡ w = same_value v w e in
    let lead : leading v (w ∷ vals) ≡ suc (leading w vals) = rw e (ap (λ (x : Value). leading x vals + 1) same ∙ (let a : leading w vals + 1 ≡ suc (leading w vals) = omega arith in a)) in
    let first : with_run v (runs_of (w ∷ vals)) ≡ (v, leading w vals + 1 + 1) ∷ runs_of (drop (leading w vals) vals) = ap (with_run v) h ∙ rw e refl in
    first ∙ sym (ap (λ (k : ℕ). (v, k + 1) ∷ runs_of (drop k (w ∷ vals))) lead ∙ ap (λ (k : ℕ). (v, k) ∷ runs_of (drop (leading w vals) vals)) (let b : suc (leading w vals) + 1 ≡ leading w vals + 1 + 1 = omega arith in b))
join v w false vals e h =
    let lead : leading v (w ∷ vals) ≡ 0 = rw e refl in
    let first : with_run v (runs_of (w ∷ vals)) ≡ (v, 1) ∷ runs_of (w ∷ vals) = ap (with_run v) h ∙ rw e (ap (λ (rs : List (Value × ℕ)). (v, 1) ∷ rs) (sym h)) in
    first ∙ sym (ap (λ (k : ℕ). (v, k + 1) ∷ runs_of (drop k (w ∷ vals))) lead)

-- the first run, and those after it
pub runs_next : (v : Value) (vals : List Value) → runs_of (v ∷ vals) ≡ (v, leading v vals + 1) ∷ runs_of (drop (leading v vals) vals)
runs_next v [] = refl
runs_next v (w ∷ vals) = join v w (value_eq v w) vals refl (runs_next w vals)

pub size_next : (v : Value) (vals : List Value) → runs_size (v ∷ vals) ≡ 2 + entry_size v + runs_size (drop (leading v vals) vals)
size_next v vals =
    ap (λ (rs : List (Value × ℕ)). sum_by (λ run. 2 + entry_size run.0) rs) (runs_next v vals)
    ∙ sum_by-cons (λ (run : Value × ℕ). 2 + entry_size run.0) (v, leading v vals + 1) (runs_of (drop (leading v vals) vals))

-- a list is its first item and those after it
pub front_is : {X : Type 0} (xs : List X) (d : X) → 1 ≤ length xs → xs ≡ get_or xs 0 d ∷ drop 1 xs
front_is [] d l = absurd (omega arith)
front_is (x ∷ xs) d l = refl

-- the first run of a list, and the values after it
pub record Step (left : List Value) (first : Value) (n : ℕ) (later : List Value) : Type 0 where
  pub runs : runs_of left ≡ (first, n + 1) ∷ runs_of later
  pub size : runs_size left ≡ 2 + entry_size first + runs_size later
  pub fewer : length later + 1 ≤ length left

pub step : (left : List Value) (first d : Value) (n : ℕ) (rest later : List Value) → 1 ≤ length left → first ≡ get_or left 0 d → rest ≡ take (length left - 1) (drop 1 left) → n ≡ leading first rest → later ≡ drop n rest → Step left first n later
step left first d n rest later l f r c b =
    let len = length-drop 1 left in
    let rest_is : rest ≡ drop 1 left = r ∙ take_all (length left - 1) (drop 1 left) (omega arith) in
    let left_is : left ≡ first ∷ rest = front_is left d l ∙ cons_is (sym f) (sym rest_is) in
    let after : drop (leading first rest) rest ≡ later = ap (λ (k : ℕ). drop k rest) (sym c) ∙ sym b in
    let left_len : length left ≡ suc (length rest) = ap (λ (xs : List Value). length xs) left_is in
    let later_len : length later ≡ length rest - n = ap (λ (xs : List Value). length xs) b ∙ length-drop n rest in
    record {
      runs = ap runs_of left_is ∙ runs_next first rest ∙ ap (λ (k : ℕ). (first, k + 1) ∷ runs_of (drop (leading first rest) rest)) (sym c) ∙ ap (λ (xs : List Value). (first, n + 1) ∷ runs_of xs) after;
      size = ap runs_size left_is ∙ size_next first rest ∙ ap (λ (xs : List Value). 2 + entry_size first + runs_size xs) after;
      fewer = omega arith;
    }
  where
    cons_is : {a b : Value} {xs ys : List Value} → a ≡ b → xs ≡ ys → a ∷ xs ≡ b ∷ ys
    cons_is p q = cc
