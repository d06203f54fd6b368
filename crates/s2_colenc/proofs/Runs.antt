-- Runs: the run in which a value stands.
use Rattle.std.proofs.Common.{◌≡◌, ℕ, zero, suc, ◌+◌, ◌-◌, ◌<◌, ◌≤◌, true, false, nat_lt, nat_eq, List, [], ◌∷◌, length, get_or, drop, sum, replicate, sym, ap, refl, ◌∙◌, inl, inr, arith}
use Rattle.std.proofs.lemmas.Bool.{cases_lt}
use Rattle.std.proofs.lemmas.Bool.Decides.{nat_tests}
use Rattle.std.proofs.Math.Seq.{drop-cons}
use Rattle.std.proofs.lemmas.List.{length-append, length-replicate, get_or-replicate, get_or_append_left, get_or-append_right}
use Rattle.std.proofs.lemmas.List.Sums.{sum_by-cons, sum_by-drop_more}
use Rattle.s2_value.specs.declared.values.Value.{Value}
use Rattle.s2_colenc.specs.declared.views.Entries.{Entries}
use Rattle.s2_colenc.specs.declared.views.Body.{Body}
use Rattle.s2_colenc.specs.declared.views.Body.TheVariants as body
use Rattle.s2_colenc.specs.Column.{run_of, repeated, entry_values, values_of, is_whole}

pub run_stays : (l i : ℕ) (lens : List ℕ) → i < l → run_of (l ∷ lens) i ≡ 0
run_stays l i lens h = let e : nat_lt i l ≡ true = grind (arith, nat_tests) in rw e refl

pub run_goes : (l i : ℕ) (lens : List ℕ) → l ≤ i → run_of (l ∷ lens) i ≡ run_of lens (i - l) + 1
run_goes l i lens h = let e : nat_lt i l ≡ false = grind (arith, nat_tests) in rw e refl

sum_next : (l : ℕ) (lens : List ℕ) → sum (l ∷ lens) ≡ l + sum lens
sum_next l lens = sum_by-cons (λ (x : ℕ). x) l lens

sum_drop : (lens : List ℕ) (run : ℕ) → run < length lens → sum (drop run lens) ≡ get_or lens run 0 + sum (drop (run + 1) lens)
sum_drop lens run l = sum_by-drop_more (λ (x : ℕ). x) lens run 0 l

-- the run that the loop stands at
pub run_here : (lens : List ℕ) (run left : ℕ) → run < length lens → left < get_or lens run 0 → run_of (drop run lens) left ≡ 0
run_here lens run left l h = ap (λ (ls : List ℕ). run_of ls left) (drop-cons lens run 0 l) ∙ run_stays (get_or lens run 0) left (drop (suc run) lens) h

-- the runs after it
pub record Later (lens : List ℕ) (run left : ℕ) : Type 0 where
  pub place : run_of (drop run lens) left ≡ run_of (drop (run + 1) lens) (left - get_or lens run 0) + 1
  pub more : left - get_or lens run 0 < sum (drop (run + 1) lens)

pub run_later : (lens : List ℕ) (run left : ℕ) → run < length lens → get_or lens run 0 ≤ left → left < sum (drop run lens) → Later lens run left
run_later lens run left l h m =
    let next : suc run ≡ run + 1 = omega arith in
    let s = sum_drop lens run l in
    record {
      place = ap (λ (ls : List ℕ). run_of ls left) (drop-cons lens run 0 l) ∙ run_goes (get_or lens run 0) left (drop (suc run) lens) h ∙ ap (λ (k : ℕ). run_of (drop k lens) (left - get_or lens run 0) + 1) next;
      more = omega arith;
    }

drop_past : (lens : List ℕ) (run : ℕ) → length lens ≤ run → sum (drop run lens) ≡ 0
drop_past [] zero l = refl
drop_past [] (suc run) l = refl
drop_past (x ∷ lens) zero l = absurd (omega arith)
drop_past (x ∷ lens) (suc run) l = drop_past lens run (omega arith)

-- no value is left after the last run
pub run_ends : (lens : List ℕ) (run left : ℕ) → length lens ≤ run → left < sum (drop run lens) → run < length lens
run_ends lens run left l m = let z = drop_past lens run l in absurd (omega arith)

-- the run of a value is one of the runs
pub run_within : (lens : List ℕ) (i : ℕ) → i < sum lens → run_of lens i < length lens
run_within [] i l = absurd (omega arith)
run_within (x ∷ lens) i l = elim (cases_lt i x) [
  | inl here ↦ rw (run_stays x i lens here) (omega arith)
  | inr later ↦ (let s = sum_next x lens in let r = run_within lens (i - x) (omega arith) in rw (run_goes x i lens later) (omega arith))
]

pub length-repeated : (lens : List ℕ) (vals : List Value) → length lens ≡ length vals → length (repeated lens vals) ≡ sum lens
length-repeated [] vals e = refl
length-repeated (l ∷ lens) [] e = absurd (omega arith)
length-repeated (l ∷ lens) (v ∷ vals) e =
    length-append (replicate l v) (repeated lens vals) ∙ ap (λ (k : ℕ). k + length (repeated lens vals)) (length-replicate l v)
    ∙ ap (λ (k : ℕ). l + k) (length-repeated lens vals (omega arith)) ∙ sym (sum_next l lens)

-- a value is that of its run
pub get_or-repeated : (lens : List ℕ) (vals : List Value) (i : ℕ) (d : Value) → length lens ≡ length vals → i < sum lens → get_or (repeated lens vals) i d ≡ get_or vals (run_of lens i) d
get_or-repeated [] vals i d e l = absurd (omega arith)
get_or-repeated (x ∷ lens) [] i d e l = absurd (omega arith)
get_or-repeated (x ∷ lens) (v ∷ vals) i d e l =
    let len = length-replicate x v in
    let s = sum_next x lens in
    elim (cases_lt i x) [
      | inl here ↦ get_or_append_left (replicate x v) (repeated lens vals) d i (omega arith) ∙ get_or-replicate x i v d here ∙ sym (ap (λ (k : ℕ). get_or (v ∷ vals) k d) (run_stays x i lens here))
      | inr later ↦ get_or-append_right (replicate x v) (repeated lens vals) x i d len later ∙ get_or-repeated lens vals (i - x) d (omega arith) (omega arith)
          ∙ ap (λ (k : ℕ). get_or (v ∷ vals) k d) (let f : suc (run_of lens (i - x)) ≡ run_of lens (i - x) + 1 = omega arith in f ∙ sym (run_goes x i lens later))
    ]

-- a whole body of runs
pub record OfRuns (b : Body) (lens : List ℕ) (vals : Entries) (i : ℕ) : Type 0 where
  pub within : i < sum lens
  pub value : (v : Value) → get_or (values_of b) i v ≡ get_or (entry_values vals) (run_of lens i) v

pub of_runs : (b : Body) (lens : List ℕ) (vals : Entries) (i : ℕ) → b ≡ body.Runs lens vals → is_whole b ≡ true → i < length (values_of b) → OfRuns b lens vals i
of_runs b lens vals i e w l =
    let each : length lens ≡ length (entry_values vals) = same (length lens) (length (entry_values vals)) (sym (ap is_whole e) ∙ w) in
    let len : length (values_of b) ≡ sum lens = ap (λ (x : Body). length (values_of x)) e ∙ length-repeated lens (entry_values vals) each in
    let within : i < sum lens = omega arith in
    record { within = within; value = λ v. ap (λ (x : Body). get_or (values_of x) i v) e ∙ get_or-repeated lens (entry_values vals) i v each within }
  where
    same : (a b : ℕ) → nat_eq a b ≡ true → a ≡ b
    same a b h = grind (arith, nat_tests)
