-- What an INSERT puts fits.
use Rattle.std.proofs.Common.{◌≡◌, ℕ, suc, ◌<◌, ◌≤◌, Bool, true, false, List, [], ◌∷◌, length, refl, ap, ◌∙◌, arith}
use Rattle.std.specs.Prelude.{nat_lt, nat_le, nat_eq, filter, map, not, ◌&&◌, ◌||◌}
use Rattle.std.specs.List.{list_all}
use Rattle.std.proofs.lemmas.Bool.Decides.{nat_tests}
use Rattle.s2_value.specs.declared.schemas.Schema.{Schema}
use Rattle.s2_value.specs.Schemas.{fits}
use Rattle.s2_model.specs.declared.entries.Change.TheVariants.{Put}
use Rattle.s2_model.specs.Table.{RowOf, number_of}
use Rattle.s2_model.specs.Verdict.{puts_from}
use Rattle.s2_model.specs.Fits.{rise, rise_from, put_fits, put_on_from}

rise_on : (m n : ℕ) (xs : List RowOf) → m < n → rise_from m (map number_of (puts_from n xs)) ≡ true
rise_on m n [] lt = refl
rise_on m n (x ∷ xs) lt = let b : nat_lt m n ≡ true = grind (arith, nat_tests) in rw b (rise_on n (suc n) xs (omega arith))

pub puts_rise : (n : ℕ) (xs : List RowOf) → rise (map number_of (puts_from n xs)) ≡ true
puts_rise n [] = refl
puts_rise n (x ∷ xs) = rise_on n (suc n) xs (omega arith)

pub puts_fit : (schema : Schema) (n : ℕ) (xs : List RowOf) → list_all (put_fits schema) (puts_from n xs) ≡ list_all (fits schema) xs
puts_fit schema n [] = refl
puts_fit schema n (x ∷ xs) = ap (λ b. fits schema x && b) (puts_fit schema (suc n) xs)

pub puts_new_only : (m n : ℕ) (p : ℕ → Bool) (xs : List RowOf) → m ≤ n
    → list_all (λ c. not (nat_lt (number_of c) m) || p (number_of c)) (puts_from n xs) ≡ true
puts_new_only m n p [] le = refl
puts_new_only m n p (x ∷ xs) le =
    let b : nat_lt n m ≡ false = grind (arith, nat_tests) in
    rw b (puts_new_only m (suc n) p xs (omega arith))

puts_kept : (m n : ℕ) (xs : List RowOf) → m ≤ n → filter (λ c. nat_le m (number_of c)) (puts_from n xs) ≡ puts_from n xs
puts_kept m n [] le = refl
puts_kept m n (x ∷ xs) le =
    let b : nat_le m n ≡ true = grind (arith, nat_tests) in
    rw b (ap (λ cs. Put n x ∷ cs) (puts_kept m (suc n) xs (omega arith)))

puts_run : (n : ℕ) (xs : List RowOf) → put_on_from n (puts_from n xs) ≡ true
puts_run n [] = refl
puts_run n (x ∷ xs) = let b : nat_eq n n ≡ true = grind (arith, nat_tests) in rw b (puts_run (suc n) xs)

pub puts_run_on : (n : ℕ) (xs : List RowOf) → put_on_from n (filter (λ c. nat_le n (number_of c)) (puts_from n xs)) ≡ true
puts_run_on n xs = ap (put_on_from n) (puts_kept n n xs (omega arith)) ∙ puts_run n xs

pub length-puts_from : (n : ℕ) (xs : List RowOf) → length (puts_from n xs) ≡ length xs
length-puts_from n [] = refl
length-puts_from n (x ∷ xs) = ap (λ k. suc k) (length-puts_from (suc n) xs)
