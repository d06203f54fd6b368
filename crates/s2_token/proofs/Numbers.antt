-- The value of a number's digits.
use Rattle.std.proofs.Common.{◌≡◌, ℕ, ◌+◌, ◌-◌, ◌*◌, ◌<◌, ◌≤◌, min, true, List, length, take, get_or, arith, ap, ◌∙◌}
use Rattle.std.specs.Char.{digit_value}
use Rattle.std.specs.List.{prefix_len}
use Rattle.std.specs.Str.Parse.{digits_value}
use Rattle.std.proofs.lemmas.Bool.Decides.{nat_tests}
use Rattle.std.proofs.lemmas.Int.Digits.{digits_value_more}
use Rattle.std.proofs.lemmas.List.Sums.{prefix_len_passes}
use Rattle.std.proofs.lemmas.List.Folds.{length-prefix_len}
use Rattle.std.proofs.lemmas.Str.{digit_value_digit}
use Rattle.std.proofs.Common.{get_or-take}
use Rattle.s2_token.specs.Words.{is_digit}
use Rattle.s2_token.specs.Lexing.{most_number}

digit_is : (d : ℕ) → is_digit d ≡ true → digit_value d ≡ d - 48
digit_is d h =
    let low : 48 ≤ d = grind (arith, nat_tests) in
    let high : d ≤ 57 = grind (arith, nat_tests) in
    omega (arith, digit_value_digit d (low, high))

capped : (most n d : ℕ) → min (min (min n most * 10) most + d) most ≡ min (n * 10 + d) most
capped most n d = omega arith

pub one_digit : (digits : List ℕ) (i : ℕ) → i < length digits → is_digit (get_or digits i 0) ≡ true
    → min (min (min (digits_value 10 (take i digits)) most_number * 10) most_number + (get_or digits i 0 - 48)) most_number ≡ min (digits_value 10 (take (i + 1) digits)) most_number
one_digit digits i lt h =
    let d = digit_is (get_or digits i 0) h in
    rw (digits_value_more 10 digits i lt, d) (capped most_number (digits_value 10 (take i digits)) (get_or digits i 0 - 48))

pub digits_pass : (bytes : List ℕ) (k : ℕ) → k < length (take (prefix_len is_digit bytes) bytes) → is_digit (get_or (take (prefix_len is_digit bytes) bytes) k 0) ≡ true
digits_pass bytes k lt =
    let n = prefix_len is_digit bytes in
    let below : k < n = omega (arith, length-prefix_len is_digit bytes) in
    ap is_digit (get_or-take n bytes k 0 below) ∙ prefix_len_passes is_digit bytes k 0 below
