-- Lists of truth values, and how words keep them.
use Rattle.std.specs.Prelude.{◌≡◌, ℕ, ◌+◌, ◌-◌, ◌*◌, ◌/◌, ◌%◌, ◌^◌, ◌<◌, ◌≤◌, nat_eq, Bool, false, not, ◌&&◌, ◌||◌, List, length, map, filter, slice_index, slice_index_or}
use Rattle.std.specs.Int.{bit_at}
use Rattle.std.specs.List.{zip, range_with_len}

-- true at each place where one of the two lists is
abbrev pub either_of : List Bool → List Bool → List Bool
either_of bits others = map (λ p. p.0 || p.1) (zip bits others)

-- true at each place where the first list is and the second isn't
abbrev pub only_first : List Bool → List Bool → List Bool
only_first bits others = map (λ p. p.0 && not p.1) (zip bits others)

-- the places of the true values, rising
abbrev pub places_of : List Bool → List ℕ
places_of bits = filter (λ i. slice_index_or bits i false) (range_with_len 0 (length bits))

-- whether bit i of a number is 1
abbrev pub has_bit : ℕ → ℕ → Bool
has_bit word i = nat_eq (bit_at word i) 1

-- the value at place i: words of 64 bits, in each the lowest bit first
unfoldable pub is_set_at : List ℕ → ℕ → Bool
is_set_at words i = has_bit (slice_index words (i / 64)) (i % 64)

-- the first n values that the words keep
abbrev pub kept_by : List ℕ → ℕ → List Bool
kept_by words n = map (is_set_at words) (range_with_len 0 n)

-- as many words as n values need, and fewer than 2^32 values, with no bit set from place n on
pub record Keeps (words : List ℕ) (n : ℕ) : Type 0 where
  pub small : n < 2 ^ 32
  pub enough : n ≤ 64 * length words
  pub tight : 64 * length words < n + 64
  pub clear : (i : ℕ) → n ≤ i → is_set_at words i ≡ false

-- base plus the number of each bit of a word that is 1, rising
unfoldable pub places_in : ℕ → ℕ → List ℕ
places_in base word = filter (λ k. has_bit word (k - base)) (range_with_len base 64)
