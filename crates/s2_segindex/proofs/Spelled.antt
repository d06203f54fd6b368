-- What is spelled is read.
use Rattle.std.proofs.Common.{◌≡◌, ℕ, zero, suc, ◌+◌, ◌*◌, ◌^◌, ◌<◌, ◌≤◌, FitsSigned, ℤ, Bool, true, false, not, nat_lt, nat_le, ◌==◌, ◌&&◌, List, [], ◌∷◌, ◌++◌, length, take, drop, refl, sym, ap, subst, ◌∙◌, arith, Result, Ok, Err, Option, Some, None}
use Rattle.std.specs.Int.{w64, cast_unsigned}
use Rattle.std.specs.List.{AllByRecursion, flat_map}
use Rattle.std.specs.Map.{keys_of}
use Rattle.std.proofs.lemmas.Bool.{eq-eqb}
use Rattle.std.proofs.lemmas.Bool.Decides.{nat_tests}
use Rattle.std.proofs.lemmas.Int.{to_z-of_z, ints}
use Rattle.std.proofs.lemmas.List.{append_assoc, append-nil, length-append}
use Rattle.byteorder.specs.Endian.{little_bytes, little_number}
use Rattle.byteorder.specs.Numbers.{length-bytes_low_first}
use Rattle.s2_colbytes.specs.Numbers.{numbers, spelled, signed}
use Rattle.s2_colbytes.proofs.Lists.{numbers-spelled, length-spelled}
use Rattle.s2_value.specs.Bytes.{number_bytes, value_bytes, key_bytes}
use Rattle.s2_value.specs.Text.{is_text_bytes, is_txt}
use Rattle.s2_value.specs.declared.values.Value.{Value}
use Rattle.s2_value.specs.declared.values.Value.TheVariants.{Int, Text}
use Rattle.s2_value.specs.declared.values.ColType.{ColType}
use Rattle.s2_value.specs.declared.values.ColType.TheVariants as kind
use Rattle.s2_segindex.specs.declared.faults.IndexErr.{IndexErr}
use Rattle.s2_segindex.specs.declared.faults.IndexErr.TheVariants.{Short, BadStart, BadKey, Unsorted, BadOffset, Trailing}
use Rattle.s2_segindex.specs.Reading.{◌>>=◌, front_or, number_or, unless, alone_or}
use Rattle.s2_segindex.specs.Groups.{Group, is_above, are_rising}
use Rattle.s2_segindex.specs.Blocks.{body_at, value_at, with_value, key_at, are_offsets, offsets_at, group_at, with_group, groups_at, parts_at, index_at}
use Rattle.s2_segindex.specs.Spells.{group_bytes, starts_from, block_of, IsValueOf, IsKeyOf, IsGroup, Spells}
use Rattle.s2_segindex.proofs.Results.{both_true, front_is, number_is}

fit : (x : ℤ) → FitsSigned w64 x → cast_unsigned w64 x < 256 ^ 8
fit x p = omega (arith, ints)

-- a value is read as it is spelled
value_is : (kind : ColType) (v : Value) (rest : List ℕ) → IsValueOf kind v → value_at kind (value_bytes v ++ rest) ≡ Ok (v, rest)
unfolding value_at body_at
value_is kind.Int (Int x) rest h =
    rw (number_is Short 8 (cast_unsigned w64 x) rest (fit x h), to_z-of_z w64 x h) refl
value_is kind.Int (Text t) rest h = absurd h
value_is kind.Text (Int x) rest h = absurd h
value_is kind.Text (Text t) rest h =
    let both = both_true (nat_le (length t) 255) (is_text_bytes t) h in
    rw (front_is Short (length t) t rest refl, both.1) refl

pub key_is : (kinds : List ColType) (key : List Value) (rest : List ℕ) → IsKeyOf kinds key → key_at kinds (key_bytes key ++ rest) ≡ Ok (key, rest)
key_is [] [] rest h = refl
key_is [] (v ∷ vals) rest h = absurd h
key_is (kind ∷ kinds) [] rest h = absurd h
key_is (kind ∷ kinds) (v ∷ vals) rest h =
    ap (key_at (kind ∷ kinds)) (append_assoc (value_bytes v) (key_bytes vals) rest)
    ∙ rw (value_is kind v (key_bytes vals ++ rest) h.0, key_is kinds vals rest h.1) refl

offsets_are : (n : ℕ) (offsets rest : List ℕ) → are_offsets n offsets ≡ true → AllByRecursion (λ o. o < 65536) offsets → length offsets < 65536 → offsets_at n (little_bytes 2 (length offsets) ++ (spelled 2 offsets ++ rest)) ≡ Ok (offsets, rest)
unfolding offsets_at
offsets_are n offsets rest h narrow few =
    let list : numbers 2 (length offsets) (spelled 2 offsets) ≡ offsets = ap (numbers 2 (length offsets)) (sym (append-nil (spelled 2 offsets))) ∙ numbers-spelled 2 offsets [] narrow in
    rw (number_is Short 2 (length offsets) (spelled 2 offsets ++ rest) few, front_is Short (2 * length offsets) (spelled 2 offsets) rest (length-spelled 2 offsets), list, h) refl

group_is : (kinds : List ColType) (n : ℕ) (before : Option (List Value)) (group : Group) (rest : List ℕ) → IsGroup kinds n group → is_above before group.0 ≡ true → group_at kinds n true before (group_bytes group ++ rest) ≡ Ok (group, rest)
unfolding group_at
group_is kinds n before group rest g above =
    let count : List ℕ = little_bytes 2 (length group.1) in
    let list : List ℕ = spelled 2 group.1 in
    let split : group_bytes group ++ rest ≡ key_bytes group.0 ++ (count ++ (list ++ rest)) = append_assoc (key_bytes group.0) (count ++ list) rest ∙ ap (λ (bs : List ℕ). key_bytes group.0 ++ bs) (append_assoc count list rest) in
    ap (group_at kinds n true before) split
    ∙ rw (key_is kinds group.0 (count ++ (list ++ rest)) g.key, above, offsets_are n group.1 rest g.offsets g.narrow g.few) refl

groups_are : (kinds : List ColType) (n total place : ℕ) (before : Option (List Value)) (groups : List Group) (rest : List ℕ) → AllByRecursion (IsGroup kinds n) groups → are_rising before (keys_of groups) ≡ true → place + length (flat_map group_bytes groups ++ rest) ≡ total → groups_at kinds n total (starts_from place groups) before (flat_map group_bytes groups ++ rest) ≡ Ok (groups, rest)
groups_are kinds n total place before [] rest h r e = refl
groups_are kinds n total place before (g ∷ groups) rest h r e =
    let b = both_true (is_above before g.0) (are_rising (Some g.0) (keys_of groups)) r in
    let later : List ℕ = flat_map group_bytes groups ++ rest in
    let split : flat_map group_bytes (g ∷ groups) ++ rest ≡ group_bytes g ++ later = append_assoc (group_bytes g) (flat_map group_bytes groups) rest in
    let here : (place + length (group_bytes g ++ later) == total) ≡ true = eq-eqb (place + length (group_bytes g ++ later)) total (ap (λ (bs : List ℕ). place + length bs) (sym split) ∙ e) in
    let len = length-append (group_bytes g) later in
    let all : place + length (group_bytes g ++ later) ≡ total = ap (λ (bs : List ℕ). place + length bs) (sym split) ∙ e in
    let next : place + length (group_bytes g) + length later ≡ total = omega arith in
    ap (groups_at kinds n total (starts_from place (g ∷ groups)) before) split
    ∙ rw (here, group_is kinds n before g later h.0 b.0, groups_are kinds n total (place + length (group_bytes g)) (Some g.0) groups rest h.1 b.1 next) refl

pub length-starts : (place : ℕ) (groups : List Group) → length (starts_from place groups) ≡ length groups
length-starts place [] = refl
length-starts place (g ∷ groups) = ap suc (length-starts (place + length (group_bytes g)) groups)

-- the block of groups is read as them
pub block_is_read : (kinds : List ColType) (n : ℕ) (groups : List Group) → AllByRecursion (IsGroup kinds n) groups → are_rising None (keys_of groups) ≡ true → length groups < 4294967296 → AllByRecursion (λ s. s < 4294967296) (starts_from (4 + 4 * length groups) groups) → index_at kinds n (block_of groups) ≡ Ok groups
unfolding index_at parts_at block_of
block_is_read kinds n groups h rising few small =
    let starts : List ℕ = starts_from (4 + 4 * length groups) groups in
    let body : List ℕ = flat_map group_bytes groups in
    let front : List ℕ = spelled 4 starts in
    let many : length starts ≡ length groups = length-starts (4 + 4 * length groups) groups in
    let width : length front ≡ 4 * length groups = length-spelled 4 starts ∙ ap (λ (k : ℕ). 4 * k) many in
    let list : numbers 4 (length groups) front ≡ starts = ap (λ (k : ℕ). numbers 4 k front) (sym many) ∙ ap (numbers 4 (length starts)) (sym (append-nil front)) ∙ numbers-spelled 4 starts [] small in
    let total : ℕ = length (little_bytes 4 (length groups) ++ (front ++ body)) in
    let four : length (little_bytes 4 (length groups)) ≡ 4 = length-bytes_low_first 0 4 (length groups) in
    let all : total ≡ 4 + (4 * length groups + length body) = length-append (little_bytes 4 (length groups)) (front ++ body) ∙ ap (λ (k : ℕ). k + length (front ++ body)) four ∙ ap (λ (k : ℕ). 4 + k) (length-append front body ∙ ap (λ (k : ℕ). k + length body) width) in
    let nil : body ++ [] ≡ body = append-nil body in
    let rest_len : length (body ++ []) ≡ length body = ap length nil in
    let place : 4 + 4 * length groups + length (body ++ []) ≡ total = omega arith in
    let read : groups_at kinds n total starts None body ≡ Ok (groups, []) = ap (groups_at kinds n total starts None) (sym nil) ∙ groups_are kinds n total (4 + 4 * length groups) None groups [] h rising place in
    rw (number_is Short 4 (length groups) (front ++ body) few, front_is Short (4 * length groups) front body width, list, read) refl

pub spelled_is_read : (kinds : List ColType) (n : ℕ) (groups : List Group) (bytes : List ℕ) → Spells kinds n groups bytes → index_at kinds n bytes ≡ Ok groups
spelled_is_read kinds n groups bytes s = ap (index_at kinds n) s.same ∙ block_is_read kinds n groups s.groups s.rising s.few s.starts

-- a block spells at most one list of groups
pub one_list : (kinds : List ColType) (n : ℕ) (groups others : List Group) (bytes : List ℕ) → Spells kinds n groups bytes → Spells kinds n others bytes → groups ≡ others
one_list kinds n groups others bytes s t = same (sym (spelled_is_read kinds n groups bytes s) ∙ spelled_is_read kinds n others bytes t)
  where
    same : {a b : List Group} → ◌≡◌ {A = Result (List Group) IndexErr} (Ok a) (Ok b) → a ≡ b
    same h = cc
