-- The groups of rows fit a block, and their block is read as them.
use Rattle.std.proofs.Common.{◌≡◌, ℕ, zero, suc, ◌+◌, ◌*◌, ◌<◌, ◌≤◌, Bool, true, false, nat_le, nat_lt, ◌&&◌, ◌||◌, cond, List, [], ◌∷◌, ◌++◌, length, map, refl, sym, ap, subst, ◌∙◌, arith, Option, Some, None, Ordering, Less, Equal, Greater}
use Rattle.std.specs.Prelude.{if◌then◌else◌}
use Rattle.std.specs.List.{list_all, list_any, flat_map, AllByRecursion}
use Rattle.std.specs.Map.{keys_of}
use Rattle.std.specs.Ordering.{is_eq, match_ordering}
use Rattle.std.proofs.lemmas.Bool.{leb-true}
use Rattle.std.proofs.lemmas.Bool.Decides.{nat_tests}
use Rattle.std.proofs.lemmas.Cmp.{tied_itself}
use Rattle.std.proofs.lemmas.List.{length-map, length-append, append-nil, append_assoc}
use Rattle.std.specs.Int.{w64, cast_unsigned}
use Rattle.byteorder.specs.Endian.{little_bytes}
use Rattle.byteorder.specs.Numbers.{length-bytes_low_first}
use Rattle.s2_colbytes.specs.Numbers.{spelled}
use Rattle.s2_colbytes.proofs.Lists.{length-spelled}
use Rattle.s2_value.specs.declared.values.Value.{Value}
use Rattle.s2_value.specs.declared.values.Value.TheVariants.{Int, Text}
use Rattle.s2_value.specs.declared.values.ColType.{ColType}
use Rattle.s2_value.specs.declared.values.ColType.TheVariants as kind
use Rattle.s2_value.specs.Bytes.{value_bytes, key_bytes}
use Rattle.s2_value.specs.Text.{is_txt, is_text_bytes}
use Rattle.s2_value.specs.Order.{row_cmp, row_eq, row_cmp_total}
use Rattle.s2_value.specs.Rows.{key_of}
use Rattle.s2_segindex.specs.Groups.{Group, places_from, with_key, distinct_keys, groups_of, some_places}
use Rattle.s2_segindex.specs.Blocks.{are_between, are_offsets}
use Rattle.s2_segindex.specs.Spells.{group_bytes, starts_from, block_of, is_small, IsValueOf, IsKeyOf, IsGroup, Spells}
use Rattle.s2_segindex.proofs.Results.{both_true}
use Rattle.s2_segindex.proofs.Grouped.{has, groups_rise, places_of_member}

le : (a b : ℕ) → a ≤ b → nat_le a b ≡ true
le a b q = grind (arith, nat_tests)

-- what all keys have, the distinct ones have
all_with : (P : List Value → Type 0) (k : List Value) (keys : List (List Value)) → P k → AllByRecursion P keys → AllByRecursion P (with_key k keys)
all_with P k [] p h = (p, tt)
all_with P k (x ∷ keys) p h = by_order (all_with P k keys p h.1) (row_cmp k x)
  where
    by_order : AllByRecursion P (with_key k keys) → (o : Ordering) → AllByRecursion P (match_ordering o (k ∷ x ∷ keys) (x ∷ keys) (x ∷ with_key k keys))
    by_order ih Less = (p, h)
    by_order ih Equal = h
    by_order ih Greater = (h.0, ih)

all_distinct : (P : List Value → Type 0) (keys : List (List Value)) → AllByRecursion P keys → AllByRecursion P (distinct_keys keys)
all_distinct P [] h = tt
all_distinct P (k ∷ keys) h = all_with P k (distinct_keys keys) h.0 (all_distinct P keys h.1)

many_with : (k : List Value) (keys : List (List Value)) → length (with_key k keys) ≤ length keys + 1
many_with k [] = omega arith
many_with k (x ∷ keys) = by_order (many_with k keys) (row_cmp k x)
  where
    by_order : length (with_key k keys) ≤ length keys + 1 → (o : Ordering) → length (match_ordering o (k ∷ x ∷ keys) (x ∷ keys) (x ∷ with_key k keys)) ≤ length (x ∷ keys) + 1
    by_order ih Less = omega arith
    by_order ih Equal = omega arith
    by_order ih Greater = omega arith

many_distinct : (keys : List (List Value)) → length (distinct_keys keys) ≤ length keys
many_distinct [] = omega arith
many_distinct (k ∷ keys) = let a = many_with k (distinct_keys keys) in let b = many_distinct keys in omega arith

many_places : (n : ℕ) (keys : List (List Value)) (q : List Value) → length (places_from n keys q) ≤ length keys
many_places n [] q = omega arith
many_places n (k ∷ keys) q = by_test (many_places (n + 1) keys q) (row_eq k q)
  where
    by_test : length (places_from (n + 1) keys q) ≤ length keys → (b : Bool) → length (if b then n ∷ places_from (n + 1) keys q else places_from (n + 1) keys q) ≤ length (k ∷ keys)
    by_test ih true = omega arith
    by_test ih false = omega arith

pub many_groups : (keys : List (List Value)) → length (groups_of keys) ≤ length keys
unfolding groups_of
many_groups keys = subst (λ (n : ℕ). n ≤ length keys) (sym (length-map (distinct_keys keys) (λ (k : List Value). (k, places_from 0 keys k)))) (many_distinct keys)

-- groups of few rows by few columns are small
pub small_groups : (keys : List (List Value)) → length keys ≤ 8192 → AllByRecursion (λ k. length k ≤ 16) keys → list_all is_small (groups_of keys) ≡ true
unfolding groups_of
small_groups keys few h = each (distinct_keys keys) (all_distinct (λ k. length k ≤ 16) keys h)
  where
    each : (ks : List (List Value)) → AllByRecursion (λ k. length k ≤ 16) ks → list_all is_small (map (λ k. (k, places_from 0 keys k)) ks) ≡ true
    each [] a = refl
    each (k ∷ ks) a =
        let m = many_places 0 keys k in
        rw (le (length k) 16 a.0, le (length (places_from 0 keys k)) 8192 (omega arith), each ks a.1) refl

pub keys_short : (cols : List ℕ) (rows : List (List Value)) → length cols ≤ 16 → AllByRecursion (λ k. length k ≤ 16) (map (key_of cols) rows)
keys_short cols [] l = tt
keys_short cols (r ∷ rows) l = (let e : length (key_of cols r) ≡ length cols = length-map cols _ in omega arith, keys_short cols rows l)

-- one more group

pub flat_push : (gs : List Group) (g : Group) → flat_map group_bytes (gs ++ g ∷ []) ≡ flat_map group_bytes gs ++ group_bytes g
flat_push [] g = append-nil (group_bytes g)
flat_push (x ∷ gs) g = ap (λ (bs : List ℕ). group_bytes x ++ bs) (flat_push gs g) ∙ sym (append_assoc (group_bytes x) (flat_map group_bytes gs) (group_bytes g))

pub starts_push : (place : ℕ) (gs : List Group) (g : Group) → spelled 4 (starts_from place (gs ++ g ∷ [])) ≡ spelled 4 (starts_from place gs) ++ little_bytes 4 (place + length (flat_map group_bytes gs))
starts_push place [] g = append-nil (little_bytes 4 place) ∙ ap (little_bytes 4) (let e : place ≡ place + 0 = omega arith in e)
starts_push place (x ∷ gs) g =
    let len = length-append (group_bytes x) (flat_map group_bytes gs) in
    let e : place + length (group_bytes x) + length (flat_map group_bytes gs) ≡ place + length (group_bytes x ++ flat_map group_bytes gs) = omega arith in
    ap (λ (bs : List ℕ). little_bytes 4 place ++ bs) (starts_push (place + length (group_bytes x)) gs g)
    ∙ sym (append_assoc (little_bytes 4 place) (spelled 4 (starts_from (place + length (group_bytes x)) gs)) (little_bytes 4 (place + length (group_bytes x) + length (flat_map group_bytes gs))))
    ∙ ap (λ (k : ℕ). (little_bytes 4 place ++ spelled 4 (starts_from (place + length (group_bytes x)) gs)) ++ little_bytes 4 k) e

-- the groups of rows obey a block's rules

between : (low n m : ℕ) (keys : List (List Value)) (q : List Value) → low ≤ m → m + length keys ≤ n → are_between low n (places_from m keys q) ≡ true
between low n m [] q l h = refl
between low n m (k ∷ keys) q l h = by_test (between (m + 1) n (m + 1) keys q (omega arith) (omega arith)) (between low n (m + 1) keys q (omega arith) (omega arith)) (row_eq k q)
  where
    lt : (a b : ℕ) → a < b → nat_lt a b ≡ true
    lt a b r = grind (arith, nat_tests)

    by_test : are_between (m + 1) n (places_from (m + 1) keys q) ≡ true → are_between low n (places_from (m + 1) keys q) ≡ true → (b : Bool) → are_between low n (if b then m ∷ places_from (m + 1) keys q else places_from (m + 1) keys q) ≡ true
    by_test here later true = rw (le low m l, lt m n (omega arith), here) refl
    by_test here later false = later

narrow : (m : ℕ) (keys : List (List Value)) (q : List Value) → m + length keys ≤ 65536 → AllByRecursion (λ o. o < 65536) (places_from m keys q)
narrow m [] q h = tt
narrow m (k ∷ keys) q h = by_test (narrow (m + 1) keys q (omega arith)) (row_eq k q)
  where
    by_test : AllByRecursion (λ o. o < 65536) (places_from (m + 1) keys q) → (b : Bool) → AllByRecursion (λ o. o < 65536) (if b then m ∷ places_from (m + 1) keys q else places_from (m + 1) keys q)
    by_test ih true = (omega arith, ih)
    by_test ih false = ih

members : (all keys : List (List Value)) → ((q : List Value) → has q keys ≡ true → has q all ≡ true) → AllByRecursion (λ k. has k all ≡ true) keys
members all [] sub = tt
members all (k ∷ keys) sub = (sub k (ap (λ (b : Bool). b || has k keys) (ap is_eq (tied_itself row_cmp_total k))), members all keys (λ q h. sub q (right (is_eq (row_cmp q k)) (has q keys) h)))
  where
    right : (a b : Bool) → b ≡ true → (a || b) ≡ true
    right true b h = refl
    right false b h = h

some_length : (ps : List ℕ) → some_places ps ≡ Some ps → nat_lt 0 (length ps) ≡ true
some_length [] h = cc
some_length (p ∷ ps) h = lt 0 (length (p ∷ ps)) (omega arith)
  where
    lt : (a b : ℕ) → a < b → nat_lt a b ≡ true
    lt a b r = grind (arith, nat_tests)

group_fits : (kinds : List ColType) (keys : List (List Value)) (k : List Value) → length keys ≤ 8192 → IsKeyOf kinds k → has k keys ≡ true → IsGroup kinds (length keys) (k, places_from 0 keys k)
group_fits kinds keys k few key h =
    let m = many_places 0 keys k in
    record {
      key = key;
      offsets = rw (some_length (places_from 0 keys k) (places_of_member keys k h), between 0 (length keys) 0 keys k (omega arith) (omega arith)) refl;
      narrow = narrow 0 keys k (omega arith);
      few = omega arith;
    }

-- how long a group's bytes are

value_size : (kind : ColType) (v : Value) → IsValueOf kind v → length (value_bytes v) ≤ 257
value_size kind.Int (Int x) h = let l = length-bytes_low_first 0 8 (cast_unsigned w64 x) in omega arith
value_size kind.Int (Text t) h = absurd h
value_size kind.Text (Int x) h = absurd h
value_size kind.Text (Text t) h = let l = leb-true (length t) 255 (both_true (nat_le (length t) 255) (is_text_bytes t) h).0 in omega arith

key_size : (kinds : List ColType) (key : List Value) → IsKeyOf kinds key → length (key_bytes key) ≤ 257 * length kinds
key_size [] [] h = omega arith
key_size [] (v ∷ vals) h = absurd h
key_size (kind ∷ kinds) [] h = absurd h
key_size (kind ∷ kinds) (v ∷ vals) h =
    let a = value_size kind v h.0 in
    let b = key_size kinds vals h.1 in
    let l = length-append (value_bytes v) (key_bytes vals) in
    omega arith

group_size : (kinds : List ColType) (n : ℕ) (g : Group) → length kinds ≤ 16 → length g.1 ≤ 8192 → IsGroup kinds n g → length (group_bytes g) ≤ 20498
group_size kinds n g k few h =
    let a = key_size kinds g.0 h.key in
    let b = length-append (key_bytes g.0) (little_bytes 2 (length g.1) ++ spelled 2 g.1) in
    let c = length-append (little_bytes 2 (length g.1)) (spelled 2 g.1) in
    let d = length-bytes_low_first 0 2 (length g.1) in
    let e = length-spelled 2 g.1 in
    omega arith

starts_fit : (place : ℕ) (gs : List Group) → AllByRecursion (λ g. length (group_bytes g) ≤ 20498) gs → place + 20498 * length gs < 4294967296 → AllByRecursion (λ s. s < 4294967296) (starts_from place gs)
starts_fit place [] h l = tt
starts_fit place (g ∷ gs) h l = (omega arith, starts_fit (place + length (group_bytes g)) gs h.1 (let s = h.0 in omega arith))

-- the block of rows is that of their groups
pub made_spells : (kinds : List ColType) (keys : List (List Value)) → length kinds ≤ 16 → length keys ≤ 8192 → AllByRecursion (IsKeyOf kinds) keys → Spells kinds (length keys) (groups_of keys) (block_of (groups_of keys))
unfolding groups_of
made_spells kinds keys width few h =
    let m = many_groups keys in
    record {
      groups = fits (distinct_keys keys) (all_distinct (IsKeyOf kinds) keys h) (all_distinct (λ k. has k keys ≡ true) keys (members keys keys (λ q e. e)));
      rising = groups_rise keys;
      few = omega arith;
      starts = starts_fit (4 + 4 * length (groups_of keys)) (groups_of keys) (sizes (distinct_keys keys) (all_distinct (IsKeyOf kinds) keys h) (all_distinct (λ k. has k keys ≡ true) keys (members keys keys (λ q e. e)))) (omega arith);
      same = refl;
    }
  where
    fits : (ks : List (List Value)) → AllByRecursion (IsKeyOf kinds) ks → AllByRecursion (λ k. has k keys ≡ true) ks → AllByRecursion (IsGroup kinds (length keys)) (map (λ k. (k, places_from 0 keys k)) ks)
    fits [] a b = tt
    fits (k ∷ ks) a b = (group_fits kinds keys k few a.0 b.0, fits ks a.1 b.1)

    sizes : (ks : List (List Value)) → AllByRecursion (IsKeyOf kinds) ks → AllByRecursion (λ k. has k keys ≡ true) ks → AllByRecursion (λ g. length (group_bytes g) ≤ 20498) (map (λ k. (k, places_from 0 keys k)) ks)
    sizes [] a b = tt
    sizes (k ∷ ks) a b = (let p = many_places 0 keys k in group_size kinds (length keys) (k, places_from 0 keys k) width (omega arith) (group_fits kinds keys k few a.0 b.0), sizes ks a.1 b.1)
