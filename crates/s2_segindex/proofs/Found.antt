-- A key that is sought among groups that rise.
use Rattle.std.proofs.Common.{◌≡◌, ℕ, zero, suc, ◌+◌, ◌-◌, ◌*◌, ◌/◌, ◌<◌, ◌≤◌, ◌==◌, Bool, true, false, nat_le, ◌&&◌, ⊎_elim, List, [], ◌∷◌, length, get_or, take, drop, map, refl, sym, ap, subst, ◌∙◌, arith, Option, Some, None, Ordering, Less, Equal, Greater}
use Rattle.std.specs.Prelude.{slice_get, if◌then◌else◌}
use Rattle.std.specs.List.{AllByRecursion, list_all}
use Rattle.std.specs.List.Sorted.{IsStrictlySortedBy}
use Rattle.std.specs.Map.{lookup, keys_of}
use Rattle.std.specs.BTreeMap.{is_at}
use Rattle.std.specs.Ordering.{ordering_reverse, is_lt}
use Rattle.std.proofs.lemmas.Map.Keys.{Less-from_sorted, IsDistinct-from_sorted, sorted_from_all_adjacent}
use Rattle.std.proofs.lemmas.Map.Entries.{lookup_from_place, lookup_at_gap}
use Rattle.std.proofs.lemmas.Cmp.{eq_by_cmp_equiv}
use Rattle.std.proofs.lemmas.List.{length-map, length-drop}
use Rattle.std.proofs.lemmas.Bool.{leb-true, cases_lt}
use Rattle.byteorder.specs.Endian.{little_number}
use Rattle.s2_colbytes.proofs.Bytes.{IsBytes-drop, IsBytes-tail}
use Rattle.s2_colbytes.proofs.Lists.{length-numbers, get_or-numbers, drop-drop, spelled-numbers}
use Rattle.s2_segindex.specs.Places.{after_text, after_value, key_in, after_key, offsets_in, group_in, starts_in, groups_in, has_offsets, is_start, IsIndex}
use Rattle.s2_colbytes.specs.Numbers.{IsBytes, numbers, spelled}
use Rattle.s2_value.specs.declared.values.Value.{Value}
use Rattle.s2_value.specs.Order.{row_cmp, row_cmp_total, one_row}
use Rattle.s2_segindex.specs.Groups.{Group, offsets_at_key, is_above, are_rising}
use Rattle.s2_segindex.proofs.Results.{both_true}

is_less : (o : Ordering) → is_lt o ≡ true → o ≡ Less
is_less Less h = refl
is_less Equal h = cc
is_less Greater h = cc

-- keys that rise one after the other rise
pub rising_sorted : (before : Option (List Value)) (ks : List (List Value)) → are_rising before ks ≡ true → IsStrictlySortedBy row_cmp ks
rising_sorted before ks h = sorted_from_all_adjacent row_cmp_total ks [] (λ k l. adjacent before ks h k l)
  where
    adjacent : (before : Option (List Value)) (ks : List (List Value)) → are_rising before ks ≡ true → (k : ℕ) → k + 1 < length ks → row_cmp (get_or ks k []) (get_or ks (k + 1) []) ≡ Less
    adjacent before [] h k l = absurd (omega arith)
    adjacent before (x ∷ []) h k l = absurd (omega arith)
    adjacent before (x ∷ y ∷ ks) h zero l =
        let a = both_true (is_above before x) (is_above (Some x) y && are_rising (Some y) ks) h in
        let b = both_true (is_above (Some x) y) (are_rising (Some y) ks) a.1 in
        is_less (row_cmp x y) b.0
    adjacent before (x ∷ y ∷ ks) h (suc k) l =
        let a = both_true (is_above before x) (is_above (Some x) y && are_rising (Some y) ks) h in
        let e : suc k + 1 ≡ suc (k + 1) = omega arith in
        rw e (adjacent (Some x) (y ∷ ks) a.1 k (omega arith))

-- above one is above another that is below it, and the other way round
above_below : (x y z : List Value) → row_cmp x y ≡ Less → row_cmp z y ≡ Greater → row_cmp z x ≡ Greater
above_below x y z xy zy =
    let yz : row_cmp y z ≡ Less = row_cmp_total.antisymm y z ∙ ap ordering_reverse zy in
    row_cmp_total.antisymm z x ∙ ap ordering_reverse (row_cmp_total.trans x y z xy yz)

-- a key above the one at mid is above those before it
pub above_to : (ks : List (List Value)) (key : List Value) (mid j : ℕ) → IsStrictlySortedBy row_cmp ks → mid < length ks → row_cmp key (get_or ks mid []) ≡ Greater → j < mid → row_cmp key (get_or ks j []) ≡ Greater
above_to ks key mid j s l g h = above_below (get_or ks j []) (get_or ks mid []) key (Less-from_sorted row_cmp ks j mid [] s h l) g

-- a key below the one at mid is below those after it
pub below_from : (ks : List (List Value)) (key : List Value) (mid j : ℕ) → IsStrictlySortedBy row_cmp ks → j < length ks → row_cmp key (get_or ks mid []) ≡ Less → mid < j → row_cmp key (get_or ks j []) ≡ Less
below_from ks key mid j s l g h = row_cmp_total.trans key (get_or ks mid []) (get_or ks j []) g (Less-from_sorted row_cmp ks mid j [] s h l)

key_get : (groups : List Group) (j : ℕ) (e : Group) → slice_get groups j ≡ Some e → get_or (keys_of groups) j [] ≡ e.0
key_get [] j e h = cc
key_get (g ∷ groups) zero e h = ap (λ (x : Group). x.0) (same g e h)
  where
    same : (g e : Group) → Some g ≡ Some e → g ≡ e
    same g e h = cc
key_get (g ∷ groups) (suc j) e h = key_get groups j e h

get_some : (groups : List Group) (j : ℕ) (e : Group) → slice_get groups j ≡ Some e → j < length groups
get_some [] j e h = cc
get_some (g ∷ groups) zero e h = omega arith
get_some (g ∷ groups) (suc j) e h = let r = get_some groups j e h in omega arith

-- no group has a key that is above those below a place and below the others
pub not_found : (groups : List Group) (key : List Value) (i : ℕ) → are_rising None (keys_of groups) ≡ true → ((j : ℕ) → j < i → j < length groups → row_cmp key (get_or (keys_of groups) j []) ≡ Greater) → ((j : ℕ) → i ≤ j → j < length groups → row_cmp key (get_or (keys_of groups) j []) ≡ Less) → offsets_at_key key groups ≡ None
not_found groups key i r below above =
    lookup_at_gap row_cmp_total key groups i (rising_sorted None (keys_of groups) r)
    (λ j e l h. ap (row_cmp key) (sym (key_get groups j e h)) ∙ below j l (get_some groups j e h))
    (λ e h. ap (row_cmp key) (sym (key_get groups i e h)) ∙ above i (omega arith) (get_some groups i e h))

-- the group at a place has its key
pub found : (groups : List Group) (key : List Value) (i : ℕ) (g : Group) → are_rising None (keys_of groups) ≡ true → slice_get groups i ≡ Some g → row_cmp key g.0 ≡ Equal → offsets_at_key key groups ≡ Some g.1
found groups key i g r h e =
    let is = one_row key g.0 e in
    ap (λ (k : List Value). offsets_at_key k groups) is ∙ lookup_from_place (eq_by_cmp_equiv row_cmp_total) groups i g.0 g.1 (IsDistinct-from_sorted row_cmp (keys_of groups) (rising_sorted None (keys_of groups) r)) h

-- the groups that stand in a block

map_key : (f : ℕ → Group) (xs : List ℕ) (i : ℕ) → i < length xs → get_or (keys_of (map f xs)) i [] ≡ (f (get_or xs i 0)).0
map_key f [] i l = absurd (omega arith)
map_key f (x ∷ xs) zero l = refl
map_key f (x ∷ xs) (suc i) l = map_key f xs i (omega arith)

map_group : (f : ℕ → Group) (xs : List ℕ) (i : ℕ) → i < length xs → slice_get (map f xs) i ≡ Some (f (get_or xs i 0))
map_group f [] i l = absurd (omega arith)
map_group f (x ∷ xs) zero l = refl
map_group f (x ∷ xs) (suc i) l = map_group f xs i (omega arith)

all_at : (p : ℕ → Bool) (xs : List ℕ) (i : ℕ) → list_all p xs ≡ true → i < length xs → p (get_or xs i 0) ≡ true
all_at p [] i h l = absurd (omega arith)
all_at p (x ∷ xs) zero h l = (both_true (p x) (list_all p xs) h).0
all_at p (x ∷ xs) (suc i) h l = all_at p xs i (both_true (p x) (list_all p xs) h).1 (omega arith)

starts_many : (bytes : List ℕ) → length (starts_in bytes) ≡ little_number 4 bytes
starts_many bytes = length-numbers 4 (little_number 4 bytes) (drop 4 bytes)

pub keys_many : (width : ℕ) (bytes : List ℕ) → length (keys_of (groups_in width bytes)) ≡ little_number 4 bytes
keys_many width bytes = length-map (groups_in width bytes) (λ g. g.0) ∙ length-map (starts_in bytes) (λ start. group_in width (drop start bytes)) ∙ starts_many bytes

pub key_place : (width : ℕ) (bytes : List ℕ) (i : ℕ) → i < little_number 4 bytes → get_or (keys_of (groups_in width bytes)) i [] ≡ key_in width (drop (get_or (starts_in bytes) i 0) bytes)
key_place width bytes i l = let m = starts_many bytes in map_key (λ start. group_in width (drop start bytes)) (starts_in bytes) i (omega arith)

pub group_place : (width : ℕ) (bytes : List ℕ) (i : ℕ) → i < little_number 4 bytes → slice_get (groups_in width bytes) i ≡ Some (group_in width (drop (get_or (starts_in bytes) i 0) bytes))
group_place width bytes i l = let m = starts_many bytes in map_group (λ start. group_in width (drop start bytes)) (starts_in bytes) i (omega arith)

-- a start is within the bytes, and its group's offsets are whole
pub record StartIs (width : ℕ) (bytes : List ℕ) (start : ℕ) : Type 0 where
  pub within : start ≤ length bytes
  pub whole : has_offsets (after_key width (drop start bytes)) ≡ true

pub start_is : (width : ℕ) (bytes : List ℕ) (i : ℕ) → IsIndex width bytes → i < little_number 4 bytes → StartIs width bytes (get_or (starts_in bytes) i 0)
start_is width bytes i x l =
    let m = starts_many bytes in
    let start : ℕ = get_or (starts_in bytes) i 0 in
    let both = both_true (nat_le start (length bytes)) (has_offsets (after_key width (drop start bytes))) (all_at (is_start width bytes) (starts_in bytes) i x.starts (omega arith)) in
    record { within = leb-true start (length bytes) both.0; whole = both.1 }

pub start_place : (bytes : List ℕ) (i : ℕ) → i < little_number 4 bytes → little_number 4 (drop (4 * (i + 1)) bytes) ≡ get_or (starts_in bytes) i 0
start_place bytes i l =
    let e : 4 * (i + 1) ≡ 4 + 4 * i = omega arith in
    ap (λ (k : ℕ). little_number 4 (drop k bytes)) e ∙ ap (little_number 4) (sym (drop-drop 4 (4 * i) bytes)) ∙ sym (get_or-numbers 4 (little_number 4 bytes) i (drop 4 bytes) l)

after_value_bytes : (bytes : List ℕ) → IsBytes bytes → IsBytes (after_value bytes)
after_value_bytes [] b = b
after_value_bytes (tag ∷ bytes) b = by_tag (tag == 1)
  where
    by_text : (bs : List ℕ) → IsBytes bs → IsBytes (after_text bs)
    by_text [] b = b
    by_text (len ∷ bs) b = IsBytes-drop len bs (IsBytes-tail len bs b)

    by_tag : (t : Bool) → IsBytes (if t then drop 8 bytes else after_text bytes)
    by_tag true = IsBytes-drop 8 bytes (IsBytes-tail tag bytes b)
    by_tag false = by_text bytes (IsBytes-tail tag bytes b)

after_key_bytes : (width : ℕ) (bytes : List ℕ) → IsBytes bytes → IsBytes (after_key width bytes)
after_key_bytes zero bytes b = b
after_key_bytes (suc width) bytes b = after_key_bytes width (after_value bytes) (after_value_bytes bytes b)

-- the bytes of offsets that are whole are those that spell them
pub offsets_spelled : (width : ℕ) (bytes : List ℕ) → IsBytes bytes → has_offsets (after_key width bytes) ≡ true → spelled 2 (offsets_in (after_key width bytes)) ≡ take (2 * little_number 2 (after_key width bytes)) (drop 2 (after_key width bytes))
offsets_spelled width bytes b h =
    let rest : List ℕ = after_key width bytes in
    let enough : 2 + 2 * little_number 2 rest ≤ length rest = leb-true (2 + 2 * little_number 2 rest) (length rest) h in
    let len = length-drop 2 rest in
    spelled-numbers 2 (little_number 2 rest) (drop 2 rest) (IsBytes-drop 2 rest (after_key_bytes width bytes b)) (omega arith)

pub above_upto : (ks : List (List Value)) (key : List Value) (mid j : ℕ) → IsStrictlySortedBy row_cmp ks → mid < length ks → row_cmp key (get_or ks mid []) ≡ Greater → j < mid + 1 → row_cmp key (get_or ks j []) ≡ Greater
above_upto ks key mid j s l g h = ⊎_elim (λ (lt : j < mid). above_to ks key mid j s l g lt) (λ (le : mid ≤ j). let e : mid ≡ j = omega arith in subst (λ (k : ℕ). row_cmp key (get_or ks k []) ≡ Greater) e g) (cases_lt j mid)

pub below_onward : (ks : List (List Value)) (key : List Value) (mid j : ℕ) → IsStrictlySortedBy row_cmp ks → j < length ks → row_cmp key (get_or ks mid []) ≡ Less → mid ≤ j → row_cmp key (get_or ks j []) ≡ Less
below_onward ks key mid j s l g h = ⊎_elim (λ (lt : mid < j). below_from ks key mid j s l g lt) (λ (le : j ≤ mid). let e : mid ≡ j = omega arith in subst (λ (k : ℕ). row_cmp key (get_or ks k []) ≡ Less) e g) (cases_lt mid j)

pub half_below : (low high : ℕ) → low < high → low + (high - low) / 2 < high
half_below low high l = omega arith
