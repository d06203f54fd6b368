-- Groups that have as many offsets as there are rows, each of a row that has its group's key: they are the groups of the rows.
use Rattle.std.proofs.Common.{◌≡◌, ℕ, zero, suc, ◌+◌, ◌-◌, ◌<◌, ◌≤◌, ◌==◌, Bool, true, false, nat_le, nat_lt, ◌&&◌, cond, List, [], ◌∷◌, ◌++◌, length, take, map, get_or, refl, sym, ap, subst, ◌∙◌, arith, Option, Some, None, Ok, Ordering, Less, Equal, Greater}
use Rattle.std.specs.Prelude.{slice_get, if◌then◌else◌}
use Rattle.std.specs.List.{AllByRecursion, list_all}
use Rattle.std.specs.List.Sorted.{IsStrictlySortedBy}
use Rattle.std.specs.Map.{lookup, keys_of}
use Rattle.std.specs.BTreeMap.{is_at}
use Rattle.std.specs.Ordering.{ordering_reverse, is_eq}
use Rattle.std.specs.Cmp.Lexicographic.{lists_ties}
use Rattle.std.proofs.lemmas.Bool.Decides.{nat_tests}
use Rattle.std.proofs.lemmas.Map.{lookup-none}
use Rattle.std.proofs.lemmas.Map.Keys.{sorted_tail, IsDistinct-from_sorted}
use Rattle.std.proofs.lemmas.Map.Entries.{lookup_head, lookup_tail, none_past_head, none_below_head}
use Rattle.std.proofs.lemmas.List.{length-map, take_more, take_all}
use Rattle.std.proofs.lemmas.Option.{slice_get_within, get_or_from_slice_get}
use Rattle.std.proofs.lemmas.Cmp.{tied_itself, eq_by_cmp_equiv}
use Rattle.s2_colbytes.specs.Numbers.{IsBytes}
use Rattle.s2_value.specs.declared.values.Value.{Value}
use Rattle.s2_value.specs.declared.values.ColType.{ColType}
use Rattle.s2_value.specs.Order.{value_cmp, value_ties, row_cmp, row_eq, row_cmp_total, one_row, same_row}
use Rattle.s2_value.specs.Rows.{key_of}
use Rattle.s2_segindex.specs.Groups.{Group, places_from, groups_of, offsets_at_key, some_places, are_rising}
use Rattle.s2_segindex.specs.Blocks.{are_between, are_offsets, index_at}
use Rattle.s2_segindex.specs.Places.{groups_in}
use Rattle.s2_segindex.specs.Spells.{block_of, IsGroup}
use Rattle.s2_segindex.proofs.Results.{both_true}
use Rattle.s2_segindex.proofs.ReadSpelled.{read_is_spelled}
use Rattle.s2_segindex.proofs.Stands.{stands}
use Rattle.s2_segindex.proofs.Found.{rising_sorted}
use Rattle.s2_segindex.proofs.Grouped.{places_are, groups_rise}
use Rattle.s2_segment.specs.Rows.{RowOf}
use Rattle.s2_segment.specs.Checks.{key_block}
use Rattle.s2_segment.specs.Matched.{has_key, is_matched, offsets_many, AreMatched, IsBlock}

-- tests of numbers

less : (a b : ℕ) → nat_lt a b ≡ true → a < b
less a b h = grind (arith, nat_tests)

most : (a b : ℕ) → nat_le a b ≡ true → a ≤ b
most a b h = grind (arith, nat_tests)

at_most : (a b : ℕ) → a ≤ b → nat_le a b ≡ true
at_most a b h = grind (arith, nat_tests)

same : (a b : ℕ) → (a == b) ≡ true → a ≡ b
same a b h = grind (arith, nat_tests)

equal : (a b : ℕ) → a ≡ b → (a == b) ≡ true
equal a b h = grind (arith, nat_tests)

above : (a b : ℕ) → (a == b) ≡ false → b ≤ a → b < a
above a b h l = grind (arith, nat_tests)

apart : (a b : ℕ) → a < b → (b == a) ≡ false
apart a b h = grind (arith, nat_tests)

equal_is : (o : Ordering) → is_eq o ≡ true → o ≡ Equal
equal_is Less h = cc
equal_is Equal h = refl
equal_is Greater h = cc

-- groups that rise and have for each key the same are the same

at_head : (e : Group) (es : List Group) → offsets_at_key e.0 (e ∷ es) ≡ Some e.1
at_head e es = lookup_head (is_at (row_cmp e.0)) e es (ap is_eq (tied_itself row_cmp_total e.0))

below_head : (q : List Value) (e : Group) (es : List Group) → IsStrictlySortedBy row_cmp (keys_of (e ∷ es)) → row_cmp q e.0 ≡ Less → offsets_at_key q (e ∷ es) ≡ None
below_head q e es s l = lookup-none (is_at (row_cmp q)) (e ∷ es) (none_below_head row_cmp_total q e es s l)

past_head : (q : List Value) (e : Group) (es : List Group) → IsStrictlySortedBy row_cmp (keys_of (e ∷ es)) → is_eq (row_cmp q e.0) ≡ true → offsets_at_key q es ≡ None
past_head q e es s t = lookup-none (is_at (row_cmp q)) es (none_past_head (eq_by_cmp_equiv row_cmp_total) q e es (IsDistinct-from_sorted row_cmp (keys_of (e ∷ es)) s) t)

alike : (es fs : List Group) → IsStrictlySortedBy row_cmp (keys_of es) → IsStrictlySortedBy row_cmp (keys_of fs) → ((q : List Value) → offsets_at_key q es ≡ offsets_at_key q fs) → es ≡ fs
alike [] [] s t h = refl
alike [] (f ∷ fs) s t h = let e : None ≡ Some f.1 = h f.0 ∙ at_head f fs in cc
alike (e ∷ es) [] s t h = let n : Some e.1 ≡ None = sym (at_head e es) ∙ h e.0 in cc
alike (e ∷ es) (f ∷ fs) s t h = by_order (alike es fs (sorted_tail row_cmp e.0 (keys_of es) s) (sorted_tail row_cmp f.0 (keys_of fs) t)) (row_cmp e.0 f.0) refl
  where
    join : {a b : Group} {xs ys : List Group} → a ≡ b → xs ≡ ys → a ∷ xs ≡ b ∷ ys
    join p q = cc

    pair : {k l : List Value} {x y : List ℕ} → k ≡ l → Some x ≡ Some y → ◌≡◌ {A = Group} (k, x) (l, y)
    pair p q = cc

    tails : e.0 ≡ f.0 → (q : List Value) (b : Bool) → is_eq (row_cmp q e.0) ≡ b → offsets_at_key q es ≡ offsets_at_key q fs
    tails k q true b = past_head q e es s b ∙ sym (past_head q f fs t (ap (λ (x : List Value). is_eq (row_cmp q x)) (sym k) ∙ b))
    tails k q false b =
        sym (lookup_tail (is_at (row_cmp q)) e es b) ∙ h q ∙ lookup_tail (is_at (row_cmp q)) f fs (ap (λ (x : List Value). is_eq (row_cmp q x)) (sym k) ∙ b)

    by_order : (((q : List Value) → offsets_at_key q es ≡ offsets_at_key q fs) → es ≡ fs) → (o : Ordering) → row_cmp e.0 f.0 ≡ o → e ∷ es ≡ f ∷ fs
    by_order ih Less o = let n : Some e.1 ≡ None = sym (at_head e es) ∙ h e.0 ∙ below_head e.0 f fs t o in cc
    by_order ih Equal o =
        let k = one_row e.0 f.0 o in
        let v : Some e.1 ≡ Some f.1 = sym (at_head e es) ∙ h e.0 ∙ lookup_head (is_at (row_cmp e.0)) f fs (ap is_eq o) in
        join (pair k v) (ih (λ q. tails k q (is_eq (row_cmp q e.0)) refl))
    by_order ih Greater o = let n : None ≡ Some f.1 = sym (below_head f.0 e es s (row_cmp_total.antisymm f.0 e.0 ∙ ap ordering_reverse o)) ∙ h f.0 ∙ at_head f fs in cc

-- each row has its key in at most one group

-- 1 where there are places
abbrev one : Option (List ℕ) → ℕ
one None = 0
one (Some os) = 1

one_at_most : (o : Option (List ℕ)) → one o ≤ 1
one_at_most None = omega arith
one_at_most (Some os) = omega arith

-- how many rows have the keys of the groups
abbrev places_many : ℕ → List (List Value) → List Group → ℕ
places_many m keys [] = 0
places_many m keys (g ∷ groups) = length (places_from m keys g.0) + places_many m keys groups

none_many : (m : ℕ) (groups : List Group) → places_many m [] groups ≡ 0
none_many m [] = refl
none_many m (g ∷ gs) = let ih = none_many m gs in omega (arith, ih)

first_many : (m : ℕ) (x : List Value) (keys : List (List Value)) (groups : List Group) → IsStrictlySortedBy row_cmp (keys_of groups) → places_many m (x ∷ keys) groups ≡ places_many (m + 1) keys groups + one (offsets_at_key x groups)
first_many m x keys [] s = omega arith
first_many m x keys (g ∷ gs) s =
    ap (λ (b : Bool). length (if b then m ∷ places_from (m + 1) keys g.0 else places_from (m + 1) keys g.0) + places_many m (x ∷ keys) gs) (lists_ties value_cmp value_ties x g.0)
    ∙ by_test (first_many m x keys gs (sorted_tail row_cmp g.0 (keys_of gs) s)) (is_eq (row_cmp x g.0)) refl
  where
    by_test : places_many m (x ∷ keys) gs ≡ places_many (m + 1) keys gs + one (offsets_at_key x gs) → (b : Bool) → is_eq (row_cmp x g.0) ≡ b → length (if b then m ∷ places_from (m + 1) keys g.0 else places_from (m + 1) keys g.0) + places_many m (x ∷ keys) gs ≡ (length (places_from (m + 1) keys g.0) + places_many (m + 1) keys gs) + one (cond b (Some g.1) (offsets_at_key x gs))
    by_test ih true e =
        let z : one (offsets_at_key x gs) ≡ 0 = ap one (past_head x g gs s e) in
        omega (arith, ih, z)
    by_test ih false e = omega (arith, ih)

many_at_most : (m : ℕ) (keys : List (List Value)) (groups : List Group) → IsStrictlySortedBy row_cmp (keys_of groups) → places_many m keys groups ≤ length keys
many_at_most m [] gs s = let z = none_many m gs in omega (arith, z)
many_at_most m (x ∷ keys) gs s =
    let f = first_many m x keys gs s in
    let ih = many_at_most (m + 1) keys gs s in
    let o = one_at_most (offsets_at_key x gs) in
    omega (arith, f, ih, o)

all_found : (m : ℕ) (keys : List (List Value)) (groups : List Group) → IsStrictlySortedBy row_cmp (keys_of groups) → length keys ≤ places_many m keys groups → AllByRecursion (λ x. one (offsets_at_key x groups) ≡ 1) keys
all_found m [] gs s l = tt
all_found m (x ∷ keys) gs s l =
    let f = first_many m x keys gs s in
    let a = many_at_most (m + 1) keys gs s in
    let o = one_at_most (offsets_at_key x gs) in
    (omega (arith, f, a, o, l), all_found (m + 1) keys gs s (omega (arith, f, a, o, l)))

-- offsets that rise, each of a row with the key, are among its places

-- whether the row at the place has the key, the first row being at place m
abbrev hits : ℕ → List (List Value) → List Value → ℕ → Bool
hits m [] key o = false
hits m (x ∷ keys) key o = if o == m then row_eq x key else hits (m + 1) keys key o

later_hits : (m low n : ℕ) (x : List Value) (keys : List (List Value)) (key : List Value) (os : List ℕ) → m < low → are_between low n os ≡ true → list_all (hits m (x ∷ keys) key) os ≡ true → list_all (hits (m + 1) keys key) os ≡ true
later_hits m low n x keys key [] l a h = refl
later_hits m low n x keys key (o ∷ os) l a h =
    let two = both_true (nat_le low o && nat_lt o n) (are_between (o + 1) n os) a in
    let le : low ≤ o = most low o (both_true (nat_le low o) (nat_lt o n) two.0).0 in
    let hs = both_true (hits m (x ∷ keys) key o) (list_all (hits m (x ∷ keys) key) os) h in
    let no : (o == m) ≡ false = apart m o (omega arith) in
    let here : hits (m + 1) keys key o ≡ true = sym (ap (λ (b : Bool). if b then row_eq x key else hits (m + 1) keys key o) no) ∙ hs.0 in
    rw (here, later_hits m (o + 1) n x keys key os (omega arith) two.1 hs.1) refl

record Within (m : ℕ) (keys : List (List Value)) (key : List Value) (os : List ℕ) : Type 0 where
  few : length os ≤ length (places_from m keys key)
  all : length (places_from m keys key) ≤ length os → os ≡ places_from m keys key

no_length : (ps : List ℕ) → length ps ≤ 0 → [] ≡ ps
no_length [] l = refl
no_length (p ∷ ps) l = absurd (omega arith)

within : (m low n : ℕ) (keys : List (List Value)) (key : List Value) (os : List ℕ) → m ≤ low → are_between low n os ≡ true → list_all (hits m keys key) os ≡ true → Within m keys key os
within m low n keys key [] l a h = record { few = omega arith; all = λ e. no_length (places_from m keys key) e }
within m low n [] key (o ∷ os) l a h = cc
within m low n (x ∷ keys) key (o ∷ os) l a h =
    let lower : low ≤ o = most low o bounds.0 in
    by_place
    (within (m + 1) (o + 1) n keys key os (omega arith) two.1 (later_hits m (o + 1) n x keys key os (omega arith) two.1 hs.1))
    (λ (lt : m < o). within (m + 1) o n keys key (o ∷ os) (omega arith) here (later_hits m o n x keys key (o ∷ os) lt here h))
    (o == m) refl
  where
    two : ((nat_le low o && nat_lt o n) ≡ true) × (are_between (o + 1) n os ≡ true)
    two = both_true (nat_le low o && nat_lt o n) (are_between (o + 1) n os) a

    bounds : (nat_le low o ≡ true) × (nat_lt o n ≡ true)
    bounds = both_true (nat_le low o) (nat_lt o n) two.0

    here : are_between o n (o ∷ os) ≡ true
    here = rw (at_most o o (omega arith), bounds.1, two.1) refl

    hs : (hits m (x ∷ keys) key o ≡ true) × (list_all (hits m (x ∷ keys) key) os ≡ true)
    hs = both_true (hits m (x ∷ keys) key o) (list_all (hits m (x ∷ keys) key) os) h

    places : (b : Bool) → row_eq x key ≡ b → places_from m (x ∷ keys) key ≡ (if b then m ∷ places_from (m + 1) keys key else places_from (m + 1) keys key)
    places b e = ap (λ (t : Bool). if t then m ∷ places_from (m + 1) keys key else places_from (m + 1) keys key) e

    join : {a b : ℕ} {xs ys : List ℕ} → a ≡ b → xs ≡ ys → a ∷ xs ≡ b ∷ ys
    join p q = cc

    by_row : Within (m + 1) keys key (o ∷ os) → (b : Bool) → row_eq x key ≡ b → Within m (x ∷ keys) key (o ∷ os)
    by_row w true e =
        let len : length (places_from m (x ∷ keys) key) ≡ suc (length (places_from (m + 1) keys key)) = ap length (places true e) in
        let f = w.few in
        record { few = omega (arith, len, f); all = λ k. absurd (omega (arith, len, f, k)) }
    by_row w false e =
        let len : length (places_from m (x ∷ keys) key) ≡ length (places_from (m + 1) keys key) = ap length (places false e) in
        let f = w.few in
        record { few = omega (arith, len, f); all = λ k. w.all (omega (arith, len, k)) ∙ sym (places false e) }

    by_place : Within (m + 1) keys key os → (m < o → Within (m + 1) keys key (o ∷ os)) → (b : Bool) → (o == m) ≡ b → Within m (x ∷ keys) key (o ∷ os)
    by_place w v true e =
        let r : row_eq x key ≡ true = sym (ap (λ (t : Bool). if t then row_eq x key else hits (m + 1) keys key o) e) ∙ hs.0 in
        let len : length (places_from m (x ∷ keys) key) ≡ suc (length (places_from (m + 1) keys key)) = ap length (places true r) in
        let f = w.few in
        record { few = omega (arith, len, f); all = λ k. join (same o m e) (w.all (omega (arith, len, k))) ∙ sym (places true r) }
    by_place w v false e =
        let lower : low ≤ o = most low o bounds.0 in
        let d : m < o = above o m e (omega arith) in
        by_row (v d) (row_eq x key) refl

-- the groups have all places

all_within : (n : ℕ) (keys : List (List Value)) (groups : List Group) → list_all (λ g. are_offsets n g.1) groups ≡ true → list_all (λ g. list_all (hits 0 keys g.0) g.1) groups ≡ true → AllByRecursion (λ g. Within 0 keys g.0 g.1) groups
all_within n keys [] a h = tt
all_within n keys (g ∷ gs) a h =
    let fits = both_true (are_offsets n g.1) (list_all (λ g. are_offsets n g.1) gs) a in
    let hs = both_true (list_all (hits 0 keys g.0) g.1) (list_all (λ g. list_all (hits 0 keys g.0) g.1) gs) h in
    (within 0 0 n keys g.0 g.1 (omega arith) (both_true (nat_lt 0 (length g.1)) (are_between 0 n g.1) fits.0).1 hs.0, all_within n keys gs fits.1 hs.1)

fewer : (keys : List (List Value)) (groups : List Group) → AllByRecursion (λ g. Within 0 keys g.0 g.1) groups → offsets_many groups ≤ places_many 0 keys groups
fewer keys [] w = omega arith
fewer keys (g ∷ gs) w =
    let f = w.0.few in
    let ih = fewer keys gs w.1 in
    omega (arith, f, ih)

all_places : (keys : List (List Value)) (groups : List Group) → AllByRecursion (λ g. Within 0 keys g.0 g.1) groups → places_many 0 keys groups ≤ offsets_many groups → AllByRecursion (λ g. g.1 ≡ places_from 0 keys g.0) groups
all_places keys [] w l = tt
all_places keys (g ∷ gs) w l =
    let f = w.0.few in
    let r = fewer keys gs w.1 in
    (w.0.all (omega (arith, f, r, l)), all_places keys gs w.1 (omega (arith, f, r, l)))

-- what is found for a key are its places
found_places : (n : ℕ) (keys : List (List Value)) (groups : List Group) (q : List Value) (os : List ℕ) → list_all (λ g. are_offsets n g.1) groups ≡ true → AllByRecursion (λ g. g.1 ≡ places_from 0 keys g.0) groups → offsets_at_key q groups ≡ Some os → some_places (places_from 0 keys q) ≡ Some os
found_places n keys [] q os a p h = cc
found_places n keys (g ∷ gs) q os a p h = by_test (found_places n keys gs q os fits.1 p.1) (is_eq (row_cmp q g.0)) refl
  where
    fits : (are_offsets n g.1 ≡ true) × (list_all (λ g. are_offsets n g.1) gs ≡ true)
    fits = both_true (are_offsets n g.1) (list_all (λ g. are_offsets n g.1) gs) a

    some : (ps : List ℕ) → nat_lt 0 (length ps) ≡ true → some_places ps ≡ Some ps
    some [] l = let z : 0 < 0 = less 0 0 l in absurd (omega arith)
    some (x ∷ ps) l = refl

    by_test : (offsets_at_key q gs ≡ Some os → some_places (places_from 0 keys q) ≡ Some os) → (b : Bool) → is_eq (row_cmp q g.0) ≡ b → some_places (places_from 0 keys q) ≡ Some os
    by_test ih true e =
        let k : q ≡ g.0 = one_row q g.0 (equal_is (row_cmp q g.0) e) in
        let v : Some g.1 ≡ Some os = sym (lookup_head (is_at (row_cmp q)) g gs e) ∙ h in
        let here : places_from 0 keys q ≡ g.1 = ap (places_from 0 keys) k ∙ sym p.0 in
        ap some_places here ∙ some g.1 (both_true (nat_lt 0 (length g.1)) (are_between 0 n g.1) fits.0).0 ∙ v
    by_test ih false e = ih (sym (lookup_tail (is_at (row_cmp q)) g gs e) ∙ h)

-- a key that isn't found has no places
no_places : (m : ℕ) (keys : List (List Value)) (groups : List Group) (q : List Value) → AllByRecursion (λ x. one (offsets_at_key x groups) ≡ 1) keys → offsets_at_key q groups ≡ None → places_from m keys q ≡ []
no_places m [] groups q a h = refl
no_places m (x ∷ keys) groups q a h = by_test (no_places (m + 1) keys groups q a.1 h) (row_eq x q) refl
  where
    by_test : places_from (m + 1) keys q ≡ [] → (b : Bool) → row_eq x q ≡ b → (if b then m ∷ places_from (m + 1) keys q else places_from (m + 1) keys q) ≡ []
    by_test ih true e =
        let k : x ≡ q = same_row x q e in
        let z : one (offsets_at_key x groups) ≡ 0 = ap (λ (y : List Value). one (offsets_at_key y groups)) k ∙ ap one h in
        let f = a.0 in
        absurd (omega (arith, z, f))
    by_test ih false e = ih

finds : (n : ℕ) (keys : List (List Value)) (groups : List Group) (q : List Value) → list_all (λ g. are_offsets n g.1) groups ≡ true → AllByRecursion (λ g. g.1 ≡ places_from 0 keys g.0) groups → AllByRecursion (λ x. one (offsets_at_key x groups) ≡ 1) keys → offsets_at_key q groups ≡ some_places (places_from 0 keys q)
finds n keys groups q a p f = by_found (offsets_at_key q groups) refl
  where
    by_found : (o : Option (List ℕ)) → offsets_at_key q groups ≡ o → offsets_at_key q groups ≡ some_places (places_from 0 keys q)
    by_found None e = e ∙ sym (ap some_places (no_places 0 keys groups q f e))
    by_found (Some os) e = e ∙ sym (found_places n keys groups q os a p e)

-- groups with all places are those of the rows
groups_are : (n : ℕ) (keys : List (List Value)) (groups : List Group) → are_rising None (keys_of groups) ≡ true → list_all (λ g. are_offsets n g.1) groups ≡ true → list_all (λ g. list_all (hits 0 keys g.0) g.1) groups ≡ true → offsets_many groups ≡ length keys → groups ≡ groups_of keys
groups_are n keys groups r a h e =
    let s : IsStrictlySortedBy row_cmp (keys_of groups) = rising_sorted None (keys_of groups) r in
    let t : IsStrictlySortedBy row_cmp (keys_of (groups_of keys)) = rising_sorted None (keys_of (groups_of keys)) (groups_rise keys) in
    let w = all_within n keys groups a h in
    let f = fewer keys groups w in
    let m = many_at_most 0 keys groups s in
    let p = all_places keys groups w (omega (arith, e, f, m)) in
    let q = all_found 0 keys groups s (omega (arith, e, f)) in
    alike groups (groups_of keys) s t (λ (k : List Value). finds n keys groups k a p q ∙ sym (places_are keys k))

-- a row that has a key, by its place among the keys
hit : (m : ℕ) (rows : List RowOf) (places : List ℕ) (key : List Value) (o : ℕ) → has_key rows places key o ≡ true → hits m (map (key_of places) rows) key (m + o) ≡ true
hit m [] places key o h =
    let l : o < 0 = less o 0 (both_true (nat_lt o 0) (is_eq (row_cmp (key_of places (get_or [] o [])) key)) h).0 in
    absurd (omega arith)
hit m (r ∷ rows) places key zero h =
    let e : is_eq (row_cmp (key_of places r) key) ≡ true = (both_true (nat_lt 0 (length (r ∷ rows))) (is_eq (row_cmp (key_of places r) key)) h).1 in
    ap (λ (b : Bool). if b then row_eq (key_of places r) key else hits (m + 1) (map (key_of places) rows) key (m + 0)) (equal (m + 0) m (omega arith))
    ∙ lists_ties value_cmp value_ties (key_of places r) key ∙ e
hit m (r ∷ rows) places key (suc o) h =
    let hs = both_true (nat_lt (suc o) (length (r ∷ rows))) (is_eq (row_cmp (key_of places (get_or rows o [])) key)) h in
    let l : suc o < suc (length rows) = less (suc o) (suc (length rows)) hs.0 in
    let later : has_key rows places key o ≡ true = rw (below o (length rows) (omega arith), hs.1) refl in
    let e : m + 1 + o ≡ m + suc o = omega arith in
    ap (λ (b : Bool). if b then row_eq (key_of places r) key else hits (m + 1) (map (key_of places) rows) key (m + suc o)) (apart m (m + suc o) (omega arith))
    ∙ ap (hits (m + 1) (map (key_of places) rows) key) (sym e)
    ∙ hit (m + 1) rows places key o later
  where
    below : (a b : ℕ) → a < b → nat_lt a b ≡ true
    below a b r = grind (arith, nat_tests)

all_hit : (rows : List RowOf) (places : List ℕ) (key : List Value) (os : List ℕ) → list_all (has_key rows places key) os ≡ true → list_all (hits 0 (map (key_of places) rows) key) os ≡ true
all_hit rows places key [] h = refl
all_hit rows places key (o ∷ os) h =
    let hs = both_true (has_key rows places key o) (list_all (has_key rows places key) os) h in
    let z : 0 + o ≡ o = omega arith in
    let here : hits 0 (map (key_of places) rows) key o ≡ true = ap (hits 0 (map (key_of places) rows) key) (sym z) ∙ hit 0 rows places key o hs.0 in
    rw (here, all_hit rows places key os hs.1) refl

all_matched : (rows : List RowOf) (places : List ℕ) (groups : List Group) → list_all (is_matched rows places) groups ≡ true → list_all (λ g. list_all (hits 0 (map (key_of places) rows) g.0) g.1) groups ≡ true
all_matched rows places [] h = refl
all_matched rows places (g ∷ gs) h =
    let hs = both_true (is_matched rows places g) (list_all (is_matched rows places) gs) h in
    rw (all_hit rows places g.0 g.1 hs.0, all_matched rows places gs hs.1) refl

pub matched_block : (rows : List RowOf) (places : List ℕ) (n : ℕ) (bytes : List ℕ) → IsBlock (length places) n bytes → AreMatched rows places (groups_in (length places) bytes) → bytes ≡ key_block rows places
matched_block rows places n bytes b m =
    let keys : List (List Value) = map (key_of places) rows in
    let many : offsets_many (groups_in (length places) bytes) ≡ length keys = m.many ∙ sym (length-map rows (key_of places)) in
    b.same ∙ ap block_of (groups_are n keys (groups_in (length places) bytes) b.index.rising b.offsets (all_matched rows places (groups_in (length places) bytes) m.matched) many)

-- the block of an index that was read

all_offsets : (kinds : List ColType) (n : ℕ) (groups : List Group) → AllByRecursion (IsGroup kinds n) groups → list_all (λ g. are_offsets n g.1) groups ≡ true
all_offsets kinds n [] h = refl
all_offsets kinds n (g ∷ gs) h = rw (h.0.offsets, all_offsets kinds n gs h.1) refl

pub block_read : (kinds : List ColType) (n : ℕ) (bytes : List ℕ) (groups : List Group) → IsBytes bytes → index_at kinds n bytes ≡ Ok groups → IsBlock (length kinds) n bytes
block_read kinds n bytes groups b e =
    let s = read_is_spelled kinds n bytes groups b e in
    let t = stands kinds n groups bytes s in
    record {
      index = t.index;
      same = s.same ∙ ap block_of (sym t.are);
      offsets = ap (list_all (λ g. are_offsets n g.1)) t.are ∙ all_offsets kinds n groups s.groups;
    }

-- one more group is looked at

all_push : (test : Group → Bool) (gs : List Group) (g : Group) → list_all test gs ≡ true → test g ≡ true → list_all test (gs ++ g ∷ []) ≡ true
all_push test [] g h t = rw t refl
all_push test (x ∷ gs) g h t =
    let hs = both_true (test x) (list_all test gs) h in
    rw (hs.0, all_push test gs g hs.1 t) refl

many_push : (gs : List Group) (g : Group) → offsets_many (gs ++ g ∷ []) ≡ offsets_many gs + length g.1
many_push [] g = omega arith
many_push (x ∷ gs) g = let ih = many_push gs g in omega (arith, ih)

pub record Seen (rows : List RowOf) (places : List ℕ) (groups : List Group) (left : ℕ) : Type 0 where
  pub matched : list_all (is_matched rows places) groups ≡ true
  pub many : left + offsets_many groups ≡ length rows

pub seen_more : (rows : List RowOf) (places : List ℕ) (groups : List Group) (i : ℕ) (g : Group) (left count : ℕ) → slice_get groups i ≡ Some g → Seen rows places (take i groups) left → is_matched rows places g ≡ true → count ≡ length g.1 → count ≤ left → Seen rows places (take (i + 1) groups) (left - count)
seen_more rows places groups i g left count e s m n l =
    let more : take (i + 1) groups ≡ take i groups ++ g ∷ [] = take_more groups i g (slice_get_within groups i g e) ∙ ap (λ (x : Group). take i groups ++ x ∷ []) (get_or_from_slice_get groups i g g e) in
    let many : offsets_many (take (i + 1) groups) ≡ offsets_many (take i groups) + length g.1 = ap offsets_many more ∙ many_push (take i groups) g in
    let was = s.many in
    record {
      matched = ap (list_all (is_matched rows places)) more ∙ all_push (is_matched rows places) (take i groups) g s.matched m;
      many = omega (arith, many, was, n, l);
    }

pub seen_all : (rows : List RowOf) (places : List ℕ) (groups : List Group) (i left : ℕ) → length groups ≤ i → Seen rows places (take i groups) left → left ≡ 0 → AreMatched rows places groups
seen_all rows places groups i left l s z =
    let all : take i groups ≡ groups = take_all i groups l in
    let was = s.many in
    let many : offsets_many (take i groups) ≡ length rows = omega (arith, was, z) in
    record {
      matched = ap (list_all (is_matched rows places)) (sym all) ∙ s.matched;
      many = ap offsets_many (sym all) ∙ many;
    }
