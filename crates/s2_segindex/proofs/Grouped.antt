-- The groups of rows: their keys rise, and each has the places of its rows.
use Rattle.std.proofs.Common.{◌≡◌, ℕ, zero, suc, ◌+◌, ◌*◌, ◌<◌, ◌≤◌, Bool, true, false, ◌&&◌, ◌||◌, cond, List, [], ◌∷◌, ◌++◌, length, map, refl, sym, ap, subst, ◌∙◌, arith, Option, Some, None, Ordering, Less, Equal, Greater}
use Rattle.std.specs.Prelude.{if◌then◌else◌}
use Rattle.std.specs.List.{list_any}
use Rattle.std.specs.Option.{unwrap_or}
use Rattle.std.specs.List.Sorted.{IsStrictlySortedBy}
use Rattle.std.specs.Map.{lookup, keys_of}
use Rattle.std.specs.BTreeMap.{BTreeMap, is_at, IsOrdered, get}
use Rattle.std.specs.Ordering.{ordering_reverse, is_lt, is_eq, match_ordering, eq_by_cmp}
use Rattle.std.specs.Cmp.Lexicographic.{lists_ties}
use Rattle.std.proofs.lemmas.Map.{lookup-none}
use Rattle.std.proofs.lemmas.Map.Keys.{sorted_tail, IsDistinct-from_sorted}
use Rattle.std.proofs.lemmas.Map.Entries.{lookup_head, lookup_tail, none_past_head, none_below_head}
use Rattle.std.proofs.lemmas.Cmp.{tied_itself, eq_by_cmp_equiv}
use Rattle.s2_value.specs.declared.values.Value.{Value}
use Rattle.s2_value.specs.Order.{value_cmp, value_ties, row_cmp, row_eq, row_cmp_total, one_row}
use Rattle.s2_segindex.specs.Groups.{Group, places_from, with_key, distinct_keys, groups_of, offsets_at_key, some_places, is_above, are_rising}
use Rattle.s2_segindex.proofs.Results.{both_true}
use Rattle.s2_segindex.proofs.Found.{rising_sorted}

-- the key is among these
abbrev pub has : List Value → List (List Value) → Bool
has q keys = list_any (λ k. is_eq (row_cmp q k)) keys

-- the test of a place is that of a look-up
same_test : (k q : List Value) → row_eq k q ≡ is_eq (row_cmp q k)
same_test k q = lists_ties value_cmp value_ties k q ∙ ap is_eq (row_cmp_total.antisymm k q) ∙ back (row_cmp q k)
  where
    back : (o : Ordering) → is_eq (ordering_reverse o) ≡ is_eq o
    back Less = refl
    back Equal = refl
    back Greater = refl

equal_is : (o : Ordering) → is_eq o ≡ true → o ≡ Equal
equal_is Less h = cc
equal_is Equal h = refl
equal_is Greater h = cc

-- with a key among others
has_with : (q k : List Value) (keys : List (List Value)) → has q (with_key k keys) ≡ (is_eq (row_cmp q k) || has q keys)
has_with q k [] = refl
has_with q k (x ∷ keys) = by_order (has_with q k keys) (row_cmp k x) refl
  where
    twice : (b c : Bool) → (b || c) ≡ (b || (b || c))
    twice true c = refl
    twice false c = refl

    swap : (a b c : Bool) → (a || (b || c)) ≡ (b || (a || c))
    swap true true c = refl
    swap true false c = refl
    swap false true c = refl
    swap false false c = refl

    by_order : has q (with_key k keys) ≡ (is_eq (row_cmp q k) || has q keys) → (o : Ordering) → row_cmp k x ≡ o → has q (match_ordering o (k ∷ x ∷ keys) (x ∷ keys) (x ∷ with_key k keys)) ≡ (is_eq (row_cmp q k) || (is_eq (row_cmp q x) || has q keys))
    by_order ih Less e = refl
    by_order ih Equal e =
        let same : is_eq (row_cmp q k) ≡ is_eq (row_cmp q x) = ap (λ (y : List Value). is_eq (row_cmp q y)) (one_row k x e) in
        twice (is_eq (row_cmp q x)) (has q keys) ∙ ap (λ (b : Bool). b || (is_eq (row_cmp q x) || has q keys)) (sym same)
    by_order ih Greater e = ap (λ (b : Bool). is_eq (row_cmp q x) || b) ih ∙ swap (is_eq (row_cmp q x)) (is_eq (row_cmp q k)) (has q keys)

has_distinct : (q : List Value) (keys : List (List Value)) → has q (distinct_keys keys) ≡ has q keys
has_distinct q [] = refl
has_distinct q (k ∷ keys) = has_with q k (distinct_keys keys) ∙ ap (λ (b : Bool). is_eq (row_cmp q k) || b) (has_distinct q keys)

-- keys each with what a function gives
look_up : (f : List Value → List ℕ) (keys : List (List Value)) (q : List Value) → lookup (is_at (row_cmp q)) (map (λ k. (k, f k)) keys) ≡ cond (has q keys) (Some (f q)) None
look_up f [] q = refl
look_up f (k ∷ keys) q = by_test (look_up f keys q) (is_eq (row_cmp q k)) refl
  where
    by_test : lookup (is_at (row_cmp q)) (map (λ k. (k, f k)) keys) ≡ cond (has q keys) (Some (f q)) None → (b : Bool) → is_eq (row_cmp q k) ≡ b → cond b (Some (f k)) (lookup (is_at (row_cmp q)) (map (λ k. (k, f k)) keys)) ≡ cond (b || has q keys) (Some (f q)) None
    by_test ih true e = ap (λ (x : List Value). Some (f x)) (sym (one_row q k (equal_is (row_cmp q k) e)))
    by_test ih false e = ih

-- a key has places exactly where it is among them
some_are : (n : ℕ) (keys : List (List Value)) (q : List Value) → some_places (places_from n keys q) ≡ cond (has q keys) (Some (places_from n keys q)) None
some_are n [] q = refl
some_are n (k ∷ keys) q = ap (λ (b : Bool). some_places (if b then n ∷ places_from (n + 1) keys q else places_from (n + 1) keys q)) (same_test k q) ∙ by_test (some_are (n + 1) keys q) (is_eq (row_cmp q k)) ∙ sym (ap (λ (b : Bool). cond (is_eq (row_cmp q k) || has q keys) (Some (if b then n ∷ places_from (n + 1) keys q else places_from (n + 1) keys q)) None) (same_test k q))
  where
    by_test : some_places (places_from (n + 1) keys q) ≡ cond (has q keys) (Some (places_from (n + 1) keys q)) None → (b : Bool) → some_places (if b then n ∷ places_from (n + 1) keys q else places_from (n + 1) keys q) ≡ cond (b || has q keys) (Some (if b then n ∷ places_from (n + 1) keys q else places_from (n + 1) keys q)) None
    by_test ih true = refl
    by_test ih false = ih

-- the groups of rows have for each key its places
pub places_are : (keys : List (List Value)) (q : List Value) → offsets_at_key q (groups_of keys) ≡ some_places (places_from 0 keys q)
unfolding groups_of
places_are keys q = look_up (places_from 0 keys) (distinct_keys keys) q ∙ ap (λ (b : Bool). cond b (Some (places_from 0 keys q)) None) (has_distinct q keys) ∙ sym (some_are 0 keys q)

rising_with : (before : Option (List Value)) (k : List Value) (keys : List (List Value)) → is_above before k ≡ true → are_rising before keys ≡ true → are_rising before (with_key k keys) ≡ true
rising_with before k [] a r = rw a refl
rising_with before k (x ∷ keys) a r = by_order (λ over all. rising_with (Some x) k keys over all) (row_cmp k x) refl
  where
    by_order : (is_above (Some x) k ≡ true → are_rising (Some x) keys ≡ true → are_rising (Some x) (with_key k keys) ≡ true) → (o : Ordering) → row_cmp k x ≡ o → are_rising before (match_ordering o (k ∷ x ∷ keys) (x ∷ keys) (x ∷ with_key k keys)) ≡ true
    by_order ih Less e = let both = both_true (is_above before x) (are_rising (Some x) keys) r in rw (a, e, both.1) refl
    by_order ih Equal e = r
    by_order ih Greater e =
        let both = both_true (is_above before x) (are_rising (Some x) keys) r in
        let over : is_above (Some x) k ≡ true = ap is_lt (row_cmp_total.antisymm x k ∙ ap ordering_reverse e) in
        rw (both.0, ih over both.1) refl

distinct_rise : (keys : List (List Value)) → are_rising None (distinct_keys keys) ≡ true
distinct_rise [] = refl
distinct_rise (k ∷ keys) = rising_with None k (distinct_keys keys) refl (distinct_rise keys)

keys_with : (f : List Value → List ℕ) (keys : List (List Value)) → keys_of (map (λ k. (k, f k)) keys) ≡ keys
keys_with f [] = refl
keys_with f (k ∷ keys) = ap (λ (ks : List (List Value)). k ∷ ks) (keys_with f keys)

pub groups_rise : (keys : List (List Value)) → are_rising None (keys_of (groups_of keys)) ≡ true
unfolding groups_of
groups_rise keys = ap (are_rising None) (keys_with (places_from 0 keys) (distinct_keys keys)) ∙ distinct_rise keys

-- one more key
pub places_push : (n : ℕ) (keys : List (List Value)) (k q : List Value) → places_from n (keys ++ k ∷ []) q ≡ (if row_eq k q then places_from n keys q ++ (n + length keys) ∷ [] else places_from n keys q)
places_push n [] k q = by_test (row_eq k q)
  where
    by_test : (b : Bool) → (if b then n ∷ [] else []) ≡ (if b then (n + 0) ∷ [] else [])
    by_test true = let e : n ≡ n + 0 = omega arith in ap (λ (x : ℕ). x ∷ []) e
    by_test false = refl
places_push n (x ∷ keys) k q = ap (λ (ps : List ℕ). if row_eq x q then n ∷ ps else ps) (places_push (n + 1) keys k q) ∙ by_tests (row_eq x q) (row_eq k q)
  where
    by_tests : (a b : Bool) → (if a then n ∷ (if b then places_from (n + 1) keys q ++ (n + 1 + length keys) ∷ [] else places_from (n + 1) keys q) else (if b then places_from (n + 1) keys q ++ (n + 1 + length keys) ∷ [] else places_from (n + 1) keys q)) ≡ (if b then (if a then n ∷ places_from (n + 1) keys q else places_from (n + 1) keys q) ++ (n + suc (length keys)) ∷ [] else (if a then n ∷ places_from (n + 1) keys q else places_from (n + 1) keys q))
    by_tests true true = let e : n + 1 + length keys ≡ n + suc (length keys) = omega arith in rw e refl
    by_tests true false = refl
    by_tests false true = let e : n + 1 + length keys ≡ n + suc (length keys) = omega arith in rw e refl
    by_tests false false = refl

at_head : (e : Group) (es : List Group) → offsets_at_key e.0 (e ∷ es) ≡ Some e.1
at_head e es = lookup_head (is_at (row_cmp e.0)) e es (ap is_eq (tied_itself row_cmp_total e.0))

below_head : (q : List Value) (e : Group) (es : List Group) → IsStrictlySortedBy row_cmp (keys_of (e ∷ es)) → row_cmp q e.0 ≡ Less → offsets_at_key q (e ∷ es) ≡ None
below_head q e es s l = lookup-none (is_at (row_cmp q)) (e ∷ es) (none_below_head row_cmp_total q e es s l)

past_head : (q : List Value) (e : Group) (es : List Group) → IsStrictlySortedBy row_cmp (keys_of (e ∷ es)) → is_eq (row_cmp q e.0) ≡ true → offsets_at_key q es ≡ None
past_head q e es s t = lookup-none (is_at (row_cmp q)) es (none_past_head (eq_by_cmp_equiv row_cmp_total) q e es (IsDistinct-from_sorted row_cmp (keys_of (e ∷ es)) s) t)

-- groups that rise and have for each key the same are the same
alike : (es fs : List Group) → IsStrictlySortedBy row_cmp (keys_of es) → IsStrictlySortedBy row_cmp (keys_of fs) → ((q : List Value) → offsets_at_key q es ≡ offsets_at_key q fs) → es ≡ fs
alike [] [] s t h = refl
alike [] (f ∷ fs) s t h = let e : None ≡ Some f.1 = h f.0 ∙ at_head f fs in cc
alike (e ∷ es) [] s t h = let n : Some e.1 ≡ None = sym (at_head e es) ∙ h e.0 in cc
alike (e ∷ es) (f ∷ fs) s t h = by_order (alike es fs (sorted_tail row_cmp e.0 (keys_of es) s) (sorted_tail row_cmp f.0 (keys_of fs) t)) (row_cmp e.0 f.0) refl
  where
    join : {a b : Group} {xs ys : List Group} → a ≡ b → xs ≡ ys → a ∷ xs ≡ b ∷ ys
    join p q = cc

    pair : {k l : List Value} {x y : List ℕ} → k ≡ l → Some x ≡ Some y → ◌≡◌ {A = Group} (k, x) (l, y)
    pair p q = cc

    tails : e.0 ≡ f.0 → (q : List Value) (b : Bool) → is_eq (row_cmp q e.0) ≡ b → offsets_at_key q es ≡ offsets_at_key q fs
    tails k q true b = past_head q e es s b ∙ sym (past_head q f fs t (ap (λ (x : List Value). is_eq (row_cmp q x)) (sym k) ∙ b))
    tails k q false b =
        sym (lookup_tail (is_at (row_cmp q)) e es b) ∙ h q ∙ lookup_tail (is_at (row_cmp q)) f fs (ap (λ (x : List Value). is_eq (row_cmp q x)) (sym k) ∙ b)

    by_order : (((q : List Value) → offsets_at_key q es ≡ offsets_at_key q fs) → es ≡ fs) → (o : Ordering) → row_cmp e.0 f.0 ≡ o → e ∷ es ≡ f ∷ fs
    by_order ih Less o = let n : Some e.1 ≡ None = sym (at_head e es) ∙ h e.0 ∙ below_head e.0 f fs t o in cc
    by_order ih Equal o =
        let k = one_row e.0 f.0 o in
        let v : Some e.1 ≡ Some f.1 = sym (at_head e es) ∙ h e.0 ∙ lookup_head (is_at (row_cmp e.0)) f fs (ap is_eq o) in
        join (pair k v) (ih (λ q. tails k q (is_eq (row_cmp q e.0)) refl))
    by_order ih Greater o = let n : None ≡ Some f.1 = sym (below_head f.0 e es s (row_cmp_total.antisymm f.0 e.0 ∙ ap ordering_reverse o)) ∙ h f.0 ∙ at_head f fs in cc

-- a map with the places of each key has the groups
pub map_is : (m : BTreeMap (List Value) (List ℕ)) (keys : List (List Value)) → IsOrdered row_cmp m → ((q : List Value) → offsets_at_key q m.entries ≡ some_places (places_from 0 keys q)) → m.entries ≡ groups_of keys
map_is m keys o h = alike m.entries (groups_of keys) o (rising_sorted None (keys_of (groups_of keys)) (groups_rise keys)) (λ q. h q ∙ sym (places_are keys q))

-- a place put behind those of its key
pub noted : (old new : List Group) (key : List Value) (o : Option (List ℕ)) (w : List ℕ) (offset : ℕ) → offsets_at_key key old ≡ o → ((q : List Value) → offsets_at_key q new ≡ cond (is_at (row_cmp key) q) (Some w) (offsets_at_key q old)) → w ≡ unwrap_or o [] ++ offset ∷ [] → (q : List Value) → offsets_at_key q new ≡ (if row_eq key q then Some (unwrap_or (offsets_at_key q old) [] ++ offset ∷ []) else offsets_at_key q old)
noted old new key o w offset was now is q = now q ∙ by_test (is_eq (row_cmp key q)) refl ∙ sym (ap (λ (b : Bool). if b then Some (unwrap_or (offsets_at_key q old) [] ++ offset ∷ []) else offsets_at_key q old) (lists_ties value_cmp value_ties key q))
  where
    by_test : (b : Bool) → is_eq (row_cmp key q) ≡ b → cond b (Some w) (offsets_at_key q old) ≡ (if b then Some (unwrap_or (offsets_at_key q old) [] ++ offset ∷ []) else offsets_at_key q old)
    by_test true e =
        let same : offsets_at_key q old ≡ o = sym (ap (λ (k : List Value). offsets_at_key k old) (one_row key q (equal_is (row_cmp key q) e))) ∙ was in
        ap Some is ∙ sym (ap (λ (p : Option (List ℕ)). Some (unwrap_or p [] ++ offset ∷ [])) same)
    by_test false e = refl

-- a place after those of all rows so far
pub noted_all : (keys : List (List Value)) (key : List Value) (old new : List Group) (i : ℕ) → i ≡ length keys → ((q : List Value) → offsets_at_key q old ≡ some_places (places_from 0 keys q)) → ((q : List Value) → offsets_at_key q new ≡ (if row_eq key q then Some (unwrap_or (offsets_at_key q old) [] ++ i ∷ []) else offsets_at_key q old)) → (q : List Value) → offsets_at_key q new ≡ some_places (places_from 0 (keys ++ key ∷ []) q)
noted_all keys key old new i e was now q =
    now q ∙ ap (λ (p : Option (List ℕ)). if row_eq key q then Some (unwrap_or p [] ++ i ∷ []) else p) (was q)
    ∙ by_test (row_eq key q) (places_from 0 keys q) ∙ sym (ap some_places (places_push 0 keys key q))
  where
    some : (ps : List ℕ) → Some (unwrap_or (some_places ps) [] ++ i ∷ []) ≡ some_places (ps ++ (0 + length keys) ∷ [])
    some [] = let z : 0 + length keys ≡ i = omega arith in rw z refl
    some (p ∷ ps) = let z : 0 + length keys ≡ i = omega arith in rw z refl

    by_test : (b : Bool) (ps : List ℕ) → (if b then Some (unwrap_or (some_places ps) [] ++ i ∷ []) else some_places ps) ≡ some_places (if b then ps ++ (0 + length keys) ∷ [] else ps)
    by_test true ps = some ps
    by_test false ps = refl

-- a key among others has at least one place
pub places_of_member : (keys : List (List Value)) (k : List Value) → has k keys ≡ true → some_places (places_from 0 keys k) ≡ Some (places_from 0 keys k)
places_of_member keys k h = some_are 0 keys k ∙ ap (λ (b : Bool). cond b (Some (places_from 0 keys k)) None) h
