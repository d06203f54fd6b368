-- One part more is read.
use Rattle.std.proofs.Common.{◌≡◌, ℕ, zero, suc, ◌+◌, ◌-◌, ◌*◌, ◌<◌, ◌≤◌, Bool, true, false, not, ◌&&◌, ◌||◌, cond, nat_eq, nat_cmp, nat_lt, List, [], ◌∷◌, ◌++◌, length, take, drop, get_or, map, refl, sym, ap, subst, ◌∙◌, arith, Result, Ok, Err}
use Rattle.std.specs.List.{list_all}
use Rattle.std.specs.BTreeSet.{BTreeSet, contains, Updates}
use Rattle.std.specs.Cmp.{unsigned_tied}
use Rattle.std.proofs.lemmas.List.{append_assoc, append-nil, length-drop, length-take-le}
use Rattle.std.proofs.Math.Seq.{drop-cons}
use Rattle.s2_value.specs.declared.schemas.Col.{Col}
use Rattle.s2_colenc.specs.declared.views.Body.{Body}
use Rattle.s2_value.specs.Columns.{are_distinct, has_place}
use Rattle.s2_segindex.specs.Reading.{◌>>=◌}
use Rattle.s2_segindex.proofs.Results.{both_true}
use Rattle.s2_segment.specs.declared.faults.SegErr.{SegErr}
use Rattle.s2_segment.specs.declared.faults.SegErr.TheVariants as fault
use Rattle.s2_segment.specs.Reading.{is_memory, Fails}
use Rattle.s2_segment.specs.Parts.{Indexed, with_first, one_column_at, columns_at, kinds_of, one_index_at, indexes_at}
use Rattle.s2_segment.specs.Places.{with_front}

-- a fault where a part should stand is a fault of the whole
pub fails_on : {A B : Type 0} (e : SegErr) (read : Result A SegErr) (f : A → Result B SegErr) → Fails e read → Fails e (read >>= f)
fails_on e read f h m = ap (λ (r : Result _ SegErr). r >>= f) (h m)

front_first : {X : Type 0} (front : List X) (x : X) (read : Result (List X × List ℕ) SegErr) → with_front front (with_first x read) ≡ with_front (front ++ x ∷ []) read
front_first {X = X} front x (Ok y) = pair (sym (append_assoc front (x ∷ []) y.0))
  where
    pair : {a b : List X} → a ≡ b → ◌≡◌ {A = Result (List X × List ℕ) SegErr} (Ok (a, y.1)) (Ok (b, y.1))
    pair p = cc
front_first {X = X} front x (Err e) = refl

pub front_none : {X : Type 0} (read : Result (List X × List ℕ) SegErr) → with_front [] read ≡ read
front_none (Ok y) = refl
front_none (Err e) = refl

-- the columns that are left, behind one that was read
pub column_goes : (front : List Body) (n c : ℕ) (col : Col) (cols : List Col) (bytes : List ℕ) (x : Body × List ℕ) → one_column_at n c col.kind bytes ≡ Ok x → with_front front (columns_at n c (col ∷ cols) bytes) ≡ with_front (front ++ x.0 ∷ []) (columns_at n (c + 1) cols x.1)
column_goes front n c col cols bytes x h =
    ap (λ (r : Result (Body × List ℕ) SegErr). with_front front (r >>= (λ (one : Body × List ℕ). with_first one.0 (columns_at n (c + 1) cols one.1)))) h
    ∙ front_first front x.0 (columns_at n (c + 1) cols x.1)

pub column_stops : (front : List Body) (n c : ℕ) (col : Col) (cols : List Col) (bytes : List ℕ) (e : SegErr) → one_column_at n c col.kind bytes ≡ Err e → with_front front (columns_at n c (col ∷ cols) bytes) ≡ Err e
column_stops front n c col cols bytes e h =
    ap (λ (r : Result (Body × List ℕ) SegErr). with_front front (r >>= (λ (one : Body × List ℕ). with_first one.0 (columns_at n (c + 1) cols one.1)))) h

-- the indexes that are left, behind one that was read
pub index_goes : (front : List Indexed) (n j : ℕ) (cols : List Col) (keys : List (List ℕ)) (bytes : List ℕ) (x : Indexed × List ℕ) → j < length keys → one_index_at n j (kinds_of cols (get_or keys j [])) bytes ≡ Ok x → with_front front (indexes_at n j cols (drop j keys) bytes) ≡ with_front (front ++ x.0 ∷ []) (indexes_at n (j + 1) cols (drop (j + 1) keys) x.1)
index_goes front n j cols keys bytes x l h =
    let e : suc j ≡ j + 1 = omega arith in
    ap (λ (ks : List (List ℕ)). with_front front (indexes_at n j cols ks bytes)) (drop-cons keys j [] l ∙ ap (λ (k : ℕ). get_or keys j [] ∷ drop k keys) e)
    ∙ ap (λ (r : Result (Indexed × List ℕ) SegErr). with_front front (r >>= (λ (one : Indexed × List ℕ). with_first one.0 (indexes_at n (j + 1) cols (drop (j + 1) keys) one.1)))) h
    ∙ front_first front x.0 (indexes_at n (j + 1) cols (drop (j + 1) keys) x.1)

pub index_stops : (front : List Indexed) (n j : ℕ) (cols : List Col) (keys : List (List ℕ)) (bytes : List ℕ) (e : SegErr) → j < length keys → one_index_at n j (kinds_of cols (get_or keys j [])) bytes ≡ Err e → with_front front (indexes_at n j cols (drop j keys) bytes) ≡ Err e
index_stops front n j cols keys bytes err l h =
    let e : suc j ≡ j + 1 = omega arith in
    ap (λ (ks : List (List ℕ)). with_front front (indexes_at n j cols ks bytes)) (drop-cons keys j [] l ∙ ap (λ (k : ℕ). get_or keys j [] ∷ drop k keys) e)
    ∙ ap (λ (r : Result (Indexed × List ℕ) SegErr). with_front front (r >>= (λ (one : Indexed × List ℕ). with_first one.0 (indexes_at n (j + 1) cols (drop (j + 1) keys) one.1)))) h

pub indexes_end : (front : List Indexed) (n j : ℕ) (cols : List Col) (keys : List (List ℕ)) (bytes : List ℕ) → length keys ≤ j → with_front front (indexes_at n j cols (drop j keys) bytes) ≡ Ok (front, bytes)
indexes_end front n j cols keys bytes l =
    ap (λ (ks : List (List ℕ)). with_front front (indexes_at n j cols ks bytes)) (drop_all j keys l) ∙ pair (append-nil front)
  where
    drop_all : (j : ℕ) (keys : List (List ℕ)) → length keys ≤ j → drop j keys ≡ []
    drop_all zero [] h = refl
    drop_all (suc j) [] h = refl
    drop_all zero (k ∷ keys) h = absurd (omega arith)
    drop_all (suc j) (k ∷ keys) h = drop_all j keys (omega arith)

    pair : {a b : List Indexed} → a ≡ b → ◌≡◌ {A = Result (List Indexed × List ℕ) SegErr} (Ok (a, bytes)) (Ok (b, bytes))
    pair p = cc

-- what is left behind the first of a list
pub later_length : {X : Type 0} (left : List X) → 1 ≤ length left → length (take (length left - 1) (drop 1 left)) + 1 ≡ length left
later_length {X = X} left l =
    let d = length-drop 1 left in
    let e = length-take-le (length left - 1) (drop 1 left) (omega arith) in
    omega arith

pub first_later : {X : Type 0} (left : List X) (first : X) → 1 ≤ length left → first ≡ get_or left 0 first → left ≡ first ∷ take (length left - 1) (drop 1 left)
first_later {X = X} left first l h =
    let d = length-drop 1 left in
    drop-cons left 0 first l ∙ ap (λ (x : X). x ∷ drop 1 left) (sym h) ∙ ap (λ (xs : List X). first ∷ xs) (sym (all (length left - 1) (drop 1 left) (omega arith)))
  where
    all : (k : ℕ) (xs : List X) → length xs ≡ k → take k xs ≡ xs
    all zero [] e = refl
    all zero (x ∷ xs) e = absurd (omega arith)
    all (suc k) [] e = refl
    all (suc k) (x ∷ xs) e = ap (λ (ys : List X). x ∷ ys) (all k xs (omega arith))

pub all_push : {X : Type 0} (p : X → Bool) (xs : List X) (x : X) → list_all p xs ≡ true → p x ≡ true → list_all p (xs ++ x ∷ []) ≡ true
all_push p [] x h q = ap (λ (b : Bool). b && true) q
all_push p (y ∷ xs) x h q = let b = both_true (p y) (list_all p xs) h in rw (b.0, all_push p xs x b.1 q) refl

pub column_next : (front more : List Body) (n c : ℕ) (left : List Col) (col : Col) (bytes after : List ℕ) (x : Body) → 1 ≤ length left → col ≡ get_or left 0 col → more ≡ front ++ x ∷ [] → one_column_at n c col.kind bytes ≡ Ok (x, after) → with_front more (columns_at n (c + 1) (take (length left - 1) (drop 1 left)) after) ≡ with_front front (columns_at n c left bytes)
column_next front more n c left col bytes after x l e m h =
    let later : List Col = take (length left - 1) (drop 1 left) in
    ap (λ (f : List Body). with_front f (columns_at n (c + 1) later after)) m
    ∙ sym (column_goes front n c col later bytes (x, after) h)
    ∙ ap (λ (cs : List Col). with_front front (columns_at n c cs bytes)) (sym (first_later left col l e))

pub map_push : {X Y : Type 0} (f : X → Y) (xs : List X) (x : X) → map f (xs ++ x ∷ []) ≡ map f xs ++ f x ∷ []
map_push {Y = Y} f [] x = refl
map_push {Y = Y} f (y ∷ xs) x = ap (λ (ys : List Y). f y ∷ ys) (map_push f xs x)

-- row numbers, from place k on
pub drop_end : {X : Type 0} (j : ℕ) (xs : List X) → length xs ≤ j → drop j xs ≡ []
drop_end zero [] h = refl
drop_end (suc j) [] h = refl
drop_end zero (k ∷ xs) h = absurd (omega arith)
drop_end (suc j) (k ∷ xs) h = drop_end j xs (omega arith)

ids_step : (all : List ℕ) (left x : ℕ) → 0 < left → left ≤ length all → x ≡ get_or all (left - 1) 0 → drop (left - 1) all ≡ x ∷ drop left all
ids_step all left x p l e =
    let s : suc (left - 1) ≡ left = omega arith in
    drop-cons all (left - 1) 0 (omega arith) ∙ ap (λ (k : ℕ). get_or all (left - 1) 0 ∷ drop k all) s ∙ ap (λ (y : ℕ). y ∷ drop left all) (sym e)

pub has_more : (all : List ℕ) (left x : ℕ) (old new : BTreeSet ℕ) → 0 < left → left ≤ length all → x ≡ get_or all (left - 1) 0 → ((q : ℕ) → contains nat_cmp old q ≡ has_place q (drop left all)) → Updates nat_cmp old new x true → (q : ℕ) → contains nat_cmp new q ≡ has_place q (drop (left - 1) all)
has_more all left x old new p l e h u q =
    u.0 q ∙ ap (λ (b : Bool). cond b true (contains nat_cmp old q)) (unsigned_tied x q) ∙ ap (λ (b : Bool). cond (nat_eq x q) true b) (h q) ∙ or_cond (nat_eq x q) (has_place q (drop left all)) ∙ ap (has_place q) (sym (ids_step all left x p l e))
  where
    or_cond : (a b : Bool) → cond a true b ≡ (a || b)
    or_cond true b = refl
    or_cond false b = refl

pub distinct_more : (all : List ℕ) (left x : ℕ) → 0 < left → left ≤ length all → x ≡ get_or all (left - 1) 0 → are_distinct (drop left all) ≡ true → has_place x (drop left all) ≡ false → are_distinct (drop (left - 1) all) ≡ true
distinct_more all left x p l e h n =
    ap are_distinct (ids_step all left x p l e) ∙ rw (n, h) refl

pub repeated : (all : List ℕ) (left x : ℕ) → 0 < left → left ≤ length all → x ≡ get_or all (left - 1) 0 → has_place x (drop left all) ≡ true → are_distinct all ≡ false
repeated all left x p l e n = later (left - 1) all (ap are_distinct (ids_step all left x p l e) ∙ rw n refl)
  where
    and_false : (a b : Bool) → b ≡ false → (a && b) ≡ false
    and_false true b h = h
    and_false false b h = refl

    later : (k : ℕ) (xs : List ℕ) → are_distinct (drop k xs) ≡ false → are_distinct xs ≡ false
    later zero xs h = h
    later (suc k) [] h = h
    later (suc k) (y ∷ xs) h = and_false (not (has_place y xs)) (are_distinct xs) (later k xs h)

pub not_flip : (a b : Bool) → a ≡ not b → a ≡ true → b ≡ false
not_flip a true e h = cc
not_flip a false e h = refl

pub not_flipped : (a b : Bool) → a ≡ not b → a ≡ false → b ≡ true
not_flipped a true e h = refl
not_flipped a false e h = cc
