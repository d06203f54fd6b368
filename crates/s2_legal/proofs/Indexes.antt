-- Row numbers under values of keys.
use Rattle.std.proofs.Common.{◌≡◌, ℕ, ◌+◌, ◌<◌, Bool, true, false, cond, List, [], ◌∷◌, ◌++◌, zero, suc, Option, Some, None, length, slice_index_or, slice_set, refl, sym, ap, subst, ◌∙◌, arith}
use Rattle.std.specs.Prelude.{◌&&◌, ◌||◌, ◌==◌, not, nat_lt, if◌then◌else◌, unwrap_or}
use Rattle.std.specs.declared.cmp.Ordering.{Ordering}
use Rattle.std.specs.declared.cmp.Ordering.TheVariants.{Less, Equal, Greater}
use Rattle.std.specs.Ordering.{nat_cmp, is_eq, ordering_then}
use Rattle.std.specs.Cmp.Lexicographic.{lists_ties, lists_equiv}
use Rattle.std.specs.List.{list_any, slice_get}
use Rattle.std.specs.Map.{lookup}
use Rattle.std.proofs.lemmas.Option.{slice_get-get_or}
use Rattle.std.proofs.lemmas.List.{length-set}
use Rattle.std.specs.BTreeMap.{BTreeMap, get, is_at, Updates}
use Rattle.std.specs.BTreeSet.{BTreeSet, contains}
use Rattle.std.proofs.lemmas.Bool.{and_parts, or_right, eqb-true, eq-eqb, lt-ltb, le-ltb}
use Rattle.std.proofs.lemmas.Bool.Decides.{nat_tests}
use Rattle.std.proofs.lemmas.List.Folds.{list_any-append}
use Rattle.s2_value.specs.declared.values.Value.{Value}
use Rattle.s2_value.specs.Order.{row_cmp, row_eq, value_cmp, value_ties, value_eq_equiv, same_row}
use Rattle.s2_value.specs.Rows.{key_of}
use Rattle.s2_model.specs.declared.entries.Change.{Change}
use Rattle.s2_model.specs.declared.entries.Change.TheVariants.{Put, Drop}
use Rattle.s2_model.specs.Held.{has_key, put_has_key}
use Rattle.s2_model.specs.Table.{Table, RowOf, row_at, drop_row, apply_change, number_of}
use Rattle.s2_model.proofs.Tables.{row_at-apply, row_at-drop_row}
use Rattle.s2_legal.specs.Keys.{KeyValue, KeyIndex, key_value_cmp, numbers_in, numbers_at, stands, columns_of, puts_value, NotesRow, DropsRow, NotesPuts, Finds, Lists, IsIndexed}
use Rattle.s2_legal.specs.World.{open_of}
use Rattle.s2_legal.proofs.LastPuts.{at_test}

pub row_self : (v : List Value) → row_eq v v ≡ true
row_self v = (lists_equiv value_eq_equiv).refl v

then_equal : (o p : Ordering) → is_eq (ordering_then o p) ≡ (is_eq o && is_eq p)
then_equal Less p = refl
then_equal Equal p = refl
then_equal Greater p = refl

pub same_value : (a b : KeyValue) → is_at (key_value_cmp a) b ≡ ((a.0 == b.0) && row_eq a.1 b.1)
same_value a b =
    then_equal (nat_cmp a.0 b.0) (row_cmp a.1 b.1)
    ∙ ap (λ t. t && is_eq (row_cmp a.1 b.1)) (at_test a.0 b.0)
    ∙ ap (λ t. (a.0 == b.0) && t) (sym (lists_ties value_cmp value_ties a.1 b.1))

pub one_value : (a b : KeyValue) → is_at (key_value_cmp a) b ≡ true → a ≡ b
one_value a b e =
    let both = and_parts (a.0 == b.0) (row_eq a.1 b.1) (sym (same_value a b) ∙ e) in
    ap (λ (i : ℕ). (i, a.1)) (eqb-true a.0 b.0 both.0) ∙ ap (λ (v : List Value). (b.0, v)) (same_row a.1 b.1 both.1)

-- numbers put back under a value

pub put_none : (old : KeyIndex) (a : KeyValue) (ids : BTreeSet ℕ) → numbers_at old a ≡ [] → ids.keys ≡ []
    → (q : KeyValue) (n : ℕ) → stands old q n ≡ cond (is_at (key_value_cmp a) q) (contains nat_cmp ids n) (stands old q n)
put_none old a ids none empty q n = go (is_at (key_value_cmp a) q) refl where
  go : (b : Bool) → is_at (key_value_cmp a) q ≡ b → stands old q n ≡ cond b (contains nat_cmp ids n) (stands old q n)
  go true e =
      ap (list_any (is_at (nat_cmp n))) (sym (ap (numbers_at old) (one_value a q e)) ∙ none ∙ sym empty)
  go false e = refl

pub put_some : (old new : KeyIndex) (a : KeyValue) (ids : BTreeSet ℕ) → Updates key_value_cmp old new a (Some ids)
    → (q : KeyValue) (n : ℕ) → stands new q n ≡ cond (is_at (key_value_cmp a) q) (contains nat_cmp ids n) (stands old q n)
put_some old new a ids put q n = go (is_at (key_value_cmp a) q) refl where
  found : (b : Bool) → is_at (key_value_cmp a) q ≡ b → get key_value_cmp new q ≡ cond b (Some ids) (get key_value_cmp old q)
  found b e = put.0 q ∙ ap (λ t. cond t (Some ids) (get key_value_cmp old q)) e

  go : (b : Bool) → is_at (key_value_cmp a) q ≡ b → stands new q n ≡ cond b (contains nat_cmp ids n) (stands old q n)
  go true e = ap (λ o. list_any (is_at (nat_cmp n)) (numbers_in o)) (found true e)
  go false e = ap (λ o. list_any (is_at (nat_cmp n)) (numbers_in o)) (found false e)

-- where the numbers of a value were taken out
abbrev pub TakesOut : KeyValue → KeyIndex → KeyIndex → Type 0
TakesOut a old new = (q : KeyValue) → get key_value_cmp new q ≡ cond (is_at (key_value_cmp a) q) None (get key_value_cmp old q)

taken_other : (old mid : KeyIndex) (a q : KeyValue) (n : ℕ) → TakesOut a old mid → is_at (key_value_cmp a) q ≡ false → stands mid q n ≡ stands old q n
taken_other old mid a q n out e =
    ap (λ o. list_any (is_at (nat_cmp n)) (numbers_in o)) (out q ∙ ap (λ t. cond t None (get key_value_cmp old q)) e)

pub taken_none : (old mid : KeyIndex) (a : KeyValue) → TakesOut a old mid → numbers_at mid a ≡ []
taken_none old mid a out =
    ap numbers_in (out a ∙ ap (λ t. cond t None (get key_value_cmp old a)) (same_value a a ∙ both (a.0 == a.0) (row_eq a.1 a.1) (eq-eqb a.0 a.0 refl) (row_self a.1)))
  where
    both : (x y : Bool) → x ≡ true → y ≡ true → (x && y) ≡ true
    both true true d e = refl
    both true false d e = e
    both false y d e = d

-- with one number more, or one less
pub noted : (old mid new : KeyIndex) (a : KeyValue) (id : ℕ) (taken ids : BTreeSet ℕ) → taken.keys ≡ numbers_at old a → TakesOut a old mid
    → ((n : ℕ) → contains nat_cmp ids n ≡ ((id == n) || contains nat_cmp taken n))
    → ((q : KeyValue) (n : ℕ) → stands new q n ≡ cond (is_at (key_value_cmp a) q) (contains nat_cmp ids n) (stands mid q n))
    → (q : KeyValue) (n : ℕ) → stands new q n ≡ ((is_at (key_value_cmp a) q && (id == n)) || stands old q n)
noted old mid new a id taken ids at out more put q n = go (is_at (key_value_cmp a) q) refl where
  go : (b : Bool) → is_at (key_value_cmp a) q ≡ b → stands new q n ≡ ((b && (id == n)) || stands old q n)
  go true e =
      put q n ∙ ap (λ t. cond t (contains nat_cmp ids n) (stands mid q n)) e ∙ more n
      ∙ ap (λ xs. (id == n) || list_any (is_at (nat_cmp n)) xs) (at ∙ ap (numbers_at old) (one_value a q e))
  go false e = put q n ∙ ap (λ t. cond t (contains nat_cmp ids n) (stands mid q n)) e ∙ taken_other old mid a q n out e

pub unnoted : (old mid new : KeyIndex) (a : KeyValue) (id : ℕ) (taken ids : BTreeSet ℕ) → taken.keys ≡ numbers_at old a → TakesOut a old mid
    → ((n : ℕ) → contains nat_cmp ids n ≡ (not (id == n) && contains nat_cmp taken n))
    → ((q : KeyValue) (n : ℕ) → stands new q n ≡ cond (is_at (key_value_cmp a) q) (contains nat_cmp ids n) (stands mid q n))
    → (q : KeyValue) (n : ℕ) → stands new q n ≡ (not (is_at (key_value_cmp a) q && (id == n)) && stands old q n)
unnoted old mid new a id taken ids at out less put q n = go (is_at (key_value_cmp a) q) refl where
  go : (b : Bool) → is_at (key_value_cmp a) q ≡ b → stands new q n ≡ (not (b && (id == n)) && stands old q n)
  go true e =
      put q n ∙ ap (λ t. cond t (contains nat_cmp ids n) (stands mid q n)) e ∙ less n
      ∙ ap (λ xs. not (id == n) && list_any (is_at (nat_cmp n)) xs) (at ∙ ap (numbers_at old) (one_value a q e))
  go false e = put q n ∙ ap (λ t. cond t (contains nat_cmp ids n) (stands mid q n)) e ∙ taken_other old mid a q n out e

-- key after key

pub noted_more : (keys : List (List ℕ)) (row : List Value) (id j i n : ℕ) (v k : List Value) (now was start : Bool) → k ≡ key_of (columns_of keys j) row
    → now ≡ ((is_at (key_value_cmp (j, k)) (i, v) && (id == n)) || was)
    → was ≡ ((nat_lt i j && ((id == n) && has_key (columns_of keys i) v row)) || start)
    → now ≡ ((nat_lt i (j + 1) && ((id == n) && has_key (columns_of keys i) v row)) || start)
noted_more keys row id j i n v k now was start value step before =
    step ∙ ap (λ t. (t && (id == n)) || was) (same_value (j, k) (i, v)) ∙ ap (λ t. (((j == i) && row_eq k v) && (id == n)) || t) before ∙ go (j == i) refl
  where
    join : (m r s l l' : Bool) → l ≡ false → l' ≡ true → (((true && r) && m) || ((l && (m && r)) || s)) ≡ ((l' && (m && r)) || s)
    join true true s false true p q = refl
    join true false s false true p q = refl
    join false true s false true p q = refl
    join false false s false true p q = refl
    join m r s true l' p q = cc
    join m r s false false p q = cc

    go : (b : Bool) → (j == i) ≡ b
        → (((b && row_eq k v) && (id == n)) || ((nat_lt i j && ((id == n) && has_key (columns_of keys i) v row)) || start))
        ≡ ((nat_lt i (j + 1) && ((id == n) && has_key (columns_of keys i) v row)) || start)
    go true e =
        let at : j ≡ i = eqb-true j i e in
        ap (λ w. ((true && row_eq w v) && (id == n)) || ((nat_lt i j && ((id == n) && has_key (columns_of keys i) v row)) || start))
        (value ∙ ap (λ m. key_of (columns_of keys m) row) at)
        ∙ join (id == n) (has_key (columns_of keys i) v row) start (nat_lt i j) (nat_lt i (j + 1)) (le-ltb i j (omega (arith, at))) (lt-ltb i (j + 1) (omega (arith, at)))
    go false e =
        let same : nat_lt i j ≡ nat_lt i (j + 1) = grind (arith, nat_tests) in
        ap (λ l. (l && ((id == n) && has_key (columns_of keys i) v row)) || start) same

pub unnoted_more : (keys : List (List ℕ)) (row : List Value) (id j i n : ℕ) (v k : List Value) (now was start : Bool) → k ≡ key_of (columns_of keys j) row
    → now ≡ (not (is_at (key_value_cmp (j, k)) (i, v) && (id == n)) && was)
    → was ≡ (not (nat_lt i j && ((id == n) && has_key (columns_of keys i) v row)) && start)
    → now ≡ (not (nat_lt i (j + 1) && ((id == n) && has_key (columns_of keys i) v row)) && start)
unnoted_more keys row id j i n v k now was start value step before =
    step ∙ ap (λ t. not (t && (id == n)) && was) (same_value (j, k) (i, v)) ∙ ap (λ t. not (((j == i) && row_eq k v) && (id == n)) && t) before ∙ go (j == i) refl
  where
    join : (m r s l l' : Bool) → l ≡ false → l' ≡ true → (not ((true && r) && m) && (not (l && (m && r)) && s)) ≡ (not (l' && (m && r)) && s)
    join true true s false true p q = refl
    join true false s false true p q = refl
    join false true s false true p q = refl
    join false false s false true p q = refl
    join m r s true l' p q = cc
    join m r s false false p q = cc

    go : (b : Bool) → (j == i) ≡ b
        → (not ((b && row_eq k v) && (id == n)) && (not (nat_lt i j && ((id == n) && has_key (columns_of keys i) v row)) && start))
        ≡ (not (nat_lt i (j + 1) && ((id == n) && has_key (columns_of keys i) v row)) && start)
    go true e =
        let at : j ≡ i = eqb-true j i e in
        ap (λ w. not ((true && row_eq w v) && (id == n)) && (not (nat_lt i j && ((id == n) && has_key (columns_of keys i) v row)) && start))
        (value ∙ ap (λ m. key_of (columns_of keys m) row) at)
        ∙ join (id == n) (has_key (columns_of keys i) v row) start (nat_lt i j) (nat_lt i (j + 1)) (le-ltb i j (omega (arith, at))) (lt-ltb i (j + 1) (omega (arith, at)))
    go false e =
        let same : nat_lt i j ≡ nat_lt i (j + 1) = grind (arith, nat_tests) in
        ap (λ l. not (l && ((id == n) && has_key (columns_of keys i) v row)) && start) same

-- change after change

alone : (x s : Bool) → (x || s) ≡ ((x || false) || s)
alone true s = refl
alone false s = refl

pub put_noted : (keys : List (List ℕ)) (id : ℕ) (row : List Value) (old new : KeyIndex) → NotesRow keys id row old new → NotesPuts keys (Put id row ∷ []) old new
put_noted keys id row old new notes i n v lt = notes i n v lt ∙ alone ((id == n) && has_key (columns_of keys i) v row) (stands old (i, v) n)

pub drop_noted : (keys : List (List ℕ)) (id : ℕ) (old : KeyIndex) → NotesPuts keys (Drop id ∷ []) old old
drop_noted keys id old i n v lt = go (id == n) (stands old (i, v) n) where
  go : (b s : Bool) → s ≡ (((b && false) || false) || s)
  go true s = refl
  go false s = refl

puts_more : (key : List ℕ) (v : List Value) (n : ℕ) (cs ds : List Change) → puts_value key v n (cs ++ ds) ≡ (puts_value key v n cs || puts_value key v n ds)
puts_more key v n cs ds = list_any-append (λ c. (number_of c == n) && put_has_key key v c) cs ds

pub noted_after : (keys : List (List ℕ)) (cs ds : List Change) (old mid new : KeyIndex) → NotesPuts keys cs old mid → NotesPuts keys ds mid new
    → NotesPuts keys (cs ++ ds) old new
noted_after keys cs ds old mid new first further i n v lt =
    further i n v lt ∙ ap (λ t. puts_value (columns_of keys i) v n ds || t) (first i n v lt)
    ∙ turn (puts_value (columns_of keys i) v n ds) (puts_value (columns_of keys i) v n cs) (stands old (i, v) n)
    ∙ ap (λ t. t || stands old (i, v) n) (sym (puts_more (columns_of keys i) v n cs ds))
  where
    turn : (y x s : Bool) → (y || (x || s)) ≡ ((x || y) || s)
    turn true true s = refl
    turn true false s = refl
    turn false true s = refl
    turn false false s = refl

pub listed_after : (keys : List (List ℕ)) (cs ds : List Change) (old new : KeyIndex) → Lists keys old cs → NotesPuts keys ds old new → Lists keys new (cs ++ ds)
listed_after keys cs ds old new lists notes i n v lt =
    notes i n v lt ∙ ap (λ t. puts_value (columns_of keys i) v n ds || t) (lists i n v lt) ∙ turn (puts_value (columns_of keys i) v n ds) (puts_value (columns_of keys i) v n cs)
    ∙ sym (puts_more (columns_of keys i) v n cs ds)
  where
    turn : (y x : Bool) → (y || x) ≡ (x || y)
    turn true true = refl
    turn true false = refl
    turn false true = refl
    turn false false = refl

-- rows that go and come

kept_row : (id n : ℕ) (rows : Table) (x : RowOf) → (id == n) ≡ false → row_at rows n ≡ Some x → row_at (drop_row id rows) n ≡ Some x
kept_row id n rows x ne e = row_at-drop_row id rows n ∙ ap (λ b. cond b None (row_at rows n)) ne ∙ e

still_row : (id n : ℕ) (rows : Table) (x : RowOf) → row_at (drop_row id rows) n ≡ Some x → ((id == n) ≡ false) × (row_at rows n ≡ Some x)
still_row id n rows x e = go (id == n) refl (sym (row_at-drop_row id rows n) ∙ e) where
  go : (b : Bool) → (id == n) ≡ b → cond b None (row_at rows n) ≡ Some x → ((id == n) ≡ false) × (row_at rows n ≡ Some x)
  go true f g = cc
  go false f g = (f, g)

pub found_none : (keys : List (List ℕ)) (id : ℕ) (rows : Table) (old : KeyIndex) → Finds keys old rows → Finds keys old (drop_row id rows)
found_none keys id rows old finds i n x lt e = finds i n x lt (still_row id n rows x e).1

pub found_dropped : (keys : List (List ℕ)) (id : ℕ) (row : List Value) (rows : Table) (old new : KeyIndex) → DropsRow keys id row old new → Finds keys old rows
    → Finds keys new (drop_row id rows)
found_dropped keys id row rows old new drops finds i n x lt e =
    let still = still_row id n rows x e in
    let v = key_of (columns_of keys i) x in
    drops i n v lt ∙ ap (λ b. not (b && has_key (columns_of keys i) v row) && stands old (i, v) n) still.0 ∙ finds i n x lt still.1

pub found_change : (keys : List (List ℕ)) (rows : Table) (c : Change) (mid new : KeyIndex) → Finds keys mid (drop_row (number_of c) rows) → NotesPuts keys (c ∷ []) mid new
    → Finds keys new (apply_change rows c)
found_change keys rows (Put id row) mid new finds notes i n x lt e = go (id == n) refl (sym (row_at-apply rows (Put id row ∷ []) n) ∙ e) where
  v : List Value
  v = key_of (columns_of keys i) x

  go : (b : Bool) → (id == n) ≡ b → cond b (Some row) (row_at rows n) ≡ Some x → stands new (i, v) n ≡ true
  go true f g =
      notes i n v lt ∙ ap (λ b. (((b && has_key (columns_of keys i) v row) || false) || stands mid (i, v) n)) f
      ∙ ap (λ b. ((b || false) || stands mid (i, v) n)) (ap (λ (y : RowOf). row_eq (key_of (columns_of keys i) y) v) (ap (λ (o : Option RowOf). unwrap_or o x) g) ∙ row_self v)
  go false f g = notes i n v lt ∙ or_right _ _ (finds i n x lt (kept_row id n rows x f g))
found_change keys rows (Drop id) mid new finds notes i n x lt e = go (id == n) refl (sym (row_at-apply rows (Drop id ∷ []) n) ∙ e) where
  v : List Value
  v = key_of (columns_of keys i) x

  go : (b : Bool) → (id == n) ≡ b → cond b None (row_at rows n) ≡ Some x → stands new (i, v) n ≡ true
  go true f g = cc
  go false f g = notes i n v lt ∙ or_right _ _ (finds i n x lt (kept_row id n rows x f g))

-- of all actors

pub listed_none : (keys : List (List ℕ)) (p : KeyIndex) → p.entries ≡ [] → Lists keys p []
listed_none keys p none i n v lt = ap (λ (es : List (KeyValue × BTreeSet ℕ)). list_any (is_at (nat_cmp n)) (numbers_in (lookup (is_at (key_value_cmp (i, v))) es))) none

pub set_listed : (keys : List (List ℕ)) (puts : List KeyIndex) (ws : List (List Change)) (k : ℕ) (p : KeyIndex) (cs : List Change) → k < length ws → Lists keys p cs
    → ((j : ℕ) (q : KeyIndex) → slice_get puts j ≡ Some q → Lists keys q (open_of ws j))
    → (j : ℕ) (q : KeyIndex) → slice_get (slice_set puts k p) j ≡ Some q → Lists keys q (open_of (slice_set ws k cs) j)
set_listed keys [] ws k p cs lt lists all j q e = cc
set_listed keys (x ∷ puts) [] k p cs lt lists all j q e = absurd (omega arith)
set_listed keys (x ∷ puts) (w ∷ ws) zero p cs lt lists all zero q e = subst (λ (o : KeyIndex). Lists keys o cs) (ap (λ (o : Option KeyIndex). unwrap_or o q) e) lists
set_listed keys (x ∷ puts) (w ∷ ws) zero p cs lt lists all (suc j) q e = all (suc j) q e
set_listed keys (x ∷ puts) (w ∷ ws) (suc k) p cs lt lists all zero q e = all zero q e
set_listed keys (x ∷ puts) (w ∷ ws) (suc k) p cs lt lists all (suc j) q e = set_listed keys puts ws k p cs (omega arith) lists (λ i r f. all (suc i) r f) j q e

-- where one actor's open writes and index are others
pub indexed_set : (keys : List (List ℕ)) (rows : Table) (ws : List (List Change)) (index : KeyIndex) (puts : List KeyIndex) (k : ℕ) (p : KeyIndex) (cs : List Change)
    → k < length ws → Lists keys p cs → IsIndexed keys rows ws index puts → IsIndexed keys rows (slice_set ws k cs) index (slice_set puts k p)
indexed_set keys rows ws index puts k p cs lt lists indexed = record {
  found = indexed.found;
  actors = length-set puts k p ∙ indexed.actors;
  listed = set_listed keys puts ws k p cs lt lists indexed.listed;
}

-- the index of an actor
pub listed_at : (keys : List (List ℕ)) (rows : Table) (ws : List (List Change)) (index : KeyIndex) (puts : List KeyIndex) (k : ℕ) (d : KeyIndex)
    → k < length puts → IsIndexed keys rows ws index puts → Lists keys (slice_index_or puts k d) (open_of ws k)
listed_at keys rows ws index puts k d lt indexed = indexed.listed k (slice_index_or puts k d) (slice_get-get_or puts k d lt)

-- other rows, with an index that finds them
pub indexed_rows : (keys : List (List ℕ)) (rows other : Table) (ws : List (List Change)) (index new : KeyIndex) (puts : List KeyIndex) → Finds keys new other
    → IsIndexed keys rows ws index puts → IsIndexed keys other ws new puts
indexed_rows keys rows other ws index new puts finds indexed = record { found = finds; actors = indexed.actors; listed = indexed.listed }

-- before the first entry
pub indexed_none : (keys : List (List ℕ)) (rows : Table) (ws : List (List Change)) (index : KeyIndex) (puts : List KeyIndex) → rows ≡ [] → length puts ≡ 256
    → ((k : ℕ) → open_of ws k ≡ []) → ((k : ℕ) (p : KeyIndex) → slice_get puts k ≡ Some p → p.entries ≡ []) → IsIndexed keys rows ws index puts
indexed_none keys rows ws index puts empty actors unwritten none = record {
  found = λ i n x lt e. let no : None ≡ Some x = sym (ap (λ (t : Table). row_at t n) empty) ∙ e in cc;
  actors = actors;
  listed = λ k p e. subst (λ (cs : List Change). Lists keys p cs) (sym (unwritten k)) (listed_none keys p (none k p e));
}

pub pushed_none : (puts : List KeyIndex) (x : KeyIndex) → x.entries ≡ [] → ((k : ℕ) (p : KeyIndex) → slice_get puts k ≡ Some p → p.entries ≡ [])
    → (k : ℕ) (p : KeyIndex) → slice_get (puts ++ x ∷ []) k ≡ Some p → p.entries ≡ []
pushed_none [] x none all zero p e = subst (λ (o : KeyIndex). o.entries ≡ []) (ap (λ (o : Option KeyIndex). unwrap_or o p) e) none
pushed_none [] x none all (suc k) p e = cc
pushed_none (y ∷ puts) x none all zero p e = all zero p e
pushed_none (y ∷ puts) x none all (suc k) p e = pushed_none puts x none (λ i r f. all (suc i) r f) k p e

pub written_at : (ws : List (List Change)) (k : ℕ) (d : List Change) → k < length ws → slice_index_or ws k d ≡ open_of ws k
written_at [] k d lt = absurd (omega arith)
written_at (w ∷ ws) zero d lt = refl
written_at (w ∷ ws) (suc k) d lt = written_at ws k d (omega arith)
