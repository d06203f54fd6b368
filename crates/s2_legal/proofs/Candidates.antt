-- The rows that may have a value.
use Rattle.std.proofs.Common.{◌≡◌, ℕ, ◌<◌, Bool, true, false, cond, List, [], ◌∷◌, Option, Some, None, length, inl, inr, refl, sym, ap, ◌∙◌, arith}
use Rattle.std.specs.Prelude.{◌⊎◌, ◌&&◌, ◌||◌, ◌==◌, not, nat_lt, is_some}
use Rattle.std.specs.Ordering.{nat_cmp}
use Rattle.std.specs.List.{list_any}
use Rattle.std.specs.BTreeMap.{is_at}
use Rattle.std.proofs.lemmas.Bool.{false≢true, and_parts, and_from, or_cases, or_left, or_right, eqb-true, eq-eqb}
use Rattle.s2_value.specs.declared.values.Value.{Value}
use Rattle.s2_value.specs.Order.{row_eq, same_row}
use Rattle.s2_value.specs.Rows.{key_of}
use Rattle.s2_model.specs.declared.entries.Change.{Change}
use Rattle.s2_model.specs.declared.entries.Change.TheVariants.{Put, Drop}
use Rattle.s2_model.specs.Held.{has_key, some_has_key, put_has_key, has_value}
use Rattle.s2_model.specs.Table.{Table, RowOf, row_at, touches, number_of, rises_above, apply}
use Rattle.s2_model.specs.Verdict.{has_other}
use Rattle.s2_model.proofs.Tables.{row_after, row_after_change, row_at-apply, above_low}
use Rattle.s2_legal.specs.Keys.{KeyIndex, KeyValue, numbers_at, stands, columns_of, puts_value, Finds, Lists}
use Rattle.s2_legal.proofs.LastPuts.{at_test}

-- whichever test holds of the item holds of some item of the list
abbrev pub IsOne : {X : Type 0} → List X → X → Type 0
IsOne {X} xs x = (q : X → Bool) → q x ≡ true → list_any q xs ≡ true

later_one : {X : Type 0} (y : X) (xs : List X) (x : X) → IsOne xs x → IsOne (y ∷ xs) x
later_one y xs x one q e = or_right (q y) (list_any q xs) (one q e)

witness_step : {X : Type 0} (p : X → Bool) (y : X) (ys : List X) → (list_any p ys ≡ true → (x : X) × (p x ≡ true) × IsOne ys x) → (p y ≡ true) ⊎ (list_any p ys ≡ true)
    → (x : X) × (p x ≡ true) × IsOne (y ∷ ys) x
witness_step p y ys more (inl here) = (y, here, λ q e. or_left (q y) (list_any q ys) e)
witness_step p y ys more (inr later) = let w = more later in (w.0, w.1, later_one y ys w.0 w.2)

pub witness : {X : Type 0} (p : X → Bool) (xs : List X) → list_any p xs ≡ true → (x : X) × (p x ≡ true) × IsOne xs x
witness p [] e = absurd (false≢true e)
witness p (y ∷ ys) e = witness_step p y ys (witness p ys) (or_cases (p y) (list_any p ys) e)

pub same_test : (a b : Bool) → (a ≡ true → b ≡ true) → (b ≡ true → a ≡ true) → a ≡ b
same_test true b f g = sym (f refl)
same_test false true f g = g refl
same_test false false f g = refl

same_number : (n m : ℕ) → is_at (nat_cmp n) m ≡ true → n ≡ m
same_number n m e = eqb-true n m (sym (at_test n m) ∙ e)

own_number : (n : ℕ) → is_at (nat_cmp n) n ≡ true
own_number n = at_test n n ∙ eq-eqb n n refl

-- a number under a value passes whichever test it passes by itself
passes : (index : KeyIndex) (a : KeyValue) (n : ℕ) (q : ℕ → Bool) → stands index a n ≡ true → q n ≡ true → list_any q (numbers_at index a) ≡ true
passes index a n q at e =
    let w = witness (is_at (nat_cmp n)) (numbers_at index a) at in
    w.2 q (ap q (sym (same_number n w.0 w.1)) ∙ e)

-- a number under the value passes
passed : (index : KeyIndex) (a : KeyValue) (q : ℕ → Bool) → list_any q (numbers_at index a) ≡ true → (n : ℕ) × (q n ≡ true) × (stands index a n ≡ true)
passed index a q e =
    let w = witness q (numbers_at index a) e in
    (w.0, w.1, w.2 (is_at (nat_cmp w.0)) (own_number w.0))

-- a row with the value is found
found_row : (keys : List (List ℕ)) (index : KeyIndex) (rows : Table) (i n : ℕ) (v : List Value) (o : Option RowOf) → Finds keys index rows → i < length keys
    → row_at rows n ≡ o → some_has_key (columns_of keys i) v o ≡ true → stands index (i, v) n ≡ true
found_row keys index rows i n v None finds lt e h = absurd (false≢true h)
found_row keys index rows i n v (Some x) finds lt e h =
    ap (λ (u : List Value). stands index (i, u) n) (sym (same_row (key_of (columns_of keys i) x) v h)) ∙ finds i n x lt e

-- a row that changes put is listed
listed_put : (keys : List (List ℕ)) (puts : KeyIndex) (cs : List Change) (i n : ℕ) (v : List Value) → Lists keys puts cs → i < length keys
    → puts_value (columns_of keys i) v n cs ≡ true → stands puts (i, v) n ≡ true
listed_put keys puts cs i n v lists lt e = lists i n v lt ∙ e

-- an actor holds the value: it puts it, or it changed a row with it

held_put : (keys : List (List ℕ)) (puts : KeyIndex) (rows : Table) (cs : List Change) (i : ℕ) (v : List Value) → Lists keys puts cs → i < length keys
    → list_any (λ n. true) (numbers_at puts (i, v)) ≡ true → has_value (columns_of keys i) rows cs v ≡ true
held_put keys puts rows cs i v lists lt e =
    let key = columns_of keys i in
    let p = passed puts (i, v) (λ n. true) e in
    let w = witness (λ (c : Change). (number_of c == p.0) && put_has_key key v c) cs (sym (lists i p.0 v lt) ∙ p.2) in
    w.2 (λ (c : Change). some_has_key key v (row_at rows (number_of c)) || put_has_key key v c)
    (or_right (some_has_key key v (row_at rows (number_of w.0))) (put_has_key key v w.0) (and_parts (number_of w.0 == p.0) (put_has_key key v w.0) w.1).1)

held_row : (key : List ℕ) (index : KeyIndex) (rows : Table) (cs : List Change) (i : ℕ) (v : List Value)
    → list_any (λ n. some_has_key key v (row_at rows n) && touches cs n) (numbers_at index (i, v)) ≡ true → has_value key rows cs v ≡ true
held_row key index rows cs i v e =
    let p = passed index (i, v) (λ n. some_has_key key v (row_at rows n) && touches cs n) e in
    let both = and_parts (some_has_key key v (row_at rows p.0)) (touches cs p.0) p.1 in
    let w = witness (λ (c : Change). number_of c == p.0) cs both.1 in
    w.2 (λ (c : Change). some_has_key key v (row_at rows (number_of c)) || put_has_key key v c)
    (or_left (some_has_key key v (row_at rows (number_of w.0))) (put_has_key key v w.0)
    (ap (λ (n : ℕ). some_has_key key v (row_at rows n)) (eqb-true (number_of w.0) p.0 w.1) ∙ both.0))

held_either : (keys : List (List ℕ)) (index puts : KeyIndex) (rows : Table) (cs : List Change) (i : ℕ) (v : List Value) → Lists keys puts cs → i < length keys
    → (list_any (λ n. true) (numbers_at puts (i, v)) ≡ true) ⊎ (list_any (λ n. some_has_key (columns_of keys i) v (row_at rows n) && touches cs n) (numbers_at index (i, v)) ≡ true)
    → has_value (columns_of keys i) rows cs v ≡ true
held_either keys index puts rows cs i v lists lt (inl e) = held_put keys puts rows cs i v lists lt e
held_either keys index puts rows cs i v lists lt (inr e) = held_row (columns_of keys i) index rows cs i v e

held_back : (keys : List (List ℕ)) (index puts : KeyIndex) (rows : Table) (cs : List Change) (i : ℕ) (v : List Value)
    → Finds keys index rows → Lists keys puts cs → i < length keys
    → (c : Change) → IsOne cs c → (some_has_key (columns_of keys i) v (row_at rows (number_of c)) ≡ true) ⊎ (put_has_key (columns_of keys i) v c ≡ true)
    → (list_any (λ n. true) (numbers_at puts (i, v)) || list_any (λ n. some_has_key (columns_of keys i) v (row_at rows n) && touches cs n) (numbers_at index (i, v))) ≡ true
held_back keys index puts rows cs i v finds lists lt c one (inl has) =
    or_right (list_any (λ n. true) (numbers_at puts (i, v))) (list_any (λ n. some_has_key (columns_of keys i) v (row_at rows n) && touches cs n) (numbers_at index (i, v)))
    (passes index (i, v) (number_of c) (λ n. some_has_key (columns_of keys i) v (row_at rows n) && touches cs n)
    (found_row keys index rows i (number_of c) v (row_at rows (number_of c)) finds lt refl has)
    (and_from (some_has_key (columns_of keys i) v (row_at rows (number_of c))) (touches cs (number_of c)) has
    (one (λ (d : Change). number_of d == number_of c) (eq-eqb (number_of c) (number_of c) refl))))
held_back keys index puts rows cs i v finds lists lt c one (inr put) =
    or_left (list_any (λ n. true) (numbers_at puts (i, v))) (list_any (λ n. some_has_key (columns_of keys i) v (row_at rows n) && touches cs n) (numbers_at index (i, v)))
    (passes puts (i, v) (number_of c) (λ n. true)
    (listed_put keys puts cs i (number_of c) v lists lt
    (one (λ (d : Change). (number_of d == number_of c) && put_has_key (columns_of keys i) v d)
    (and_from (number_of c == number_of c) (put_has_key (columns_of keys i) v c) (eq-eqb (number_of c) (number_of c) refl) put))) refl)

pub held_value : (keys : List (List ℕ)) (index puts : KeyIndex) (rows : Table) (cs : List Change) (i : ℕ) (v : List Value)
    → Finds keys index rows → Lists keys puts cs → i < length keys
    → (list_any (λ n. true) (numbers_at puts (i, v)) || list_any (λ n. some_has_key (columns_of keys i) v (row_at rows n) && touches cs n) (numbers_at index (i, v)))
    ≡ has_value (columns_of keys i) rows cs v
held_value keys index puts rows cs i v finds lists lt =
    let key = columns_of keys i in
    let put = list_any (λ (n : ℕ). true) (numbers_at puts (i, v)) in
    let found = list_any (λ (n : ℕ). some_has_key key v (row_at rows n) && touches cs n) (numbers_at index (i, v)) in
    same_test (put || found) (has_value key rows cs v)
    (λ e. held_either keys index puts rows cs i v lists lt (or_cases put found e))
    (λ e. let w = witness (λ (c : Change). some_has_key key v (row_at rows (number_of c)) || put_has_key key v c) cs e in
    held_back keys index puts rows cs i v finds lists lt w.0 w.2 (or_cases (some_has_key key v (row_at rows (number_of w.0))) (put_has_key key v w.0) w.1))

-- where a row has its value from

put_origin : (key : List ℕ) (v : List Value) (was : Option RowOf) (x : RowOf) (b : Bool) → some_has_key key v (cond b (Some x) was) ≡ true
    → (some_has_key key v was ≡ true) ⊎ ((b && has_key key v x) ≡ true)
put_origin key v was x true h = inr h
put_origin key v was x false h = inl h

drop_origin : (key : List ℕ) (v : List Value) (was : Option RowOf) (b : Bool) → some_has_key key v (cond b None was) ≡ true
    → (some_has_key key v was ≡ true) ⊎ ((b && false) ≡ true)
drop_origin key v was true h = absurd (false≢true h)
drop_origin key v was false h = inl h

change_origin : (key : List ℕ) (v : List Value) (was : Option RowOf) (c : Change) (n : ℕ) → some_has_key key v (row_after_change was c n) ≡ true
    → (some_has_key key v was ≡ true) ⊎ (((number_of c == n) && put_has_key key v c) ≡ true)
change_origin key v was (Put m x) n h = put_origin key v was x (m == n) h
change_origin key v was (Drop m) n h = drop_origin key v was (m == n) h

first_origin : (key : List ℕ) (v : List Value) (was : Option RowOf) (c : Change) (cs : List Change) (n : ℕ)
    → (some_has_key key v was ≡ true) ⊎ (((number_of c == n) && put_has_key key v c) ≡ true) → (some_has_key key v was ≡ true) ⊎ (puts_value key v n (c ∷ cs) ≡ true)
first_origin key v was c cs n (inl h) = inl h
first_origin key v was c cs n (inr p) = inr (or_left ((number_of c == n) && put_has_key key v c) (puts_value key v n cs) p)

next_origin : (key : List ℕ) (v : List Value) (was : Option RowOf) (c : Change) (cs : List Change) (n : ℕ)
    → (some_has_key key v (row_after_change was c n) ≡ true) ⊎ (puts_value key v n cs ≡ true) → (some_has_key key v was ≡ true) ⊎ (puts_value key v n (c ∷ cs) ≡ true)
next_origin key v was c cs n (inl h) = first_origin key v was c cs n (change_origin key v was c n h)
next_origin key v was c cs n (inr later) = inr (or_right ((number_of c == n) && put_has_key key v c) (puts_value key v n cs) later)

origin : (key : List ℕ) (v : List Value) (was : Option RowOf) (cs : List Change) (n : ℕ) → some_has_key key v (row_after was cs n) ≡ true
    → (some_has_key key v was ≡ true) ⊎ (puts_value key v n cs ≡ true)
origin key v was [] n e = inl e
origin key v was (c ∷ cs) n e = next_origin key v was c cs n (origin key v (row_after_change was c n) cs n e)

apply_origin : (key : List ℕ) (v : List Value) (rows : Table) (cs : List Change) (n : ℕ) → some_has_key key v (row_at (apply rows cs) n) ≡ true
    → (some_has_key key v (row_at rows n) ≡ true) ⊎ (puts_value key v n cs ≡ true)
apply_origin key v rows cs n e = origin key v (row_at rows n) cs n (ap (some_has_key key v) (sym (row_at-apply rows cs n)) ∙ e)

-- another row of a table that rises, as a look-up finds it

rises_parts : (a b : Bool) → cond a b false ≡ true → (a ≡ true) × (b ≡ true)
rises_parts true b e = (refl, e)
rises_parts false b e = absurd (false≢true e)

some_of : (key : List ℕ) (v : List Value) (o : Option RowOf) → some_has_key key v o ≡ true → is_some o ≡ true
some_of key v None h = absurd (false≢true h)
some_of key v (Some x) h = refl

behind : (key : List ℕ) (v : List Value) (p : ℕ × RowOf) (rows : Table) (m : ℕ) (b : Bool) → (p.0 == m) ≡ b → rises_above p.0 rows ≡ true
    → some_has_key key v (row_at rows m) ≡ true → some_has_key key v (row_at (p ∷ rows) m) ≡ true
behind key v p rows m true f up h =
    let lt : p.0 < m = above_low p.0 rows m up (some_of key v (row_at rows m) h) in
    let at : p.0 ≡ m = eqb-true p.0 m f in
    absurd (omega (arith, lt, at))
behind key v p rows m false f up h = ap (λ (b : Bool). some_has_key key v (cond b (Some p.1) (row_at rows m))) f ∙ h

abbrev IsOther : Table → List ℕ → ℕ → List Value → Type 0
IsOther rows key n v = (m : ℕ) × (not (m == n) ≡ true) × (some_has_key key v (row_at rows m) ≡ true)

other_step : (p : ℕ × RowOf) (rows : Table) (key : List ℕ) (n : ℕ) (v : List Value) → rises_above p.0 rows ≡ true → (has_other rows key n v ≡ true → IsOther rows key n v)
    → ((not (p.0 == n) && row_eq (key_of key p.1) v) ≡ true) ⊎ (has_other rows key n v ≡ true) → IsOther (p ∷ rows) key n v
other_step p rows key n v up more (inl here) =
    let both = and_parts (not (p.0 == n)) (row_eq (key_of key p.1) v) here in
    (p.0, both.0, ap (λ (b : Bool). some_has_key key v (cond b (Some p.1) (row_at rows p.0))) (eq-eqb p.0 p.0 refl) ∙ both.1)
other_step p rows key n v up more (inr later) =
    let o = more later in
    (o.0, o.1, behind key v p rows o.0 (p.0 == o.0) refl up o.2)

other_row : (low : ℕ) (rows : Table) (key : List ℕ) (n : ℕ) (v : List Value) → rises_above low rows ≡ true → has_other rows key n v ≡ true → IsOther rows key n v
other_row low [] key n v up e = absurd (false≢true e)
other_row low (p ∷ rows) key n v up e =
    let rest = (rises_parts (nat_lt low p.0) (rises_above p.0 rows) up).1 in
    other_step p rows key n v rest (other_row p.0 rows key n v rest) (or_cases (not (p.0 == n) && row_eq (key_of key p.1) v) (has_other rows key n v) e)

row_step : (p : ℕ × RowOf) (rows : Table) (key : List ℕ) (n m : ℕ) (v : List Value) (b : Bool) → (p.0 == m) ≡ b → not (m == n) ≡ true
    → (some_has_key key v (row_at rows m) ≡ true → has_other rows key n v ≡ true) → some_has_key key v (cond b (Some p.1) (row_at rows m)) ≡ true → has_other (p ∷ rows) key n v ≡ true
row_step p rows key n m v true f ne more h =
    or_left (not (p.0 == n) && row_eq (key_of key p.1) v) (has_other rows key n v)
    (and_from (not (p.0 == n)) (row_eq (key_of key p.1) v) (ap (λ (k : ℕ). not (k == n)) (eqb-true p.0 m f) ∙ ne) h)
row_step p rows key n m v false f ne more h = or_right (not (p.0 == n) && row_eq (key_of key p.1) v) (has_other rows key n v) (more h)

row_other : (rows : Table) (key : List ℕ) (n m : ℕ) (v : List Value) → not (m == n) ≡ true → some_has_key key v (row_at rows m) ≡ true → has_other rows key n v ≡ true
row_other [] key n m v ne has = absurd (false≢true has)
row_other (p ∷ rows) key n m v ne has = row_step p rows key n m v (p.0 == m) refl ne (row_other rows key n m v ne) has

-- another row has the value after the changes: it had it among the rows, or an open write or one of the changes puts it

abbrev found_other : Table → List ℕ → ℕ → List Value → List ℕ → Bool
found_other table key n v numbers = list_any (λ m. not (m == n) && some_has_key key v (row_at table m)) numbers

other_found : (table : Table) (key : List ℕ) (n i : ℕ) (v : List Value) (x : KeyIndex) → found_other table key n v (numbers_at x (i, v)) ≡ true → has_other table key n v ≡ true
other_found table key n i v x e =
    let p = passed x (i, v) (λ m. not (m == n) && some_has_key key v (row_at table m)) e in
    let both = and_parts (not (p.0 == n)) (some_has_key key v (row_at table p.0)) p.1 in
    row_other table key n p.0 v both.0 both.1

other_later : (table : Table) (key : List ℕ) (n i : ℕ) (v : List Value) (x y : KeyIndex)
    → (found_other table key n v (numbers_at x (i, v)) ≡ true) ⊎ (found_other table key n v (numbers_at y (i, v)) ≡ true) → has_other table key n v ≡ true
other_later table key n i v x y (inl e) = other_found table key n i v x e
other_later table key n i v x y (inr e) = other_found table key n i v y e

other_there : (table : Table) (key : List ℕ) (n i : ℕ) (v : List Value) (x y z : KeyIndex)
    → (found_other table key n v (numbers_at x (i, v)) ≡ true) ⊎ ((found_other table key n v (numbers_at y (i, v)) || found_other table key n v (numbers_at z (i, v))) ≡ true)
    → has_other table key n v ≡ true
other_there table key n i v x y z (inl e) = other_found table key n i v x e
other_there table key n i v x y z (inr e) =
    other_later table key n i v y z (or_cases (found_other table key n v (numbers_at y (i, v))) (found_other table key n v (numbers_at z (i, v))) e)

-- a row that passes is among the candidates
among : (keys : List (List ℕ)) (index puts more : KeyIndex) (rows : Table) (ws cs : List Change) (i m : ℕ) (v : List Value) (q : ℕ → Bool)
    → Finds keys index rows → Lists keys puts ws → Lists keys more cs → i < length keys → q m ≡ true
    → (some_has_key (columns_of keys i) v (row_at rows m) ≡ true) ⊎ ((puts_value (columns_of keys i) v m ws ≡ true) ⊎ (puts_value (columns_of keys i) v m cs ≡ true))
    → (list_any q (numbers_at index (i, v)) || (list_any q (numbers_at puts (i, v)) || list_any q (numbers_at more (i, v)))) ≡ true
among keys index puts more rows ws cs i m v q finds lists lists_more lt is (inl had) =
    or_left (list_any q (numbers_at index (i, v))) (list_any q (numbers_at puts (i, v)) || list_any q (numbers_at more (i, v)))
    (passes index (i, v) m q (found_row keys index rows i m v (row_at rows m) finds lt refl had) is)
among keys index puts more rows ws cs i m v q finds lists lists_more lt is (inr (inl put)) =
    or_right (list_any q (numbers_at index (i, v))) (list_any q (numbers_at puts (i, v)) || list_any q (numbers_at more (i, v)))
    (or_left (list_any q (numbers_at puts (i, v))) (list_any q (numbers_at more (i, v))) (passes puts (i, v) m q (listed_put keys puts ws i m v lists lt put) is))
among keys index puts more rows ws cs i m v q finds lists lists_more lt is (inr (inr put)) =
    or_right (list_any q (numbers_at index (i, v))) (list_any q (numbers_at puts (i, v)) || list_any q (numbers_at more (i, v)))
    (or_right (list_any q (numbers_at puts (i, v))) (list_any q (numbers_at more (i, v))) (passes more (i, v) m q (listed_put keys more cs i m v lists_more lt put) is))

two_origins : (key : List ℕ) (v : List Value) (rows : Table) (ws cs : List Change) (m : ℕ)
    → (some_has_key key v (row_at (apply rows ws) m) ≡ true) ⊎ (puts_value key v m cs ≡ true)
    → (some_has_key key v (row_at rows m) ≡ true) ⊎ ((puts_value key v m ws ≡ true) ⊎ (puts_value key v m cs ≡ true))
two_origins key v rows ws cs m (inr put) = inr (inr put)
two_origins key v rows ws cs m (inl had) = earlier (apply_origin key v rows ws m had) where
  earlier : (some_has_key key v (row_at rows m) ≡ true) ⊎ (puts_value key v m ws ≡ true)
      → (some_has_key key v (row_at rows m) ≡ true) ⊎ ((puts_value key v m ws ≡ true) ⊎ (puts_value key v m cs ≡ true))
  earlier (inl h) = inl h
  earlier (inr p) = inr (inl p)

pub other_value : (keys : List (List ℕ)) (index puts more : KeyIndex) (rows : Table) (ws cs : List Change) (i n : ℕ) (v : List Value)
    → Finds keys index rows → Lists keys puts ws → Lists keys more cs → i < length keys → rises_above 0 (apply (apply rows ws) cs) ≡ true
    → (list_any (λ m. not (m == n) && some_has_key (columns_of keys i) v (row_at (apply (apply rows ws) cs) m)) (numbers_at index (i, v))
    || (list_any (λ m. not (m == n) && some_has_key (columns_of keys i) v (row_at (apply (apply rows ws) cs) m)) (numbers_at puts (i, v))
    || list_any (λ m. not (m == n) && some_has_key (columns_of keys i) v (row_at (apply (apply rows ws) cs) m)) (numbers_at more (i, v))))
    ≡ has_other (apply (apply rows ws) cs) (columns_of keys i) n v
other_value keys index puts more rows ws cs i n v finds lists lists_more lt up =
    let key = columns_of keys i in
    let table = apply (apply rows ws) cs in
    let found = found_other table key n v in
    same_test (found (numbers_at index (i, v)) || (found (numbers_at puts (i, v)) || found (numbers_at more (i, v)))) (has_other table key n v)
    (λ e. other_there table key n i v index puts more (or_cases (found (numbers_at index (i, v))) (found (numbers_at puts (i, v)) || found (numbers_at more (i, v))) e))
    (λ e. let o = other_row 0 table key n v up e in
    among keys index puts more rows ws cs i o.0 v (λ m. not (m == n) && some_has_key key v (row_at table m)) finds lists lists_more lt
    (and_from (not (o.0 == n)) (some_has_key key v (row_at table o.0)) o.1 o.2)
    (two_origins key v rows ws cs o.0 (apply_origin key v (apply rows ws) cs o.0 o.2)))
