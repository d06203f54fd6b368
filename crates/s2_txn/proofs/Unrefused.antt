-- What it says of the unique keys that a write isn't refused.
use Rattle.std.proofs.Common.{◌≡◌, ℕ, zero, suc, ◌<◌, Bool, true, false, not, ◌&&◌, ◌||◌, cond, ◌==◌, List, [], ◌∷◌, ◌++◌, map, Option, Some, None, is_some, refl, sym, ap, subst, ◌∙◌, ◌⊎◌, inl, inr, ⊎_elim, arith}
use Rattle.std.specs.Prelude.{slice_get}
use Rattle.std.specs.Option.{option_map, option_or}
use Rattle.std.specs.List.{list_any, find}
use Rattle.std.proofs.lemmas.List.Folds.{list_any-append}
use Rattle.std.proofs.lemmas.List.Sums.{fold-append}
use Rattle.std.proofs.lemmas.Bool.{false≢true, both_ways, ltb-true, and_parts, and_from, eqb-true, eq-eqb, ne_eqb, or_cases, or_left, or_right, not_from_false, cases_eq}
use Rattle.s2_value.specs.declared.values.Value.{Value}
use Rattle.s2_value.specs.Order.{row_eq, same_row}
use Rattle.s2_value.specs.Rows.{key_of}
use Rattle.s2_model.specs.declared.entries.Change.{Change}
use Rattle.s2_model.specs.declared.entries.Change.TheVariants.{Put, Drop}
use Rattle.s2_model.specs.declared.replies.Refusal.{Refusal}
use Rattle.s2_model.specs.Table.{Table, RowOf, row_at, apply, apply_change, touches, number_of}
use Rattle.s2_model.specs.History.{History, state, pending, is_session}
use Rattle.s2_model.specs.Held.{has_key, some_has_key, put_has_key, has_value, holds, holds_value, sessions}
use Rattle.s2_model.specs.Verdict.{first_some, first_from, locked_value_at, locked_value, has_other, duplicate_at, duplicate}
use Rattle.s2_model.specs.Fits.{rise, rise_from}
use Rattle.s2_model.proofs.Tables.{row_at-apply, row_at_untouched}
use Rattle.s2_model.proofs.Holders.{some_session}
use Rattle.s2_state.specs.Slots.{put_by, last_from, last_of}
use Rattle.s2_state.specs.Keys.{AreDistinct, IsKeyKept}
use Rattle.s2_state.specs.Takes.{IsFreeKey}
use Rattle.s2_state.proofs.SlotSteps.{change_or, row_after_last, last_touches, last_from_is}
use Rattle.s2_state.proofs.KeySteps.{own_key}

-- a change among others

abbrev pub In : Change → List Change → Type 0
In c [] = ⊥
In c (d ∷ cs) = (c ≡ d) ⊎ In c cs

pub record Found (test : Change → Bool) (cs : List Change) : Type 0 where
  pub change : Change
  pub among : In change cs
  pub passes : test change ≡ true

any_in : (test : Change → Bool) (cs : List Change) → list_any test cs ≡ true → Found test cs
any_in test [] e = absurd (false≢true e)
any_in test (c ∷ cs) e =
    ⊎_elim (λ here. record { change = c; among = inl refl; passes = here })
    (λ later. more (any_in test cs later)) (or_cases _ _ e)
  where
    more : Found test cs → Found test (c ∷ cs)
    more f = record { change = f.change; among = inr f.among; passes = f.passes }

pub first_none : (a b : Option Refusal) → option_or a b ≡ None → (a ≡ None) × (b ≡ None)
first_none None b e = (refl, e)
first_none (Some x) b e = absurd (cc)

none_in : (f : Change → Option Refusal) (cs : List Change) (c : Change) → first_some f cs ≡ None → In c cs → f c ≡ None
none_in f [] c e i = absurd i
none_in f (d ∷ cs) c e i =
    let both = first_none (f d) (first_some f cs) e in
    ⊎_elim (λ same. ap f same ∙ both.0) (λ later. none_in f cs c both.1 later) i

in_touches : (cs : List Change) (c : Change) → In c cs → touches cs (number_of c) ≡ true
in_touches [] c i = absurd i
in_touches (d ∷ cs) c i =
    ⊎_elim (λ same. or_left _ _ (eq-eqb (number_of d) (number_of c) (ap number_of (sym same))))
    (λ later. or_right (number_of d == number_of c) _ (in_touches cs c later)) i

pub rise_above : (m : ℕ) (cs : List Change) (n : ℕ) → rise_from m (map number_of cs) ≡ true → touches cs n ≡ true → m < n
rise_above m [] n up t = absurd (false≢true t)
rise_above m (c ∷ cs) n up t =
    let both = and_parts _ _ up in
    let lt : m < number_of c = ltb-true m (number_of c) both.0 in
    ⊎_elim (λ here. omega (arith, eqb-true (number_of c) n here))
    (λ later. omega (arith, rise_above (number_of c) cs n both.1 later)) (or_cases _ _ t)

pub rise_later : (c : Change) (cs : List Change) → rise (map number_of (c ∷ cs)) ≡ true → rise (map number_of cs) ≡ true
rise_later c [] up = refl
rise_later c (d ∷ cs) up = (and_parts _ _ up).1

-- where the numbers rise each change is the last of its row
in_last : (cs : List Change) (c : Change) → rise (map number_of cs) ≡ true → In c cs → last_of cs (number_of c) ≡ Some (put_by c)
in_last [] c up i = absurd i
in_last (d ∷ cs) c up i =
    ⊎_elim
    (λ same. here same (touches cs (number_of c)) refl)
    (λ later.
    last_from_is (cond (number_of d == number_of c) (Some (put_by d)) None) cs (number_of c)
    ∙ ap (λ b. cond b (last_of cs (number_of c)) (cond (number_of d == number_of c) (Some (put_by d)) None)) (in_touches cs c later)
    ∙ in_last cs c (rise_later d cs up) later) i
  where
    here : c ≡ d → (b : Bool) → touches cs (number_of c) ≡ b → last_from (cond (number_of d == number_of c) (Some (put_by d)) None) cs (number_of c) ≡ Some (put_by c)
    here same true t =
        let number : number_of c ≡ number_of d = ap number_of same in
        absurd (omega (arith, rise_above (number_of d) cs (number_of c) up t))
    here same false t =
        last_from_is (cond (number_of d == number_of c) (Some (put_by d)) None) cs (number_of c)
        ∙ ap (λ b. cond b (last_of cs (number_of c)) (cond (number_of d == number_of c) (Some (put_by d)) None)) t
        ∙ ap (λ b. cond b (Some (put_by d)) None) (eq-eqb (number_of d) (number_of c) (ap number_of (sym same)))
        ∙ ap (λ e. Some (put_by e)) (sym same)

-- the put that is the last change of its row is among the changes
last_in : (cs : List Change) (n : ℕ) (x : RowOf) → last_of cs n ≡ Some (Some x) → In (Put n x) cs
last_in [] n x e = absurd (cc)
last_in (c ∷ cs) n x e = go c (number_of c == n) refl (λ f. last_in cs n x f) e
  where
    at : (c : Change) → number_of c ≡ n → put_by c ≡ Some x → Put n x ≡ c
    at (Put m y) e f = let same : y ≡ x = cc in cc
    at (Drop m) e f = absurd (cc)

    by : (c : Change) (t : Bool) (o : Option (Option RowOf)) → number_of c ≡ n → (o ≡ Some (Some x) → In (Put n x) cs) → cond t o (Some (put_by c)) ≡ Some (Some x) → In (Put n x) (c ∷ cs)
    by c true o at_n ih e = inr (ih e)
    by c false o at_n ih e = inl (at c at_n (let same : put_by c ≡ Some x = cc in same))

    go : (c : Change) (b : Bool) → (number_of c == n) ≡ b → (last_of cs n ≡ Some (Some x) → In (Put n x) cs)
        → last_from (cond b (Some (put_by c)) None) cs n ≡ Some (Some x) → In (Put n x) (c ∷ cs)
    go c true p ih e = by c (touches cs n) (last_of cs n) (eqb-true (number_of c) n p) ih (sym (last_from_is (Some (put_by c)) cs n) ∙ e)
    go c false p ih e = inr (ih e)

-- a key that isn't refused

from_none : {X : Type 0} (f : ℕ → X → Option Refusal) (n : ℕ) (xs : List X) (i : ℕ) (x : X) → first_from n f xs ≡ None → slice_get xs i ≡ Some x → (m : ℕ) × (f m x ≡ None)
from_none f n [] i x e at = absurd (cc)
from_none {X} f n (y ∷ xs) i x e at =
    let both = first_none (f n y) (first_from (suc n) f xs) e in
    go i at both.0 (λ j a. from_none f (suc n) xs j x both.1 a)
  where
    go : (i : ℕ) → slice_get (y ∷ xs) i ≡ Some x → f n y ≡ None → ((j : ℕ) → slice_get xs j ≡ Some x → (m : ℕ) × (f m x ≡ None)) → (m : ℕ) × (f m x ≡ None)
    go zero a none later = let same : y ≡ x = cc in (n, ap (f n) (sym same) ∙ none)
    go (suc j) a none later = later j a

pub find_none : (p : ℕ → Bool) (xs : List ℕ) → find p xs ≡ None → list_any p xs ≡ false
find_none p [] e = refl
find_none p (x ∷ xs) e = go (p x) (λ f. find_none p xs f) e
  where
    go : (b : Bool) → (find p xs ≡ None → list_any p xs ≡ false) → cond b (Some x) (find p xs) ≡ None → (b || list_any p xs) ≡ false
    go true ih f = absurd (cc)
    go false ih f = ih f

pub map_none : (f : ℕ → Refusal) (o : Option ℕ) → option_map f o ≡ None → o ≡ None
map_none f None e = refl
map_none f (Some x) e = absurd (cc)

-- who has a value has a row
value_row : (key : List ℕ) (rows : Table) (cs : List Change) (v : List Value) → has_value key rows cs v ≡ true → (n : ℕ) × (touches cs n ≡ true)
value_row key rows cs v e = let f = any_in _ cs e in (number_of f.change, in_touches cs f.change f.among)

-- no other row has the value
alone_at : (T : Table) (key : List ℕ) (n m : ℕ) (v : List Value) (y : RowOf) → has_other T key n v ≡ false → row_at T m ≡ Some y → row_eq (key_of key y) v ≡ true → m ≡ n
alone_at T key n m v y none at same = ⊎_elim (λ e. e) (λ other. absurd (both_ways _ none (there T other at))) (cases_eq m n)
  where
    there : (T : Table) → (m ≡ n → ⊥) → row_at T m ≡ Some y → has_other T key n v ≡ true
    there [] other e = absurd (cc)
    there (p ∷ T) other e = go (p.0 == m) refl e (λ f. there T other f)
      where
        go : (b : Bool) → (p.0 == m) ≡ b → cond b (Some p.1) (row_at T m) ≡ Some y → (row_at T m ≡ Some y → has_other T key n v ≡ true)
            → ((not (p.0 == n) && row_eq (key_of key p.1) v) || has_other T key n v) ≡ true
        go true q f ih =
            let value : p.1 ≡ y = cc in
            or_left _ _ (and_from _ _ (not_from_false _ (ne_eqb p.0 n (λ g. other (sym (eqb-true p.0 m q) ∙ g)))) (ap (λ z. row_eq (key_of key z) v) value ∙ same))
        go false q f ih = or_right _ _ (ih f)

-- what the absence of LockedValue and of Duplicate says of one key
pub record KeyUnrefused (H : History) (k : ℕ) (cs : List Change) (key : List ℕ) : Type 0 where
  pub values : (n : ℕ) (x : RowOf) → In (Put n x) cs → find (λ j. not (j == k) && holds_value H j key (key_of key x)) sessions ≡ None
  pub rows : (n : ℕ) (x : RowOf) → In (Put n x) cs → has_other (apply (apply (state H) (pending H k)) cs) key n (key_of key x) ≡ false

other_false : (b : Bool) (r : Refusal) → cond b (Some r) None ≡ None → b ≡ false
other_false true r e = absurd (cc)
other_false false r e = refl

pub key_unrefused : (H : History) (k : ℕ) (cs : List Change) (keys : List (List ℕ)) → locked_value H k keys cs ≡ None
    → duplicate (apply (apply (state H) (pending H k)) cs) keys cs ≡ None → (i : ℕ) (key : List ℕ) → slice_get keys i ≡ Some key → KeyUnrefused H k cs key
key_unrefused H k cs keys a b i key at =
    let locked = from_none (λ m key. first_some (locked_value_at H k m key) cs) 1 keys i key a at in
    let twice = from_none (λ m key. first_some (duplicate_at (apply (apply (state H) (pending H k)) cs) m key) cs) 1 keys i key b at in
    record {
      values = λ n x among. map_none _ _ (none_in (locked_value_at H k locked.0 key) cs (Put n x) locked.1 among);
      rows = λ n x among. other_false _ _ (none_in (duplicate_at (apply (apply (state H) (pending H k)) cs) twice.0 key) cs (Put n x) twice.1 among);
    }

-- so the values are free

pub key_free : (H : History) (k : ℕ) (cs : List Change) (key : List ℕ) → IsKeyKept key (state H) (pending H) → rise (map number_of cs) ≡ true
    → ((j n : ℕ) → holds H j n ≡ true → is_session j ≡ true) → ((j n : ℕ) → holds H j n ≡ true → touches cs n ≡ true → j ≡ k)
    → KeyUnrefused H k cs key → IsFreeKey H k cs key
key_free H k cs key kept up sessions_hold alone u = record { free = free; distinct = distinct; claimed = claimed }
  where
    after : Table
    after = apply (apply (state H) (pending H k)) cs

    whole : apply (state H) (pending H k ++ cs) ≡ after
    whole = fold-append apply_change (state H) (pending H k) cs

    row_by : (n : ℕ) → row_at after n ≡ change_or (last_of cs n) (row_at (apply (state H) (pending H k)) n)
    row_by n = row_at-apply (apply (state H) (pending H k)) cs n ∙ row_after_last _ cs n

    put_there : (n : ℕ) (x : RowOf) → touches cs n ≡ true → row_at after n ≡ Some x → In (Put n x) cs
    put_there n x t e = last_in cs n x (go (last_of cs n) (last_touches cs n ∙ t) (sym (row_by n) ∙ e))
      where
        go : (o : Option (Option RowOf)) → is_some o ≡ true → change_or o (row_at (apply (state H) (pending H k)) n) ≡ Some x → o ≡ Some (Some x)
        go None s f = absurd (false≢true s)
        go (Some y) s f = ap Some f

    turned : (x y : RowOf) → has_key key (key_of key x) y ≡ true → has_key key (key_of key y) x ≡ true
    turned x y e = subst (λ v. has_key key v x ≡ true) (sym (same_row (key_of key y) (key_of key x) e)) (own_key key x)

    distinct_after : AreDistinct key after
    distinct_after m n x y e f same = by (touches cs m) refl (touches cs n) refl
      where
        by : (a : Bool) → touches cs m ≡ a → (b : Bool) → touches cs n ≡ b → m ≡ n
        by true p b q = sym (alone_at after key m n (key_of key x) y (u.rows m x (put_there m x p e)) f same)
        by false p true q = alone_at after key n m (key_of key y) x (u.rows n y (put_there n y q f)) e (turned x y same)
        by false p false q =
            kept.views k m n x y (sym (row_at_untouched (apply (state H) (pending H k)) cs m p) ∙ e)
            (sym (row_at_untouched (apply (state H) (pending H k)) cs n q) ∙ f) same

    distinct : AreDistinct key (apply (state H) (pending H k ++ cs))
    distinct = subst (AreDistinct key) (sym whole) distinct_after

    committed : (o : Option RowOf) (v : List Value) → some_has_key key v o ≡ true → (y : RowOf) × ((o ≡ Some y) × (has_key key v y ≡ true))
    committed None v e = absurd (false≢true e)
    committed (Some y) v e = (y, (refl, e))

    put_of : (c : Change) (v : List Value) → put_has_key key v c ≡ true → (m : ℕ) × ((z : RowOf) × ((c ≡ Put m z) × (has_key key v z ≡ true)))
    put_of (Put m z) v e = (m, (z, (refl, e)))
    put_of (Drop m) v e = absurd (false≢true e)

    free : (j : ℕ) (v : List Value) → has_value key (state H) cs v ≡ true → holds_value H j key v ≡ true → j ≡ k
    free j v e held =
        let f = any_in _ cs e in
        ⊎_elim
        (λ old.
        let c = committed (row_at (state H) (number_of f.change)) v old in
        let same : key_of key c.0 ≡ v = same_row (key_of key c.0) v c.1.1 in
        alone j (number_of f.change)
        (kept.claimed j (number_of f.change) c.0 c.1.0 (ap (has_value key (state H) (pending H j)) same ∙ held))
        (in_touches cs f.change f.among))
        (λ new.
        let c = put_of f.change v new in
        let same : key_of key c.1.0 ≡ v = same_row (key_of key c.1.0) v c.1.1.1 in
        holder j (key_of key c.1.0) (u.values c.0 c.1.0 (subst (λ d. In d cs) c.1.1.0 f.among)) (ap (holds_value H j key) same ∙ held))
        (or_cases _ _ f.passes)
      where
        holder : (j : ℕ) (v : List Value) → find (λ i. not (i == k) && holds_value H i key v) sessions ≡ None → holds_value H j key v ≡ true → j ≡ k
        holder j v none held =
            ⊎_elim (λ e. e)
            (λ other. absurd (both_ways _ (find_none _ sessions none)
            (some_session (λ i. not (i == k) && holds_value H i key v) j
            (let r = value_row key (state H) (pending H j) v held in sessions_hold j r.0 r.1)
            (and_from _ _ (not_from_false _ (ne_eqb j k other)) held))))
            (cases_eq j k)

    claimed : (n : ℕ) (x : RowOf) → row_at (state H) n ≡ Some x → has_value key (state H) cs (key_of key x) ≡ true → touches (pending H k ++ cs) n ≡ true
    claimed n x e has =
        let f = any_in _ cs has in
        ⊎_elim
        (λ old.
        let c = committed (row_at (state H) (number_of f.change)) (key_of key x) old in
        let same : n ≡ number_of f.change = kept.content n (number_of f.change) x c.0 e c.1.0 c.1.1 in
        touched n (ap (touches cs) same ∙ in_touches cs f.change f.among))
        (λ new.
        let c = put_of f.change (key_of key x) new in
        let among : In (Put c.0 c.1.0) cs = subst (λ d. In d cs) c.1.1.0 f.among in
        by c.0 c.1.0 among c.1.1.1 (touches (pending H k ++ cs) n) refl)
        (or_cases _ _ f.passes)
      where
        touched : (m : ℕ) → touches cs m ≡ true → touches (pending H k ++ cs) m ≡ true
        touched m t = list_any-append (λ c. number_of c == m) (pending H k) cs ∙ or_right _ _ t

        by : (m : ℕ) (z : RowOf) → In (Put m z) cs → has_key key (key_of key x) z ≡ true → (b : Bool) → touches (pending H k ++ cs) n ≡ b → b ≡ true
        by m z among same true t = refl
        by m z among same false t =
            let there : row_at after m ≡ Some z = row_by m ∙ ap (λ o. change_or o (row_at (apply (state H) (pending H k)) m)) (in_last cs (Put m z) up among) in
            let here : row_at after n ≡ Some x = sym (ap (λ T. row_at T n) whole) ∙ row_at_untouched (state H) (pending H k ++ cs) n t ∙ e in
            let equal : n ≡ m = distinct_after n m x z here there same in
            sym t ∙ touched n (ap (touches cs) equal ∙ in_touches cs (Put m z) among)
