-- What a write hands to the row store and to the lock table says what its changes say.
use Rattle.std.proofs.Common.{◌≡◌, ℕ, zero, suc, ◌+◌, ◌<◌, Bool, true, false, ◌&&◌, ◌||◌, cond, ◌==◌, List, [], ◌∷◌, ◌++◌, map, Option, Some, None, is_some, refl, sym, ap, ap₂, ◌∙◌, arith}
use Rattle.std.specs.Prelude.{slice_get, is_none}
use Rattle.std.specs.List.{list_all}
use Rattle.std.proofs.lemmas.List.Folds.{list_any-append}
use Rattle.std.proofs.lemmas.Bool.{true≢false, and_parts, and_from, eqb-true, eq-eqb, ne_eqb, false_from_ne_true}
use Rattle.s2_value.specs.declared.values.Value.{Value}
use Rattle.s2_value.specs.declared.schemas.Schema.{Schema}
use Rattle.s2_value.specs.Order.{row_eq}
use Rattle.s2_value.specs.Rows.{key_of}
use Rattle.s2_model.specs.declared.entries.Change.{Change}
use Rattle.s2_model.specs.declared.entries.Change.TheVariants.{Put, Drop}
use Rattle.s2_model.specs.Table.{Table, RowOf, row_at, touches, number_of}
use Rattle.s2_model.specs.History.{History, state}
use Rattle.s2_model.specs.Held.{some_has_key, put_has_key, has_value}
use Rattle.s2_model.specs.Fits.{rise, put_fits}
use Rattle.s2_rowstore.specs.Lines.{for_row, are_apart}
use Rattle.s2_rowstore.specs.Store.{changes_fit}
use Rattle.s2_uniquelock.specs.Locks.{names_row, names_value}
use Rattle.s2_state.specs.Slots.{put_by, last_from, last_of}
use Rattle.s2_state.specs.Takes.{takes_key}
use Rattle.s2_state.proofs.SlotSteps.{last_from_is, last_touches}
use Rattle.s2_txn.specs.Items.{slot_of, items_from, row_items, change_items, all_items}
use Rattle.s2_txn.proofs.Unrefused.{rise_above, rise_later}

-- the open writes

untouched_later : (c : Change) (cs : List Change) → rise (map number_of (c ∷ cs)) ≡ true → touches cs (number_of c) ≡ false
untouched_later c [] up = refl
untouched_later c (d ∷ cs) up = false_from_ne_true _ (λ t. absurd (omega (arith, rise_above (number_of c) (d ∷ cs) (number_of c) up t)))

pub for_slots : (cs : List Change) (n : ℕ) → rise (map number_of cs) ≡ true → for_row (map slot_of cs) n ≡ last_of cs n
for_slots [] n up = refl
for_slots (c ∷ cs) n up = go (number_of c == n) refl (for_slots cs n (rise_later c cs up))
  where
    go : (b : Bool) → (number_of c == n) ≡ b → for_row (map slot_of cs) n ≡ last_of cs n
        → cond b (Some (put_by c)) (for_row (map slot_of cs) n) ≡ last_from (cond b (Some (put_by c)) None) cs n
    go true e ih =
        sym (last_from_is (Some (put_by c)) cs n
        ∙ ap (λ t. cond t (last_of cs n) (Some (put_by c))) (ap (touches cs) (sym (eqb-true (number_of c) n e)) ∙ untouched_later c cs up))
    go false e ih = ih

pub apart_slots : (cs : List Change) → rise (map number_of cs) ≡ true → are_apart (map slot_of cs) ≡ true
apart_slots [] up = refl
apart_slots (c ∷ cs) up =
    let later : rise (map number_of cs) ≡ true = rise_later c cs up in
    and_from _ _ (none (for_row (map slot_of cs) (number_of c)) (ap is_some (for_slots cs (number_of c) later) ∙ last_touches cs (number_of c) ∙ untouched_later c cs up))
    (apart_slots cs later)
  where
    none : (o : Option (Option RowOf)) → is_some o ≡ false → is_none o ≡ true
    none None e = refl
    none (Some x) e = absurd (true≢false e)

pub fit_slots : (schema : Schema) (cs : List Change) → list_all (put_fits schema) cs ≡ true → changes_fit schema (map slot_of cs) ≡ true
fit_slots schema [] all = refl
fit_slots schema (Put n x ∷ cs) all = let both = and_parts _ _ all in and_from _ _ both.0 (fit_slots schema cs both.1)
fit_slots schema (Drop n ∷ cs) all = fit_slots schema cs all

-- the rows

pub names_numbers : (cs : List Change) (n : ℕ) → names_row (map number_of cs) n ≡ touches cs n
names_numbers [] n = refl
names_numbers (c ∷ cs) n = ap (λ b. (number_of c == n) || b) (names_numbers cs n)

-- the values

unfoldable item_has : Option (List ℕ) → RowOf → List Value → Bool
item_has None row v = false
item_has (Some key) row v = row_eq (key_of key row) v

none_before : (i : ℕ) (keys : List (List ℕ)) (row : RowOf) (j : ℕ) (v : List Value) → j < i → names_value (items_from i keys row) j v ≡ false
none_before i [] row j v lt = refl
none_before i (key ∷ keys) row j v lt =
    ap₂ (λ a b. (a && row_eq (key_of key row) v) || b) (ne_eqb i j (λ e. omega arith)) (none_before (suc i) keys row j v (omega arith))

items_have : (i d : ℕ) (keys : List (List ℕ)) (row : RowOf) (j : ℕ) (v : List Value) → j ≡ i + d → names_value (items_from i keys row) j v ≡ item_has (slice_get keys d) row v
unfolding item_has
items_have i d [] row j v at = refl
items_have i zero (key ∷ keys) row j v at =
    ap₂ (λ a b. (a && row_eq (key_of key row) v) || b) (eq-eqb i j (omega arith)) (none_before (suc i) keys row j v (omega arith)) ∙ or_false (row_eq (key_of key row) v)
  where
    or_false : (b : Bool) → (b || false) ≡ b
    or_false true = refl
    or_false false = refl
items_have i (suc d) (key ∷ keys) row j v at =
    ap₂ (λ a b. (a && row_eq (key_of key row) v) || b) (ne_eqb i j (λ e. omega arith)) (items_have (suc i) d keys row j v (omega arith))

option_has : (keys : List (List ℕ)) (o : Option RowOf) (j : ℕ) (key : List ℕ) (v : List Value) → slice_get keys j ≡ Some key → names_value (row_items keys o) j v ≡ some_has_key key v o
unfolding item_has
option_has keys None j key v at = refl
option_has keys (Some row) j key v at = items_have 0 j keys row j v (omega arith) ∙ ap (λ o. item_has o row v) at

option_none : (keys : List (List ℕ)) (o : Option RowOf) (j : ℕ) (v : List Value) → slice_get keys j ≡ None → names_value (row_items keys o) j v ≡ false
unfolding item_has
option_none keys None j v at = refl
option_none keys (Some row) j v at = items_have 0 j keys row j v (omega arith) ∙ ap (λ o. item_has o row v) at

put_has : (key : List ℕ) (v : List Value) (c : Change) → some_has_key key v (put_by c) ≡ put_has_key key v c
put_has key v (Put n x) = refl
put_has key v (Drop n) = refl

names-append : (ps qs : List (ℕ × List Value)) (j : ℕ) (v : List Value) → names_value (ps ++ qs) j v ≡ (names_value ps j v || names_value qs j v)
names-append ps qs j v = list_any-append (λ p. (p.0 == j) && row_eq p.1 v) ps qs

change_has : (keys : List (List ℕ)) (rows : Table) (c : Change) (j : ℕ) (key : List ℕ) (v : List Value) → slice_get keys j ≡ Some key
    → names_value (change_items keys rows c) j v ≡ (some_has_key key v (row_at rows (number_of c)) || put_has_key key v c)
change_has keys rows c j key v at =
    names-append (row_items keys (row_at rows (number_of c))) (row_items keys (put_by c)) j v
    ∙ ap₂ (λ a b. a || b) (option_has keys (row_at rows (number_of c)) j key v at) (option_has keys (put_by c) j key v at ∙ put_has key v c)

change_none : (keys : List (List ℕ)) (rows : Table) (c : Change) (j : ℕ) (v : List Value) → slice_get keys j ≡ None → names_value (change_items keys rows c) j v ≡ false
change_none keys rows c j v at =
    names-append (row_items keys (row_at rows (number_of c))) (row_items keys (put_by c)) j v
    ∙ ap₂ (λ a b. a || b) (option_none keys (row_at rows (number_of c)) j v at) (option_none keys (put_by c) j v at)

all_have : (keys : List (List ℕ)) (rows : Table) (cs : List Change) (j : ℕ) (key : List ℕ) (v : List Value) → slice_get keys j ≡ Some key
    → names_value (all_items keys rows cs) j v ≡ has_value key rows cs v
all_have keys rows [] j key v at = refl
all_have keys rows (c ∷ cs) j key v at =
    names-append (change_items keys rows c) (all_items keys rows cs) j v
    ∙ ap₂ (λ a b. a || b) (change_has keys rows c j key v at) (all_have keys rows cs j key v at)

all_none : (keys : List (List ℕ)) (rows : Table) (cs : List Change) (j : ℕ) (v : List Value) → slice_get keys j ≡ None → names_value (all_items keys rows cs) j v ≡ false
all_none keys rows [] j v at = refl
all_none keys rows (c ∷ cs) j v at =
    names-append (change_items keys rows c) (all_items keys rows cs) j v
    ∙ ap₂ (λ a b. a || b) (change_none keys rows c j v at) (all_none keys rows cs j v at)

-- the values that a write hands over are those that it takes
pub names_taken : (H : History) (keys : List (List ℕ)) (cs : List Change) (j : ℕ) (v : List Value)
    → names_value (all_items keys (state H) cs) j v ≡ takes_key H cs (slice_get keys j) v
names_taken H keys cs j v = go (slice_get keys j) refl
  where
    go : (o : Option (List ℕ)) → slice_get keys j ≡ o → names_value (all_items keys (state H) cs) j v ≡ takes_key H cs o v
    go None e = all_none keys (state H) cs j v e
    go (Some key) e = all_have keys (state H) cs j key v e
