-- The rows and values of a write that fits are free for its actor.
use Rattle.std.proofs.Common.{◌≡◌, ℕ, zero, suc, ◌+◌, ◌<◌, ◌≤◌, Bool, true, false, cond, ◌==◌, List, [], ◌∷◌, ◌++◌, map, length, Option, Some, None, All, refl, sym, ap, subst, ◌∙◌, ◌⊎◌, ⊎_elim, arith}
use Rattle.std.specs.Prelude.{slice_get}
use Rattle.std.proofs.lemmas.List.Folds.{list_any-append}
use Rattle.std.proofs.lemmas.List.Elements.{All-nil, All-cons, All-append}
use Rattle.std.proofs.lemmas.Bool.{false≢true, and_parts, leb-true, or_left, or_right, eq-eqb, ne_eqb, cases_eq}
use Rattle.s2_value.specs.declared.values.Value.{Value}
use Rattle.s2_value.specs.declared.schemas.Schema.{Schema}
use Rattle.s2_value.specs.Columns.{is_key, is_between, are_below, is_schema}
use Rattle.s2_value.specs.Rows.{key_of}
use Rattle.s2_model.specs.declared.entries.Change.{Change}
use Rattle.s2_model.specs.declared.entries.What.TheVariants.{Write}
use Rattle.s2_model.specs.Table.{Table, RowOf, row_at, touches, number_of}
use Rattle.s2_model.specs.History.{History, ◌▷◌, state, pending}
use Rattle.s2_model.specs.Held.{holds}
use Rattle.s2_model.specs.Fits.{WriteFits}
use Rattle.s2_model.proofs.Kept.{entry_of}
use Rattle.s2_uniquelock.specs.Locks.{Locks, row_holder, value_keeper, names_row, names_value, IsFreeFor}
use Rattle.s2_state.specs.declared.states.State.{State}
use Rattle.s2_state.specs.States.{history_of}
use Rattle.s2_state.specs.Slots.{put_by}
use Rattle.s2_state.specs.Takes.{takes_key, IsFreeKey, AreFreeKeys}
use Rattle.s2_state.specs.Good.{Good, is_holder, holds_key}
use Rattle.s2_state.proofs.Over.{rows_apart}
use Rattle.s2_txn.specs.Items.{items_from, row_items, change_items, all_items}
use Rattle.s2_txn.proofs.Items.{names_numbers, names_taken}

-- nobody else holds a row that the write changes
pub alone : (s : State) (k : ℕ) (cs : List Change) → Good s → WriteFits s.schema (history_of s) k cs → (j n : ℕ) → holds (history_of s) j n ≡ true → touches cs n ≡ true → j ≡ k
alone s k cs g fit j n held t =
    ⊎_elim (λ e. e)
    (λ other. rows_apart s.schema s.options (history_of s ▷ entry_of k (Write cs)) (g.log.fits, fit) j k n (theirs (j == k) (ne_eqb j k other)) (own (k == k) (eq-eqb k k refl)))
    (cases_eq j k)
  where
    theirs : (b : Bool) → b ≡ false → touches (cond b (pending (history_of s) j ++ cs) (pending (history_of s) j)) n ≡ true
    theirs true e = absurd (cc)
    theirs false e = held

    own : (b : Bool) → b ≡ true → touches (cond b (pending (history_of s) k ++ cs) (pending (history_of s) k)) n ≡ true
    own true e = list_any-append (λ c. number_of c == n) (pending (history_of s) k) cs ∙ or_right _ _ t
    own false e = absurd (cc)

holder_is : (j : ℕ) (o p : Option ℕ) → o ≡ p → p ≡ Some j → is_holder j o ≡ true
holder_is j o p same e = ap (is_holder j) (same ∙ e) ∙ eq-eqb j j refl

pub rows_free : (s : State) (L : Locks) (k : ℕ) (cs : List Change) (ids : List ℕ) → Good s → WriteFits s.schema (history_of s) k cs
    → ((n : ℕ) → row_holder L n ≡ row_holder s.locks n) → ids ≡ map number_of cs → (n : ℕ) → names_row ids n ≡ true → IsFreeFor k (row_holder L n)
rows_free s L k cs ids g fit same are n named j held =
    alone s k cs g fit j n
    (sym (g.locks.rows j n) ∙ holder_is j (row_holder s.locks n) (row_holder L n) (sym (same n)) held)
    (sym (names_numbers cs n) ∙ ap (λ i. names_row i n) (sym are) ∙ named)

pub values_free : (s : State) (L : Locks) (k : ℕ) (cs : List Change) (values : List (ℕ × List Value)) → Good s → AreFreeKeys s.schema (history_of s) k cs
    → ((i : ℕ) (v : List Value) → value_keeper L i v ≡ value_keeper s.locks i v) → values ≡ all_items s.schema.uniques (state (history_of s)) cs
    → (i : ℕ) (v : List Value) → names_value values i v ≡ true → IsFreeFor k (value_keeper L i v)
values_free s L k cs values g free same are i v named j held = go (slice_get s.schema.uniques i) refl taken holding
  where
    taken : takes_key (history_of s) cs (slice_get s.schema.uniques i) v ≡ true
    taken = sym (names_taken (history_of s) s.schema.uniques cs i v) ∙ ap (λ xs. names_value xs i v) (sym are) ∙ named

    holding : holds_key (history_of s) j (slice_get s.schema.uniques i) v ≡ true
    holding = sym (g.locks.values j i v) ∙ holder_is j (value_keeper s.locks i v) (value_keeper L i v) (sym (same i v)) held

    go : (o : Option (List ℕ)) → slice_get s.schema.uniques i ≡ o → takes_key (history_of s) cs o v ≡ true → holds_key (history_of s) j o v ≡ true → j ≡ k
    go None e t h = absurd (false≢true t)
    go (Some key) e t h = (free i key e).free j v t h

-- the numbers of the keys

items_below : (m i : ℕ) (keys : List (List ℕ)) (row : RowOf) → i + length keys ≤ m → All (λ p. p.0 < m) (items_from i keys row)
items_below m i [] row le = All-nil (λ p. p.0 < m)
items_below m i (key ∷ keys) row le =
    let here : i < m = omega (arith, le) in
    let later : suc i + length keys ≤ m = omega (arith, le) in
    All-cons (λ p. p.0 < m) (i, key_of key row) (items_from (suc i) keys row) here (items_below m (suc i) keys row later)

row_below : (m : ℕ) (keys : List (List ℕ)) (o : Option RowOf) → length keys ≤ m → All (λ p. p.0 < m) (row_items keys o)
row_below m keys None le = All-nil (λ p. p.0 < m)
row_below m keys (Some row) le = items_below m 0 keys row (omega (arith, le))

all_below : (m : ℕ) (keys : List (List ℕ)) (rows : Table) (cs : List Change) → length keys ≤ m → All (λ p. p.0 < m) (all_items keys rows cs)
all_below m keys rows [] le = All-nil (λ p. p.0 < m)
all_below m keys rows (c ∷ cs) le =
    All-append (λ p. p.0 < m) (change_items keys rows c) (all_items keys rows cs)
    (All-append (λ p. p.0 < m) (row_items keys (row_at rows (number_of c))) (row_items keys (put_by c)) (row_below m keys (row_at rows (number_of c)) le) (row_below m keys (put_by c) le))
    (all_below m keys rows cs le)

few_keys : (schema : Schema) → length schema.uniques ≤ 4
few_keys schema = leb-true (length schema.uniques) 4 (and_parts (is_between 1 16 (length schema.cols)) _ (and_parts _ _ (and_parts _ _ (and_parts _ _ (and_parts _ _ (and_parts _ _ schema.within).0).0).0).0).0).1

pub numbers_below : (schema : Schema) (rows : Table) (cs : List Change) (values : List (ℕ × List Value)) → values ≡ all_items schema.uniques rows cs → All (λ p. p.0 < 4) values
numbers_below schema rows cs values are = subst (All (λ p. p.0 < 4)) (sym are) (all_below 4 schema.uniques rows cs (few_keys schema))
