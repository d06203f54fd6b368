-- What a write does where its parts are handed over.
use Rattle.std.proofs.Common.{◌≡◌, ℕ, Bool, true, cond, List, map, Option, Some, refl, sym, ap, ap₂, subst, ◌∙◌}
use Rattle.std.specs.Prelude.{slice_get}
use Rattle.s2_value.specs.declared.values.Value.{Value}
use Rattle.s2_model.specs.declared.entries.Change.{Change}
use Rattle.s2_model.specs.declared.entries.What.TheVariants.{Write}
use Rattle.s2_model.specs.Table.{RowOf, number_of, touches}
use Rattle.s2_model.specs.History.{History, ◌▷◌, state}
use Rattle.s2_model.specs.Fits.{rise}
use Rattle.s2_model.proofs.Kept.{entry_of}
use Rattle.s2_rowstore.specs.Lines.{for_row}
use Rattle.s2_rowstore.specs.Store.{Store, chain, slot, slot_put}
use Rattle.s2_uniquelock.specs.Locks.{Locks, row_holder, value_keeper, names_row, names_value}
use Rattle.s2_state.specs.declared.states.State.{State}
use Rattle.s2_state.specs.States.{history_of, SameParts}
use Rattle.s2_state.specs.Slots.{last_of}
use Rattle.s2_state.specs.Takes.{takes_key}
use Rattle.s2_txn.specs.Entries.{Writes}
use Rattle.s2_txn.specs.Items.{slot_of, all_items}
use Rattle.s2_txn.specs.Looks.{IsLeft}
use Rattle.s2_txn.proofs.Items.{for_slots, names_numbers, names_taken}

-- the open writes and the holders once the parts are handed over
pub record HandsOver (k : ℕ) (ids : List ℕ) (values : List (ℕ × List Value)) (slots : List (ℕ × Option RowOf)) (S S' : Store) (L L' : Locks) : Type 0 where
  pub schema_is : S'.schema ≡ S.schema
  pub chains : (n : ℕ) → chain S' n ≡ chain S n
  pub slots_are : (n : ℕ) → slot S' n ≡ slot_put k (for_row slots n) (slot S n)
  pub rows : (n : ℕ) → row_holder L' n ≡ cond (names_row ids n) (Some k) (row_holder L n)
  pub values_are : (i : ℕ) (v : List Value) → value_keeper L' i v ≡ cond (names_value values i v) (Some k) (value_keeper L i v)

-- the parts are those of the changes
pub record ArePartsOf (s : State) (cs : List Change) (ids : List ℕ) (values : List (ℕ × List Value)) (slots : List (ℕ × Option RowOf)) : Type 0 where
  pub ids_are : ids ≡ map number_of cs
  pub values_are : values ≡ all_items s.schema.uniques (state (history_of s)) cs
  pub slots_are : slots ≡ map slot_of cs

either : (b c : Bool) (k : ℕ) (o p : Option ℕ) → b ≡ c → o ≡ p → cond b (Some k) o ≡ cond c (Some k) p
either b c k o p e f = ap₂ (λ x y. cond x (Some k) y) e f

pub writes_done : (s r t : State) (S : Store) (L : Locks) (k : ℕ) (cs : List Change) (ids : List ℕ) (values : List (ℕ × List Value)) (slots : List (ℕ × Option RowOf))
    → rise (map number_of cs) ≡ true → IsLeft s r → ArePartsOf s cs ids values slots → HandsOver k ids values slots r.rows S r.locks L
    → t.schema ≡ r.schema → t.options ≡ r.options → t.horizon ≡ r.horizon → t.rows ≡ S → t.locks ≡ L → history_of t ≡ history_of r ▷ entry_of k (Write cs)
    → Writes k cs s t
writes_done s r t S L k cs ids values slots up left are over schema options horizon rows locks history = record {
  schema = schema ∙ left.looks.schema;
  options = options ∙ left.looks.options;
  horizon = horizon ∙ left.looks.horizon;
  history = history ∙ ap (λ H. H ▷ entry_of k (Write cs)) left.history;
  chains = λ n. ap (λ s. chain s n) rows ∙ over.chains n ∙ left.looks.chains n;
  takes = record {
    schema_is = ap (λ s. s.schema) rows ∙ over.schema_is ∙ left.looks.store;
    slots = λ n. ap (λ s. slot s n) rows ∙ over.slots_are n
        ∙ ap₂ (slot_put k) (ap (λ xs. for_row xs n) are.slots_are ∙ for_slots cs n up) (left.looks.slots n);
    rows = λ n. ap (λ l. row_holder l n) locks ∙ over.rows n
        ∙ either (names_row ids n) (touches cs n) k _ _ (ap (λ xs. names_row xs n) are.ids_are ∙ names_numbers cs n) (left.looks.holders n);
    values = λ i v. ap (λ l. value_keeper l i v) locks ∙ over.values_are i v
        ∙ either (names_value values i v) (takes_key (history_of s) cs (slice_get s.schema.uniques i) v) k _ _
        (ap (λ xs. names_value xs i v) are.values_are ∙ names_taken (history_of s) s.schema.uniques cs i v) (left.looks.keepers i v);
  };
}
