-- The rows that match are among those of a key that the predicate fixes.
use Rattle.std.proofs.Common.{◌≡◌, ℕ, ◌+◌, ◌<◌, ◌≤◌, Bool, true, false, ◌||◌, cond, ◌==◌, nat_lt, List, [], ◌∷◌, ◌++◌, filter, length, take, get_or, Option, Some, None, is_some, refl, sym, ap, ap₂, subst, ◌∙◌, arith}
use Rattle.std.specs.List.{list_any, list_all, find}
use Rattle.std.specs.Option.{option_map}
use Rattle.std.proofs.lemmas.List.{take_more}
use Rattle.std.proofs.lemmas.Bool.{eqb-true, and_parts, and_from, or_left, or_right}
use Rattle.s2_value.specs.declared.values.Value.{Value}
use Rattle.s2_value.specs.Order.{value_ties, same_value}
use Rattle.s2_value.specs.Rows.{key_of}
use Rattle.s2_model.specs.declared.predicates.Op.{Op}
use Rattle.s2_model.specs.declared.predicates.Op.TheVariants.{Eq}
use Rattle.s2_model.specs.Predicates.{Predicate, compared}
use Rattle.s2_model.specs.Rows.{value_at, matches}
use Rattle.s2_model.specs.Answer.{kept}
use Rattle.s2_model.specs.Table.{Table, RowOf, row_at, rises_above}
use Rattle.s2_model.specs.History.{view}
use Rattle.s2_model.proofs.Tables.{above_low}
use Rattle.s2_answer.proofs.FoundLemmas.{parts, rises-filter}
use Rattle.s2_rowstore.specs.declared.chain.Version.{Version}
use Rattle.s2_rowstore.specs.declared.chain.Slot.{Slot}
use Rattle.s2_rowstore.specs.Chains.{seen, is_visible, row_at as version_at}
use Rattle.s2_rowstore.specs.Keys.{row_has, slot_has, body_has}
use Rattle.s2_rowstore.specs.Lines.{for_row, names_row}
use Rattle.s2_rowstore.specs.Store.{chain, slot, has_key, places_of}
use Rattle.s2_rowstore.specs.Visible.{are_rising, numbers}
use Rattle.s2_state.specs.declared.states.State.{State}
use Rattle.s2_state.specs.States.{history_of}
use Rattle.s2_state.specs.Good.{Good}
use Rattle.s2_state.specs.Laws.{read_at}
use Rattle.s2_state.proofs.KeySteps.{own_key}
use Rattle.s2_state.proofs.Shown.{shows_rows, view_rises}
use Rattle.s2_state.proofs.Tables.{is_that_table}
use Rattle.s2_txn.specs.Planning.{FixesColumn, FixesColumns, HasMatching, kept_row, numbered_row, rows_among}

-- the row of a number among the rows of a table that match

row_kept : (pred : Predicate) (low : ℕ) (rows : Table) → rises_above low rows ≡ true → (n : ℕ) → row_at (filter (λ p. matches pred p.1) rows) n ≡ kept_row pred (row_at rows n)
row_kept pred low [] up n = refl
row_kept pred low (p ∷ rows) up n = go (p.0 == n) refl (matches pred p.1) refl (row_kept pred p.0 rows later n)
  where
    later : rises_above p.0 rows ≡ true
    later = (parts (nat_lt low p.0) (rises_above p.0 rows) up).1

    none : n ≤ p.0 → (o : Option RowOf) → row_at rows n ≡ o → o ≡ None
    none le None e = refl
    none le (Some x) e = absurd (omega (arith, above_low p.0 rows n later (ap is_some e)))

    go : (b : Bool) → (p.0 == n) ≡ b → (m : Bool) → matches pred p.1 ≡ m → row_at (filter (λ p. matches pred p.1) rows) n ≡ kept_row pred (row_at rows n)
        → row_at (cond m (p ∷ filter (λ p. matches pred p.1) rows) (filter (λ p. matches pred p.1) rows)) n ≡ kept_row pred (cond b (Some p.1) (row_at rows n))
    go true e true h ih =
        ap (λ b. cond b (Some p.1) (row_at (filter (λ p. matches pred p.1) rows) n)) e ∙ sym (ap (λ m. cond m (Some p.1) None) h)
    go true e false h ih =
        let at : p.0 ≡ n = eqb-true p.0 n e in
        ih ∙ ap (kept_row pred) (none (omega arith) (row_at rows n) refl) ∙ sym (ap (λ m. cond m (Some p.1) None) h)
    go false e true h ih = ap (λ b. cond b (Some p.1) (row_at (filter (λ p. matches pred p.1) rows) n)) e ∙ ih
    go false e false h ih = ih

-- rows by numbers

none_named : (b : Bool) → cond {A = Option RowOf} b None None ≡ None
none_named true = refl
none_named false = refl

for_among : (look : ℕ → Option RowOf) (ids : List ℕ) (n : ℕ) → for_row (rows_among look ids) n ≡ cond (names_row ids n) (look n) None
for_among look [] n = refl
for_among look (id ∷ ids) n = go (look id) refl (id == n) refl (for_among look ids n)
  where
    go : (o : Option RowOf) → look id ≡ o → (b : Bool) → (id == n) ≡ b → for_row (rows_among look ids) n ≡ cond (names_row ids n) (look n) None
        → for_row (numbered_row id o ++ rows_among look ids) n ≡ cond (b || names_row ids n) (look n) None
    go None f true e ih =
        let none : look n ≡ None = ap look (sym (eqb-true id n e)) ∙ f in
        ih ∙ ap (λ o. cond (names_row ids n) o None) none ∙ none_named (names_row ids n) ∙ sym none
    go None f false e ih = ih
    go (Some x) f true e ih =
        ap (λ b. cond b (Some x) (for_row (rows_among look ids) n)) e ∙ sym f ∙ ap look (eqb-true id n e)
    go (Some x) f false e ih = ap (λ b. cond b (Some x) (for_row (rows_among look ids) n)) e ∙ ih

above_among : (look : ℕ → Option RowOf) (low : ℕ) (ids : List ℕ) → list_all (nat_lt low) ids ≡ true → list_all (nat_lt low) (numbers (rows_among look ids)) ≡ true
above_among look low [] e = refl
above_among look low (id ∷ ids) e =
    let both = and_parts _ _ e in
    go (look id) both.0 (above_among look low ids both.1)
  where
    go : (o : Option RowOf) → nat_lt low id ≡ true → list_all (nat_lt low) (numbers (rows_among look ids)) ≡ true
        → list_all (nat_lt low) (numbers (numbered_row id o ++ rows_among look ids)) ≡ true
    go None lt ih = ih
    go (Some x) lt ih = and_from _ _ lt ih

rising_among : (look : ℕ → Option RowOf) (ids : List ℕ) → are_rising ids ≡ true → are_rising (numbers (rows_among look ids)) ≡ true
rising_among look [] e = refl
rising_among look (id ∷ ids) e =
    let both = and_parts _ _ e in
    go (look id) (above_among look id ids both.0) (rising_among look ids both.1)
  where
    go : (o : Option RowOf) → list_all (nat_lt id) (numbers (rows_among look ids)) ≡ true → are_rising (numbers (rows_among look ids)) ≡ true
        → are_rising (numbers (numbered_row id o ++ rows_among look ids)) ≡ true
    go None above ih = ih
    go (Some x) above ih = and_from _ _ above ih

-- a row that is seen has its key among those of the store

version_has : (r : ℕ) (places : List ℕ) (versions : List Version) (x : RowOf) → version_at r versions ≡ Some x → list_any (λ v. row_has places (key_of places x) v.row) versions ≡ true
version_has r places [] x e = absurd (cc)
version_has r places (v ∷ versions) x e = go (is_visible r v) (λ f. version_has r places versions x f) e
  where
    go : (b : Bool) → (version_at r versions ≡ Some x → list_any (λ v. row_has places (key_of places x) v.row) versions ≡ true)
        → option_map (λ v. v.row) (cond b (Some v) (find (is_visible r) versions)) ≡ Some x
        → (row_has places (key_of places x) v.row || list_any (λ v. row_has places (key_of places x) v.row) versions) ≡ true
    go true ih f =
        let same : v.row ≡ x = cc in
        or_left _ _ (ap (λ y. row_has places (key_of places x) y) same ∙ own_key places x)
    go false ih f = or_right _ _ (ih f)

seen_has : (k r : ℕ) (places : List ℕ) (versions : List Version) (o : Option Slot) (x : RowOf) → seen k r (versions, o) ≡ Some x → body_has places (key_of places x) (versions, o) ≡ true
seen_has k r places versions None x e = or_left _ _ (version_has r places versions x e)
seen_has k r places versions (Some s) x e = go (s.holder == k) refl
  where
    go : (b : Bool) → (s.holder == k) ≡ b → body_has places (key_of places x) (versions, Some s) ≡ true
    go true h =
        let change : s.change ≡ Some x = sym (rw h refl) ∙ e in
        or_right _ _ (ap (λ c. slot_has places (key_of places x) (Some (record { holder = s.holder; change = c }))) change ∙ own_key places x)
    go false h =
        let version : version_at r versions ≡ Some x = sym (rw h refl) ∙ e in
        or_left _ _ (version_has r places versions x version)

view_has : (s : State) → Good s → (k j n : ℕ) (x : RowOf) → row_at (view (history_of s) k) n ≡ Some x → has_key s.rows j (key_of (places_of s.schema j) x) n ≡ true
unfolding has_key chain slot
view_has s g k j n x e =
    subst (λ schema. has_key s.rows j (key_of (places_of schema j) x) n ≡ true) g.placement.schema_is
    (seen_has k (read_at (history_of s) k) (places_of s.rows.schema j) (chain s.rows n) (slot s.rows n) x ((shows_rows s g).views k n ∙ e))

-- the rows that match are among them

named_row : (s : State) (k : ℕ) (pred : Predicate) (j : ℕ) (key : List Value) (n : ℕ) → Good s → FixesColumns pred (places_of s.schema j) key
    → (o : Option RowOf) → row_at (view (history_of s) k) n ≡ o → cond (has_key s.rows j key n) (kept_row pred o) None ≡ kept_row pred o
named_row s k pred j key n g fixed None e = none_named (has_key s.rows j key n)
named_row s k pred j key n g fixed (Some x) e = go (matches pred x) refl
  where
    go : (b : Bool) → matches pred x ≡ b → cond (has_key s.rows j key n) (cond b (Some x) None) None ≡ cond b (Some x) None
    go true m = ap (λ t. cond t (Some x) None) (sym (ap (λ q. has_key s.rows j q n) (fixed x m)) ∙ view_has s g k j n x e)
    go false m = none_named (has_key s.rows j key n)

-- the row of a number that an actor sees, if it matches
abbrev pub matching_row : State → ℕ → Predicate → ℕ → Option RowOf
matching_row s k pred n = kept_row pred (row_at (view (history_of s) k) n)

pub keyed_rows : (s : State) (k : ℕ) (pred : Predicate) (j : ℕ) (key : List Value) (ids : List ℕ) → Good s → FixesColumns pred (places_of s.schema j) key
    → ((n : ℕ) → names_row ids n ≡ has_key s.rows j key n) → are_rising ids ≡ true
    → rows_among (λ n. kept_row pred (row_at (view (history_of s) k) n)) ids ≡ kept pred (view (history_of s) k)
keyed_rows s k pred j key ids g fixed same rising =
    is_that_table (rows_among (matching_row s k pred) ids) (kept pred (view (history_of s) k)) (rising_among (matching_row s k pred) ids rising)
    (rises-filter (λ p. matches pred p.1) 0 (view (history_of s) k) (view_rises s g k))
    (λ n. for_among (matching_row s k pred) ids n ∙ ap (λ b. cond b (matching_row s k pred n) None) (same n)
    ∙ named_row s k pred j key n g fixed (row_at (view (history_of s) k) n) refl
    ∙ sym (row_kept pred 0 (view (history_of s) k) (view_rises s g k) n))

-- what the store shows to an actor when it reads
pub row_shown : (s : State) → Good s → (k n r : ℕ) → r ≡ read_at (history_of s) k → seen k r (chain s.rows n, slot s.rows n) ≡ row_at (view (history_of s) k) n
row_shown s g k n r time = ap (λ t. seen k t (chain s.rows n, slot s.rows n)) time ∙ (shows_rows s g).views k n

-- rows of which those that match are the view's

kept_twice : (pred : Predicate) (rows : Table) → kept pred (kept pred rows) ≡ kept pred rows
kept_twice pred [] = refl
kept_twice pred (p ∷ rows) = go (matches pred p.1) refl (kept_twice pred rows)
  where
    go : (b : Bool) → matches pred p.1 ≡ b → kept pred (kept pred rows) ≡ kept pred rows → kept pred (cond b (p ∷ kept pred rows) (kept pred rows)) ≡ cond b (p ∷ kept pred rows) (kept pred rows)
    go true e ih = rw e (ap (λ xs. p ∷ xs) ih)
    go false e ih = ih

pub kept_match : (s : State) → Good s → (k : ℕ) (pred : Predicate) (rows : Table) → rows ≡ kept pred (view (history_of s) k) → HasMatching pred (view (history_of s) k) rows
kept_match s g k pred rows some = record {
  rising = ap (rises_above 0) some ∙ rises-filter (λ p. matches pred p.1) 0 (view (history_of s) k) (view_rises s g k);
  same = ap (kept pred) some ∙ kept_twice pred (view (history_of s) k);
}

-- an equal comparison fixes its column

equal_fixes : (c : ℕ) (v : Value) → FixesColumn (compared c Eq v) c v
equal_fixes c v row m = same_value (value_at row c) v (value_ties (value_at row c) v ∙ m)

pub equal_here : (p : Predicate) (c d : ℕ) (o : Op) (v : Value) → p ≡ compared d o v → o ≡ Eq → d ≡ c → FixesColumn p c v
equal_here p c d o v is equal at row m =
    equal_fixes c v row (sym (ap (λ q. matches q row) (is ∙ ap₂ (λ (d : ℕ) (o : Op). compared d o v) at equal)) ∙ m)
