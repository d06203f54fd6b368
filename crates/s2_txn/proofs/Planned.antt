-- A write that isn't refused fits the history.
use Rattle.std.proofs.Common.{◌≡◌, ℕ, ◌<◌, ◌≤◌, Bool, true, false, not, ◌&&◌, ◌||◌, cond, ◌==◌, nat_le, nat_lt, List, [], ◌∷◌, length, map, filter, Option, Some, None, is_some, refl, sym, ap, ap₂, ◌∙◌, ◌⊎◌, inl, inr, ⊎_elim, arith}
use Rattle.std.specs.Option.{option_map}
use Rattle.std.specs.List.{list_any, list_all}
use Rattle.std.proofs.lemmas.Bool.{false≢true, both_ways, and_parts, and_from, or_cases, or_left, or_right, not-true, lt-ltb}
use Rattle.std.proofs.lemmas.Bool.Decides.{nat_tests}
use Rattle.s2_value.specs.declared.schemas.Schema.{Schema}
use Rattle.s2_value.specs.Schemas.{fits}
use Rattle.s2_model.specs.declared.entries.Change.{Change}
use Rattle.s2_model.specs.declared.entries.Change.TheVariants.{Put, Drop}
use Rattle.s2_model.specs.declared.statements.SetExpr.{SetExpr}
use Rattle.s2_model.specs.declared.statements.Stmt.{Stmt}
use Rattle.s2_model.specs.declared.statements.Stmt.TheVariants.{Insert, Update, Delete}
use Rattle.s2_model.specs.declared.replies.Refusal.{Refusal}
use Rattle.s2_model.specs.declared.replies.Refusal.TheVariants as refusal
use Rattle.s2_model.specs.Predicates.{Predicate}
use Rattle.s2_model.specs.Table.{Table, RowOf, row_at, apply, touches, number_of, rises_above, IsTable}
use Rattle.s2_model.specs.History.{History, state, pending, pin_of, seen_at, greatest, next, view}
use Rattle.s2_model.specs.Held.{holds, is_held_by_other, sessions}
use Rattle.s2_model.specs.Placement.{placement, lives, is_living, is_in_use, is_free}
use Rattle.s2_model.specs.Rows.{matches}
use Rattle.s2_model.specs.Answer.{kept}
use Rattle.s2_model.specs.Verdict.{first_some, matched, updated, changes, most_rows, too_many, other_holder, locked, refusal_of}
use Rattle.s2_model.specs.Fits.{WriteFits, is_writable, is_in_store, put_fits, puts, rise, rise_from, put_on_from}
use Rattle.s2_model.proofs.Lists.{Each, each-filter, each_weaker, any_weaker, counts_any}
use Rattle.s2_model.proofs.Tables.{row_after, row_at-apply}
use Rattle.s2_model.proofs.Inserts.{puts_rise, puts_fit, puts_new_only, puts_run_on}
use Rattle.s2_model.proofs.Times.{count_segments}
use Rattle.s2_model.proofs.Invariant.{IsSound, now_from_numbers}
use Rattle.s2_model.proofs.Holders.{holder_is, touched_has}
use Rattle.s2_model.proofs.WriteStep.{size_some}
use Rattle.s2_model.proofs.FileRows.{InTable, table_rows}
use Rattle.s2_model.proofs.Whole.{sound}
use Rattle.s2_answer.specs.Suits.{suits, stmt_suits}
use Rattle.s2_answer.proofs.FoundLemmas.{parts, rises-filter}
use Rattle.s2_answer.proofs.Fitting.{after_fits}
use Rattle.s2_state.specs.declared.states.State.{State}
use Rattle.s2_state.specs.States.{history_of}
use Rattle.s2_state.specs.Slots.{last_of}
use Rattle.s2_state.specs.Good.{Good}
use Rattle.s2_state.proofs.SlotSteps.{change_or, row_after_last}
use Rattle.s2_state.proofs.Ready.{session_of}
use Rattle.s2_state.proofs.Fitting.{RowsDoFit, rows_do_fit, last_fits}
use Rattle.s2_state.proofs.Shown.{view_rises}
use Rattle.s2_txn.proofs.Unrefused.{first_none, find_none, map_none}

-- the changes of a statement of an actor
abbrev pub changes_of : State → ℕ → Stmt → List Change
changes_of s k stmt = changes stmt (view (history_of s) k) (next (history_of s))

-- its refusal
abbrev pub refusal_at : State → ℕ → Stmt → Option Refusal
refusal_at s k stmt = refusal_of s.schema (history_of s) k stmt (view (history_of s) k) (changes_of s k stmt)

-- rows that no other holds

each_none : {X : Type 0} (f : X → Option Refusal) (xs : List X) → first_some f xs ≡ None → Each (λ x. f x ≡ None) xs
each_none f [] e = tt
each_none f (x ∷ xs) e = let both = first_none (f x) (first_some f xs) e in (both.0, each_none f xs both.1)

abbrev IsFree : History → ℕ → ℕ × RowOf → Type 0
IsFree H k p = is_held_by_other H k p.0 ≡ false

free_row : (H : History) (k : ℕ) (p : ℕ × RowOf) → option_map (λ j. refusal.Locked p.0 j) (other_holder H k p.0) ≡ None → IsFree H k p
unfolding is_held_by_other
free_row H k p e = find_none (λ j. not (j == k) && holds H j p.0) sessions (map_none (λ j. refusal.Locked p.0 j) (other_holder H k p.0) e)

free_rows : (H : History) (k : ℕ) (rows : Table) → locked H k rows ≡ None → Each (IsFree H k) rows
free_rows H k rows e =
    each_weaker (λ p. option_map (λ j. refusal.Locked p.0 j) (other_holder H k p.0) ≡ None) (IsFree H k) (free_row H k) rows
    (each_none (λ p. option_map (λ j. refusal.Locked p.0 j) (other_holder H k p.0)) rows e)

-- rows that an actor sees

view_is : (H : History) (k : ℕ) → pin_of H k ≡ None → view H k ≡ apply (state H) (pending H k)
view_is H k pin = ap (λ o. seen_at o H k) pin

-- a row after changes was there before, or one of them puts it
was_or_put : (was : Option RowOf) (cs : List Change) (n : ℕ) → is_some (row_after was cs n) ≡ true → (is_some was ≡ true) ⊎ (list_any (λ c. puts c n) cs ≡ true)
was_or_put was [] n e = inl e
was_or_put was (Put m x ∷ cs) n e = go (m == n) (was_or_put (cond (m == n) (Some x) was) cs n e)
  where
    go : (b : Bool) → (is_some (cond b (Some x) was) ≡ true) ⊎ (list_any (λ c. puts c n) cs ≡ true) → (is_some was ≡ true) ⊎ ((b || list_any (λ c. puts c n) cs) ≡ true)
    go true h = inr refl
    go false h = h
was_or_put was (Drop m ∷ cs) n e = go (m == n) (was_or_put (cond (m == n) None was) cs n e)
  where
    go : (b : Bool) → (is_some (cond b None was) ≡ true) ⊎ (list_any (λ c. puts c n) cs ≡ true) → (is_some was ≡ true) ⊎ (list_any (λ c. puts c n) cs ≡ true)
    go true h = ⊎_elim (λ no. absurd (false≢true no)) (λ put. inr put) h
    go false h = h

put_number : (c : Change) (n : ℕ) → puts c n ≡ true → (number_of c == n) ≡ true
put_number (Put m x) n e = e
put_number (Drop m) n e = absurd (false≢true e)

living : (H : History) (n : ℕ) → IsSound H → (placement H).segments ≡ [] → is_some (row_at (state H) n) ≡ true → lives (placement H).versions n ≡ true
living H n s bare has =
    counts_any (λ v. v.id == n && is_living v) (placement H).versions
    (omega (arith, now_from_numbers H (placement H) s.placed n, size_some (row_at (state H) n) has, ap (count_segments is_in_use is_free n) bare))

-- its number isn't a new one, and it is in the row store
record IsSeen (H : History) (k n : ℕ) : Type 0 where
  old : n ≤ greatest H
  stored : is_in_store H k n ≡ true

seen_row : (H : History) (k n : ℕ) → IsSound H → (placement H).segments ≡ [] → pin_of H k ≡ None → is_some (row_at (view H k) n) ≡ true → IsSeen H k n
seen_row H k n s bare pin has =
    ⊎_elim
    (λ (was : is_some (row_at (state H) n) ≡ true). record { old = s.held.rows_below n was; stored = or_left _ _ (living H n s bare was) })
    (λ (put : list_any (λ c. puts c n) (pending H k) ≡ true). record {
      old = s.held.below k n (any_weaker (λ c. puts c n) (λ c. number_of c == n) (λ c e. put_number c n e) (pending H k) put);
      stored = or_right (lives (placement H).versions n) _ put;
    })
    (was_or_put (row_at (state H) n) (pending H k) n
    (sym (ap is_some (ap (λ t. row_at t n) (view_is H k pin) ∙ row_at-apply (state H) (pending H k) n)) ∙ has))

abbrev Sees : History → ℕ → ℕ × RowOf → Type 0
Sees H k p = IsSeen H k p.0 × (is_some (row_at (view H k) p.0) ≡ true)

-- each row that matches is one of the view
each_seen : (s : State) (k : ℕ) (pred : Predicate) → Good s → pin_of (history_of s) k ≡ None
    → Each (Sees (history_of s) k) (kept pred (view (history_of s) k))
each_seen s k pred g pin =
    each-filter (Sees (history_of s) k) (λ p. matches pred p.1) (view (history_of s) k)
    (each_weaker (InTable (view (history_of s) k)) (Sees (history_of s) k)
    (λ p e. (seen_row (history_of s) k p.0 (sound s.schema s.options (history_of s) g.log.fits) g.placement.bare pin (ap is_some e), ap is_some e))
    (view (history_of s) k) (table_rows 0 (view (history_of s) k) (view_rises s g k)))

row_fits : (schema : Schema) (H : History) (k n : ℕ) (x : RowOf) → RowsDoFit schema H → row_at (apply (state H) (pending H k)) n ≡ Some x → fits schema x ≡ true
row_fits schema H k n x d e =
    go (last_of (pending H k) n) refl (sym (row_after_last (row_at (state H) n) (pending H k) n) ∙ sym (row_at-apply (state H) (pending H k) n) ∙ e)
  where
    go : (o : Option (Option RowOf)) → last_of (pending H k) n ≡ o → change_or o (row_at (state H) n) ≡ Some x → fits schema x ≡ true
    go None p f = d.rows n x f
    go (Some y) p f = last_fits schema (pending H k) n x (d.writes k) (p ∙ ap Some f)

-- each row that matches fits the schema
each_fits : (s : State) (k : ℕ) (pred : Predicate) → Good s → pin_of (history_of s) k ≡ None
    → Each (λ p. fits s.schema p.1 ≡ true) (kept pred (view (history_of s) k))
each_fits s k pred g pin =
    each-filter (λ p. fits s.schema p.1 ≡ true) (λ p. matches pred p.1) (view (history_of s) k)
    (each_weaker (InTable (view (history_of s) k)) (λ p. fits s.schema p.1 ≡ true)
    (λ p e. row_fits s.schema (history_of s) k p.0 p.1 (rows_do_fit s.schema s.options (history_of s) g.log.fits) (sym (ap (λ t. row_at t p.0) (view_is (history_of s) k pin)) ∙ e))
    (view (history_of s) k) (table_rows 0 (view (history_of s) k) (view_rises s g k)))

-- a change of each row

abbrev ByRow : (ℕ × RowOf → Change) → Type 0
ByRow f = (p : ℕ × RowOf) → number_of (f p) ≡ p.0

numbers_are : (f : ℕ × RowOf → Change) → ByRow f → (found : Table) → map number_of (map f found) ≡ map (λ p. p.0) found
numbers_are f by [] = refl
numbers_are f by (p ∷ found) = ap₂ (λ n ns. n ∷ ns) (by p) (numbers_are f by found)

rises : (low : ℕ) (rows : Table) → rises_above low rows ≡ true → rise_from low (map (λ p. p.0) rows) ≡ true
rises low [] up = refl
rises low (p ∷ rows) up = let both = parts (nat_lt low p.0) (rises_above p.0 rows) up in and_from _ _ both.0 (rises p.0 rows both.1)

rises_first : (rows : Table) → IsTable rows → rise (map (λ p. p.0) rows) ≡ true
rises_first [] up = refl
rises_first (p ∷ rows) up = rises p.0 rows (parts (nat_lt 0 p.0) (rises_above p.0 rows) up).1

rising_by : (f : ℕ × RowOf → Change) → ByRow f → (s : State) (k : ℕ) (pred : Predicate) → Good s
    → rise (map number_of (map f (kept pred (view (history_of s) k)))) ≡ true
rising_by f by s k pred g =
    ap rise (numbers_are f by (kept pred (view (history_of s) k)))
    ∙ rises_first (kept pred (view (history_of s) k)) (rises-filter (λ p. matches pred p.1) 0 (view (history_of s) k) (view_rises s g k))

writable : (H : History) (k n : ℕ) → is_some (row_at (view H k) n) ≡ true → is_held_by_other H k n ≡ false → is_in_store H k n ≡ true → is_writable H k n ≡ true
writable H k n seen free stored = and_from _ _ (and_from _ _ seen (ap not free)) stored

old_by : (f : ℕ × RowOf → Change) → ByRow f → (H : History) (k : ℕ) (found : Table) → Each (Sees H k) found → Each (IsFree H k) found
    → list_all (λ c. not (nat_lt (number_of c) (next H)) || is_writable H k (number_of c)) (map f found) ≡ true
old_by f by H k [] seen free = refl
old_by f by H k (p ∷ found) seen free =
    and_from _ _
    (or_right _ _ (ap (is_writable H k) (by p) ∙ writable H k p.0 seen.0.1 free.0 seen.0.0.stored))
    (old_by f by H k found seen.1 free.1)

none_new : (f : ℕ × RowOf → Change) → ByRow f → (H : History) (k : ℕ) (found : Table) → Each (Sees H k) found → filter (λ c. nat_le (next H) (number_of c)) (map f found) ≡ []
none_new f by H k [] seen = refl
none_new f by H k (p ∷ found) seen =
    let old : number_of (f p) ≤ greatest H = omega (arith, by p, seen.0.0.old) in
    let over : nat_le (next H) (number_of (f p)) ≡ false = grind (arith, nat_tests) in
    rw over (none_new f by H k found seen.1)

updates_fit : (schema : Schema) (sets : List (ℕ × SetExpr)) (found : Table) → list_all (suits schema.cols) sets ≡ true → Each (λ p. fits schema p.1 ≡ true) found
    → list_all (put_fits schema) (map (updated sets) found) ≡ true
updates_fit schema sets [] form each = refl
updates_fit schema sets (p ∷ found) form each = and_from _ _ (after_fits schema.cols sets p.1 form each.0) (updates_fit schema sets found form each.1)

drops_fit : (schema : Schema) (found : Table) → list_all (put_fits schema) (map (λ p. Drop p.0) found) ≡ true
drops_fit schema [] = refl
drops_fit schema (p ∷ found) = drops_fit schema found

-- a write, whether or not it is refused

-- its row numbers rise
pub rising_write : (s : State) (k : ℕ) (stmt : Stmt) → Good s → rise (map number_of (changes_of s k stmt)) ≡ true
rising_write s k (Insert xs) g = puts_rise (next (history_of s)) xs
rising_write s k (Update sets pred) g = rising_by (updated sets) (λ p. refl) s k pred g
rising_write s k (Delete pred) g = rising_by (λ p. Drop p.0) (λ p. refl) s k pred g
rising_write s k _ g = refl

-- the rows that it puts fit the schema
pub fitting_write : (s : State) (k : ℕ) (stmt : Stmt) → Good s → pin_of (history_of s) k ≡ None → stmt_suits s.schema stmt ≡ true
    → list_all (put_fits s.schema) (changes_of s k stmt) ≡ true
fitting_write s k (Insert xs) g pin form = puts_fit s.schema (next (history_of s)) xs ∙ form
fitting_write s k (Update sets pred) g pin form = updates_fit s.schema sets (kept pred (view (history_of s) k)) form (each_fits s k pred g pin)
fitting_write s k (Delete pred) g pin form = drops_fit s.schema (kept pred (view (history_of s) k))
fitting_write s k _ g pin form = refl

-- its new rows have the next free numbers
pub new_write : (s : State) (k : ℕ) (stmt : Stmt) → Good s → pin_of (history_of s) k ≡ None
    → put_on_from (next (history_of s)) (filter (λ c. nat_le (next (history_of s)) (number_of c)) (changes_of s k stmt)) ≡ true
new_write s k (Insert xs) g pin = puts_run_on (next (history_of s)) xs
new_write s k (Update sets pred) g pin =
    ap (put_on_from (next (history_of s))) (none_new (updated sets) (λ p. refl) (history_of s) k (kept pred (view (history_of s) k)) (each_seen s k pred g pin))
new_write s k (Delete pred) g pin =
    ap (put_on_from (next (history_of s))) (none_new (λ p. Drop p.0) (λ p. refl) (history_of s) k (kept pred (view (history_of s) k)) (each_seen s k pred g pin))
new_write s k _ g pin = refl

-- a write whose rows no other holds

-- each row that it changes is new, or can be written
pub old_write : (s : State) (k : ℕ) (stmt : Stmt) → Good s → pin_of (history_of s) k ≡ None → locked (history_of s) k (matched stmt (view (history_of s) k)) ≡ None
    → list_all (λ c. not (nat_lt (number_of c) (next (history_of s))) || is_writable (history_of s) k (number_of c)) (changes_of s k stmt) ≡ true
old_write s k (Insert xs) g pin none = puts_new_only (next (history_of s)) (next (history_of s)) (is_writable (history_of s) k) xs (omega arith)
old_write s k (Update sets pred) g pin none =
    old_by (updated sets) (λ p. refl) (history_of s) k (kept pred (view (history_of s) k)) (each_seen s k pred g pin) (free_rows (history_of s) k (kept pred (view (history_of s) k)) none)
old_write s k (Delete pred) g pin none =
    old_by (λ p. Drop p.0) (λ p. refl) (history_of s) k (kept pred (view (history_of s) k)) (each_seen s k pred g pin) (free_rows (history_of s) k (kept pred (view (history_of s) k)) none)
old_write s k _ g pin none = refl

-- a write that isn't refused

record Unrefused (s : State) (k : ℕ) (stmt : Stmt) : Type 0 where
  few : too_many (changes_of s k stmt) ≡ None
  free : locked (history_of s) k (matched stmt (view (history_of s) k)) ≡ None

unrefused : (s : State) (k : ℕ) (stmt : Stmt) → refusal_at s k stmt ≡ None → Unrefused s k stmt
unrefused s k stmt none =
    let both = first_none (too_many (changes_of s k stmt)) _ none in
    record { few = both.0; free = (first_none (locked (history_of s) k (matched stmt (view (history_of s) k))) _ both.1).0 }

few_from : (cs : List Change) → too_many cs ≡ None → nat_le (length cs) 65536 ≡ true
few_from cs none = go (nat_lt most_rows (length cs)) refl none
  where
    go : (b : Bool) → nat_lt most_rows (length cs) ≡ b → cond {A = Option Refusal} b (Some refusal.TooManyRows) None ≡ None → nat_le (length cs) 65536 ≡ true
    go true e h = cc
    go false e h = grind (arith, nat_tests)

-- nobody else holds a row that can be written
alone_by : (H : History) (k : ℕ) (cs : List Change) → IsSound H → list_all (λ c. not (nat_lt (number_of c) (next H)) || is_writable H k (number_of c)) cs ≡ true
    → (j n : ℕ) → holds H j n ≡ true → touches cs n ≡ true → j ≡ k
alone_by H k cs w old j n held touched =
    ⊎_elim
    (λ (new : not (nat_lt n (next H)) ≡ true). absurd (both_ways _ (not-true _ new) (lt-ltb n (next H) (omega (arith, w.held.below j n held)))))
    (λ (can : is_writable H k n ≡ true). holder_is H k j n (not-true _ (and_parts _ _ (and_parts _ _ can).0).1) (w.held.sessions j n held) held)
    (or_cases _ _ (touched_has (λ m. not (nat_lt m (next H)) || is_writable H k m) cs n old touched))

-- nobody else holds a row that it changes
pub alone_write : (s : State) (k : ℕ) (stmt : Stmt) → Good s → pin_of (history_of s) k ≡ None → refusal_at s k stmt ≡ None
    → (j n : ℕ) → holds (history_of s) j n ≡ true → touches (changes_of s k stmt) n ≡ true → j ≡ k
alone_write s k stmt g pin none =
    alone_by (history_of s) k (changes_of s k stmt) (sound s.schema s.options (history_of s) g.log.fits) (old_write s k stmt g pin (unrefused s k stmt none).free)

-- the law: it fits the history
pub may_write : (s : State) (k : ℕ) (stmt : Stmt) → Good s → 0 < k → k < 17 → pin_of (history_of s) k ≡ None → stmt_suits s.schema stmt ≡ true
    → refusal_at s k stmt ≡ None → nat_lt 0 (length (changes_of s k stmt)) ≡ true → WriteFits s.schema (history_of s) k (changes_of s k stmt)
may_write s k stmt g from to pin form none some = record {
  by = and_from _ _ (session_of k from to) (ap (λ o. not (is_some o)) pin);
  some = some;
  most = few_from (changes_of s k stmt) (unrefused s k stmt none).few;
  rising = rising_write s k stmt g;
  rows = fitting_write s k stmt g pin form;
  old = old_write s k stmt g pin (unrefused s k stmt none).free;
  new = new_write s k stmt g pin;
}
