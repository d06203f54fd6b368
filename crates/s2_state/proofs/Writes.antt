-- A WRITE.
use Rattle.std.proofs.Common.{◌≡◌, ℕ, suc, ◌+◌, ◌<◌, ◌≤◌, max, Bool, true, false, ◌||◌, cond, ◌==◌, nat_le, List, [], ◌∷◌, ◌++◌, length, filter, Option, Some, None, is_some, refl, sym, ap, subst, ◌∙◌, ⊎_elim, arith}
use Rattle.std.specs.Prelude.{slice_get}
use Rattle.std.proofs.lemmas.List.Folds.{list_any-append}
use Rattle.std.proofs.lemmas.Bool.{false≢true, true≢false, leb-true, leb-false, and_parts, eqb-true, eqb-false, ne_eqb, eq-eqb, or_cases, or_left, or_right, false_from_ne_true}
use Rattle.s2_value.specs.declared.values.Value.{Value}
use Rattle.s2_value.specs.declared.schemas.Schema.{Schema}
use Rattle.s2_value.specs.Rows.{key_of}
use Rattle.s2_model.specs.declared.entries.What.TheVariants.{Write}
use Rattle.s2_model.specs.declared.entries.Change.{Change}
use Rattle.s2_model.specs.declared.entries.Change.TheVariants.{Put, Drop}
use Rattle.s2_model.specs.declared.scripts.Options.{Options}
use Rattle.s2_model.specs.Table.{Table, RowOf, apply, touches, number_of}
use Rattle.s2_model.specs.History.{History, ◌▷◌, state, pending, greatest, greatest_in, next}
use Rattle.s2_model.specs.Held.{has_value}
use Rattle.s2_model.specs.Fits.{WriteFits, put_on_from}
use Rattle.s2_model.proofs.Kept.{entry_of}
use Rattle.s2_rowstore.specs.declared.chain.Slot.{Slot}
use Rattle.s2_rowstore.specs.Chains.{own}
use Rattle.s2_rowstore.specs.Store.{Store, chain, slot, slot_put}
use Rattle.s2_uniquelock.specs.Locks.{Locks, row_holder, value_keeper}
use Rattle.s2_state.specs.Slots.{last_of}
use Rattle.s2_state.specs.Keys.{AreDistinct, IsKeyKept}
use Rattle.s2_state.specs.Good.{is_holder, holds_key}
use Rattle.s2_state.specs.Takes.{takes_key, Takes, IsFreeKey, AreFreeKeys}
use Rattle.s2_state.proofs.SlotSteps.{last_from-append, last_from_is, last_touches}
use Rattle.s2_state.proofs.KeySteps.{RowsApart}
use Rattle.s2_state.proofs.Over.{Over, rows_apart, past_step}

-- the open writes with k's further changes
abbrev pub added : ℕ → List Change → (ℕ → List Change) → ℕ → List Change
added k cs writes j = cond (j == k) (writes j ++ cs) (writes j)

abbrev pub written : History → ℕ → List Change → History
written H k cs = H ▷ entry_of k (Write cs)

-- what they touch, what values they have

touches-append : (cs ds : List Change) (n : ℕ) → touches (cs ++ ds) n ≡ (touches cs n || touches ds n)
touches-append cs ds n = list_any-append (λ c. number_of c == n) cs ds

value-append : (key : List ℕ) (rows : Table) (cs ds : List Change) (v : List Value) → has_value key rows (cs ++ ds) v ≡ (has_value key rows cs v || has_value key rows ds v)
value-append key rows cs ds v = list_any-append _ cs ds

or_false : (b : Bool) → (b || false) ≡ b
or_false true = refl
or_false false = refl

-- k is touched by what it adds
added_touched : (k n : ℕ) (cs : List Change) (writes : ℕ → List Change) → touches cs n ≡ true → touches (added k cs writes k) n ≡ true
added_touched k n cs writes t = go (k == k) (eq-eqb k k refl)
  where
    go : (b : Bool) → b ≡ true → touches (cond b (writes k ++ cs) (writes k)) n ≡ true
    go true e = touches-append (writes k) cs n ∙ or_right _ _ t
    go false e = absurd (false≢true e)

-- a row that is written is nobody else's
untouched : (k : ℕ) (cs : List Change) (writes : ℕ → List Change) → RowsApart (added k cs writes) → (j n : ℕ) → (j == k) ≡ false → touches cs n ≡ true → touches (writes j) n ≡ false
untouched k cs writes apart j n ne t = false_from_ne_true _ (λ own. eqb-false j k ne (apart j k n (go (j == k) ne own) (added_touched k n cs writes t)))
  where
    go : (b : Bool) → b ≡ false → touches (writes j) n ≡ true → touches (cond b (writes j ++ cs) (writes j)) n ≡ true
    go true e own = absurd (true≢false e)
    go false e own = own

-- slots

none_from : (o : Option (Option RowOf)) → is_some o ≡ false → o ≡ None
none_from None e = refl
none_from (Some x) e = absurd (true≢false e)

write_slot : (k : ℕ) (cs : List Change) (writes : ℕ → List Change) → RowsApart (added k cs writes) → (j n : ℕ) (s : Option Slot)
    → own j s ≡ last_of (writes j) n → own j (slot_put k (last_of cs n) s) ≡ last_of (added k cs writes j) n
write_slot k cs writes apart j n s was = go (last_of cs n) refl (j == k) refl
  where
    untouched_by : last_of cs n ≡ None → touches cs n ≡ false
    untouched_by none = sym (last_touches cs n) ∙ ap is_some none

    touched_by : (c : Option RowOf) → last_of cs n ≡ Some c → touches cs n ≡ true
    touched_by c some = sym (last_touches cs n) ∙ ap is_some some

    more : last_of (writes j ++ cs) n ≡ cond (touches cs n) (last_of cs n) (last_of (writes j) n)
    more = last_from-append None (writes j) cs n ∙ last_from_is (last_of (writes j) n) cs n

    go : (o : Option (Option RowOf)) → last_of cs n ≡ o → (b : Bool) → (j == k) ≡ b → own j (slot_put k o s) ≡ last_of (cond b (writes j ++ cs) (writes j)) n
    go None e true p = was ∙ sym (more ∙ ap (λ b. cond b (last_of cs n) (last_of (writes j) n)) (untouched_by e))
    go None e false p = was
    go (Some c) e true p =
        ap (λ b. cond b (Some c) None) (eq-eqb k j (sym (eqb-true j k p)))
        ∙ sym (more ∙ ap (λ b. cond b (last_of cs n) (last_of (writes j) n)) (touched_by c e) ∙ e)
    go (Some c) e false p =
        ap (λ b. cond b (Some c) None) (ne_eqb k j (λ same. eqb-false j k p (sym same)))
        ∙ sym (none_from (last_of (writes j) n) (last_touches (writes j) n ∙ untouched k cs writes apart j n p (touched_by c e)))

-- rows

write_row : (k : ℕ) (cs : List Change) (writes : ℕ → List Change) → RowsApart (added k cs writes) → (j n : ℕ) (o : Option ℕ)
    → is_holder j o ≡ touches (writes j) n → is_holder j (cond (touches cs n) (Some k) o) ≡ touches (added k cs writes j) n
write_row k cs writes apart j n o was = go (touches cs n) refl (j == k) refl
  where
    go : (t : Bool) → touches cs n ≡ t → (b : Bool) → (j == k) ≡ b → is_holder j (cond t (Some k) o) ≡ touches (cond b (writes j ++ cs) (writes j)) n
    go true e true p = eq-eqb k j (sym (eqb-true j k p)) ∙ sym (touches-append (writes j) cs n ∙ or_right _ _ e)
    go true e false p = ne_eqb k j (λ same. eqb-false j k p (sym same)) ∙ sym (untouched k cs writes apart j n p e)
    go false e true p = was ∙ sym (touches-append (writes j) cs n ∙ ap (λ b. touches (writes j) n || b) e ∙ or_false (touches (writes j) n))
    go false e false p = was

-- values

write_value : (key : List ℕ) (rows : Table) (k : ℕ) (cs : List Change) (writes : ℕ → List Change)
    → ((j : ℕ) (v : List Value) → has_value key rows cs v ≡ true → has_value key rows (writes j) v ≡ true → j ≡ k)
    → (j : ℕ) (v : List Value) (o : Option ℕ) → is_holder j o ≡ has_value key rows (writes j) v
    → is_holder j (cond (has_value key rows cs v) (Some k) o) ≡ has_value key rows (added k cs writes j) v
write_value key rows k cs writes free j v o was = go (has_value key rows cs v) refl (j == k) refl
  where
    go : (t : Bool) → has_value key rows cs v ≡ t → (b : Bool) → (j == k) ≡ b → is_holder j (cond t (Some k) o) ≡ has_value key rows (cond b (writes j ++ cs) (writes j)) v
    go true e true p = eq-eqb k j (sym (eqb-true j k p)) ∙ sym (value-append key rows (writes j) cs v ∙ or_right _ _ e)
    go true e false p = ne_eqb k j (λ same. eqb-false j k p (sym same)) ∙ sym (false_from_ne_true _ (λ own. eqb-false j k p (free j v e own)))
    go false e true p = was ∙ sym (value-append key rows (writes j) cs v ∙ ap (λ b. has_value key rows (writes j) v || b) e ∙ or_false (has_value key rows (writes j) v))
    go false e false p = was

write_key : (schema : Schema) (H : History) (k : ℕ) (cs : List Change) → (j : ℕ) (key : Option (List ℕ)) (v : List Value) (o : Option ℕ)
    → ((places : List ℕ) → key ≡ Some places → IsFreeKey H k cs places) → is_holder j o ≡ holds_key H j key v
    → is_holder j (cond (takes_key H cs key v) (Some k) o) ≡ holds_key (written H k cs) j key v
write_key schema H k cs j None v o free was = was
write_key schema H k cs j (Some key) v o free was = write_value key (state H) k cs (pending H) (free key refl).free j v o was

-- unique keys

-- what an actor has after the write it had before, or is k and takes it
value_cases : (key : List ℕ) (rows : Table) (k : ℕ) (cs : List Change) (writes : ℕ → List Change) (j : ℕ) (v : List Value) → has_value key rows (added k cs writes j) v ≡ true
    → (P : Type 0) → (has_value key rows (writes j) v ≡ true → P) → (j ≡ k → has_value key rows cs v ≡ true → P) → P
value_cases key rows k cs writes j v e P old new = go (j == k) refl e
  where
    go : (b : Bool) → (j == k) ≡ b → has_value key rows (cond b (writes j ++ cs) (writes j)) v ≡ true → P
    go true p h = ⊎_elim old (new (eqb-true j k p)) (or_cases _ _ (sym (value-append key rows (writes j) cs v) ∙ h))
    go false p h = old h

touched_still : (k n : ℕ) (cs : List Change) (writes : ℕ → List Change) (j : ℕ) → touches (writes j) n ≡ true → touches (added k cs writes j) n ≡ true
touched_still k n cs writes j t = go (j == k)
  where
    go : (b : Bool) → touches (cond b (writes j ++ cs) (writes j)) n ≡ true
    go true = touches-append (writes j) cs n ∙ or_left _ _ t
    go false = t

pub key_written : (key : List ℕ) (H : History) (k : ℕ) (cs : List Change) → IsFreeKey H k cs key → IsKeyKept key (state H) (pending H)
    → IsKeyKept key (state H) (added k cs (pending H))
key_written key H k cs f kept = record {
  content = kept.content;
  views = λ j. view j (j == k) refl;
  apart = λ i j v a b.
      value_cases key (state H) k cs (pending H) i v a (i ≡ j)
      (λ olda. value_cases key (state H) k cs (pending H) j v b (i ≡ j) (λ oldb. kept.apart i j v olda oldb) (λ same newb. f.free i v newb olda ∙ sym same))
      (λ same newa. value_cases key (state H) k cs (pending H) j v b (i ≡ j) (λ oldb. same ∙ sym (f.free j v newa oldb)) (λ also newb. same ∙ sym also));
  claimed = λ j n x e has.
      value_cases key (state H) k cs (pending H) j (key_of key x) has (touches (added k cs (pending H) j) n ≡ true)
      (λ old. touched_still k n cs (pending H) j (kept.claimed j n x e old))
      (λ same new. own_claim j n (j == k) (ap (λ i. i == k) same ∙ eq-eqb k k refl) same (f.claimed n x e new));
}
  where
    view : (j : ℕ) (b : Bool) → (j == k) ≡ b → AreDistinct key (apply (state H) (cond b (pending H j ++ cs) (pending H j)))
    view j true p = subst (λ i. AreDistinct key (apply (state H) (pending H i ++ cs))) (sym (eqb-true j k p)) f.distinct
    view j false p = kept.views j

    own_claim : (j n : ℕ) (b : Bool) → b ≡ true → j ≡ k → touches (pending H k ++ cs) n ≡ true → touches (cond b (pending H j ++ cs) (pending H j)) n ≡ true
    own_claim j n true e same t = ap (λ i. touches (pending H i ++ cs) n) same ∙ t
    own_claim j n false e same t = absurd (false≢true e)

-- row numbers

new_below : (base : ℕ) (cs : List Change) (n was : ℕ) → base ≤ n → was < n → put_on_from n (filter (λ c. nat_le base (number_of c)) cs) ≡ true
    → greatest_in cs was < n + length cs
new_below base [] n was le lt e = omega arith
new_below base (c ∷ cs) n was le lt e = go (nat_le base (number_of c)) refl e (λ m w a b h. new_below base cs m w a b h)
  where
    at : (c : Change) → put_on_from n (c ∷ filter (λ d. nat_le base (number_of d)) cs) ≡ true
        → (number_of c ≡ n) × (put_on_from (suc n) (filter (λ d. nat_le base (number_of d)) cs) ≡ true)
    at (Put m x) h = let both = and_parts _ _ h in (eqb-true m n both.0, both.1)
    at (Drop m) h = absurd (false≢true h)

    go : (b : Bool) → nat_le base (number_of c) ≡ b
        → put_on_from n (cond b (c ∷ filter (λ d. nat_le base (number_of d)) cs) (filter (λ d. nat_le base (number_of d)) cs)) ≡ true
        → ((m w : ℕ) → base ≤ m → w < m → put_on_from m (filter (λ d. nat_le base (number_of d)) cs) ≡ true → greatest_in cs w < m + length cs)
        → greatest_in cs (max was (number_of c)) < n + suc (length cs)
    go true p h ih =
        let both = at c h in
        let same : number_of c ≡ n = both.0 in
        let more : greatest_in cs (max was (number_of c)) < suc n + length cs = ih (suc n) (max was (number_of c)) (omega arith) (omega arith) both.1 in
        omega arith
    go false p h ih =
        let less : number_of c < base = leb-false base (number_of c) p in
        let more : greatest_in cs (max was (number_of c)) < n + length cs = ih n (max was (number_of c)) le (omega arith) h in
        omega arith

pub write_over : (schema : Schema) (options : Options) (H : History) (k : ℕ) (cs : List Change) (S S' : Store) (L L' : Locks) (horizon : ℕ)
    → Over schema options H S L horizon → WriteFits schema H k cs → AreFreeKeys schema H k cs
    → ((n : ℕ) → chain S' n ≡ chain S n) → Takes schema H k cs S S' L L' → Over schema options (written H k cs) S' L' horizon
write_over schema options H k cs S S' L L' horizon o fit free chains takes = record {
  fits = (o.fits, fit);
  numbers = omega (arith, o.numbers, new_below (next H) cs (next H) (greatest H) (omega arith) (omega arith) fit.new, leb-true (length cs) 65536 fit.most);
  placement = record {
    schema_is = takes.schema_is ∙ o.placement.schema_is;
    chains = λ n. chains n ∙ o.placement.chains n;
    horizon_is = o.placement.horizon_is;
    bare = o.placement.bare;
  };
  slots = λ j n. ap (own j) (takes.slots n) ∙ write_slot k cs (pending H) apart j n (slot S n) (o.slots j n);
  locks = record {
    rows = λ j n. ap (is_holder j) (takes.rows n) ∙ write_row k cs (pending H) apart j n (row_holder L n) (o.locks.rows j n);
    values = λ j i v. ap (is_holder j) (takes.values i v) ∙ write_key schema H k cs j (slice_get schema.uniques i) v (value_keeper L i v) (λ key at. free i key at) (o.locks.values j i v);
  };
  keys = record {
    past = λ i key at. past_step key H (entry_of k (Write cs)) (o.keys.past i key at) (o.keys.kept i key at).content;
    kept = λ i key at. key_written key H k cs (free i key at) (o.keys.kept i key at);
  };
}
  where
    apart : RowsApart (added k cs (pending H))
    apart = rows_apart schema options (written H k cs) (o.fits, fit)
