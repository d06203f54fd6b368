-- Unique keys after each kind of entry, over the content and the open writes.
use Rattle.std.proofs.Common.{◌≡◌, ℕ, Bool, true, false, cond, ◌||◌, ◌==◌, List, [], ◌∷◌, Option, Some, None, is_some, refl, sym, ap, subst, ◌∙◌}
use Rattle.std.proofs.lemmas.Bool.{false≢true, both_ways, eqb-false, eq-eqb, or_left, or_right, false_from_ne_true}
use Rattle.s2_value.specs.declared.values.Value.{Value}
use Rattle.std.specs.Cmp.Lexicographic.{lists_equiv}
use Rattle.s2_value.specs.Order.{same_row, value_eq_equiv}
use Rattle.s2_value.specs.Rows.{key_of}
use Rattle.s2_model.specs.declared.entries.Change.{Change}
use Rattle.s2_model.specs.declared.entries.Change.TheVariants.{Put, Drop}
use Rattle.s2_model.specs.Table.{Table, RowOf, row_at, apply, touches, number_of}
use Rattle.s2_model.specs.Held.{has_key, some_has_key, put_has_key, has_value}
use Rattle.s2_model.proofs.Tables.{row_at-apply, row_at_untouched}
use Rattle.s2_state.specs.Slots.{put_by, last_from, last_of}
use Rattle.s2_state.specs.Keys.{AreDistinct, IsKeyKept}
use Rattle.s2_state.proofs.SlotSteps.{change_or, row_after_last, last_touches, last_from_is}

-- each row is held by one actor at most
abbrev pub RowsApart : (ℕ → List Change) → Type 0
RowsApart writes = (j k n : ℕ) → touches (writes j) n ≡ true → touches (writes k) n ≡ true → j ≡ k

-- rows that one has in a table are distinct in another where each of the two stands there too
pub distinct_by : (key : List ℕ) (rows : Table) → AreDistinct key rows → (m n : ℕ) (x y : RowOf) (a b : Option RowOf)
    → row_at rows m ≡ a → row_at rows n ≡ b → a ≡ Some x → b ≡ Some y → has_key key (key_of key x) y ≡ true → m ≡ n
distinct_by key rows d m n x y a b p q e f = d m n x y (p ∙ e) (q ∙ f)

-- where no row that the changes touch differs, they have the same values
pub has_value_same : (key : List ℕ) (rows new : Table) (cs : List Change) (v : List Value)
    → ((n : ℕ) → touches cs n ≡ true → row_at new n ≡ row_at rows n) → has_value key new cs v ≡ has_value key rows cs v
has_value_same key rows new [] v same = refl
has_value_same key rows new (c ∷ cs) v same =
    ap (λ o. (some_has_key key v o || put_has_key key v c) || has_value key new cs v) (same (number_of c) (or_left _ _ (eq-eqb (number_of c) (number_of c) refl)))
    ∙ ap (λ b. (some_has_key key v (row_at rows (number_of c)) || put_has_key key v c) || b) (has_value_same key rows new cs v (λ n t. same n (or_right _ _ t)))

-- the row that the last change of a number puts has its value among the changes
pub put_has_value : (key : List ℕ) (rows : Table) (cs : List Change) (n : ℕ) (x : RowOf) (v : List Value)
    → last_of cs n ≡ Some (Some x) → has_key key v x ≡ true → has_value key rows cs v ≡ true
put_has_value key rows [] n x v e has = absurd (cc)
put_has_value key rows (c ∷ cs) n x v e has = go c (number_of c == n) (λ f. put_has_value key rows cs n x v f has) e
  where
    at : (c : Change) → put_by c ≡ Some x → put_has_key key v c ≡ true
    at (Put m y) e = let same : y ≡ x = cc in ap (has_key key v) same ∙ has
    at (Drop m) e = absurd (cc)

    later : has_value key rows cs v ≡ true → (b : Bool) → (b || has_value key rows cs v) ≡ true
    later f true = refl
    later f false = f

    first : (c : Change) (o : Option (Option RowOf)) (t : Bool) → cond t o (Some (put_by c)) ≡ Some (Some x) → (o ≡ Some (Some x) → has_value key rows cs v ≡ true)
        → ((some_has_key key v (row_at rows (number_of c)) || put_has_key key v c) || has_value key rows cs v) ≡ true
    first c o true f rest = later (rest f) _
    first c o false f rest = or_left _ _ (or_right (some_has_key key v (row_at rows (number_of c))) _ (at c (let same : put_by c ≡ Some x = cc in same)))

    go : (c : Change) (b : Bool) → (last_of cs n ≡ Some (Some x) → has_value key rows cs v ≡ true) → last_from (cond b (Some (put_by c)) None) cs n ≡ Some (Some x)
        → ((some_has_key key v (row_at rows (number_of c)) || put_has_key key v c) || has_value key rows cs v) ≡ true
    go c true ih f = first c (last_of cs n) (touches cs n) (sym (last_from_is (Some (put_by c)) cs n) ∙ f) ih
    go c false ih f = later (ih f) _

-- the row after changes of its number is one that they put
pub touched_row : (key : List ℕ) (rows : Table) (cs : List Change) (n : ℕ) (x : RowOf) → touches cs n ≡ true → row_at (apply rows cs) n ≡ Some x
    → (v : List Value) → has_key key v x ≡ true → has_value key rows cs v ≡ true
touched_row key rows cs n x t e v has =
    put_has_value key rows cs n x v (go (last_of cs n) (last_touches cs n ∙ t) (sym (row_after_last (row_at rows n) cs n) ∙ sym (row_at-apply rows cs n) ∙ e)) has
  where
    go : (o : Option (Option RowOf)) → is_some o ≡ true → change_or o (row_at rows n) ≡ Some x → o ≡ Some (Some x)
    go None s f = absurd (false≢true s)
    go (Some y) s f = ap Some f

pub own_key : (key : List ℕ) (x : RowOf) → has_key key (key_of key x) x ≡ true
own_key key x = (lists_equiv value_eq_equiv).refl (key_of key x)

-- an actor's open writes are dropped, or stay
abbrev pub dropped : ℕ → (ℕ → List Change) → ℕ → List Change
dropped k writes j = cond (j == k) [] (writes j)

dropped_value : (key : List ℕ) (rows : Table) (k : ℕ) (writes : ℕ → List Change) (j : ℕ) (v : List Value)
    → has_value key rows (dropped k writes j) v ≡ true → (has_value key rows (writes j) v ≡ true) × ((j == k) ≡ false)
dropped_value key rows k writes j v e = go (j == k) refl e
  where
    go : (b : Bool) → (j == k) ≡ b → has_value key rows (cond b [] (writes j)) v ≡ true → (has_value key rows (writes j) v ≡ true) × ((j == k) ≡ false)
    go true p e = absurd (false≢true e)
    go false p e = (e, p)

-- ROLLBACK, and BEGIN
pub key_dropped : (key : List ℕ) (rows : Table) (k : ℕ) (writes : ℕ → List Change) → IsKeyKept key rows writes → IsKeyKept key rows (dropped k writes)
key_dropped key rows k writes kept = record {
  content = kept.content;
  views = λ j. view j (j == k);
  apart = λ i j v a b. kept.apart i j v (dropped_value key rows k writes i v a).0 (dropped_value key rows k writes j v b).0;
  claimed = λ j n x e has.
      let own = dropped_value key rows k writes j (key_of key x) has in
      ap (λ b. touches (cond b [] (writes j)) n) own.1 ∙ kept.claimed j n x e own.0;
}
  where
    view : (j : ℕ) (b : Bool) → AreDistinct key (apply rows (cond b [] (writes j)))
    view j true = kept.content
    view j false = kept.views j

-- PIN and UNPIN, and each entry that leaves the open writes
pub key_same : (key : List ℕ) (rows : Table) (writes after : ℕ → List Change) → ((j : ℕ) → after j ≡ writes j) → IsKeyKept key rows writes → IsKeyKept key rows after
key_same key rows writes after same kept = record {
  content = kept.content;
  views = λ j. subst (λ cs. AreDistinct key (apply rows cs)) (sym (same j)) (kept.views j);
  apart = λ i j v a b. kept.apart i j v (ap (λ cs. has_value key rows cs v) (sym (same i)) ∙ a) (ap (λ cs. has_value key rows cs v) (sym (same j)) ∙ b);
  claimed = λ j n x e has. ap (λ cs. touches cs n) (same j) ∙ kept.claimed j n x e (ap (λ cs. has_value key rows cs (key_of key x)) (sym (same j)) ∙ has);
}

-- a row that another actor's writes touch isn't touched by k's
other_untouched : (k : ℕ) (writes : ℕ → List Change) → RowsApart writes → (j : ℕ) → (j == k) ≡ false → (n : ℕ) → touches (writes j) n ≡ true → touches (writes k) n ≡ false
other_untouched k writes apart j ne n t = false_from_ne_true _ (λ own. eqb-false j k ne (apart j k n t own))

-- the values of the others after a COMMIT of k
pub commit_value : (key : List ℕ) (rows : Table) (k : ℕ) (writes : ℕ → List Change) → RowsApart writes → (j : ℕ) (v : List Value)
    → has_value key (apply rows (writes k)) (dropped k writes j) v ≡ cond (j == k) false (has_value key rows (writes j) v)
commit_value key rows k writes apart j v = go (j == k) refl
  where
    go : (b : Bool) → (j == k) ≡ b → has_value key (apply rows (writes k)) (cond b [] (writes j)) v ≡ cond b false (has_value key rows (writes j) v)
    go true p = refl
    go false p = has_value_same key rows (apply rows (writes k)) (writes j) v (λ n t. row_at_untouched rows (writes k) n (other_untouched k writes apart j p n t))

commit_has : (key : List ℕ) (rows : Table) (k : ℕ) (writes : ℕ → List Change) → RowsApart writes → (j : ℕ) (v : List Value)
    → has_value key (apply rows (writes k)) (dropped k writes j) v ≡ true → (has_value key rows (writes j) v ≡ true) × ((j == k) ≡ false)
commit_has key rows k writes apart j v e = go (j == k) refl (sym (commit_value key rows k writes apart j v) ∙ e)
  where
    go : (b : Bool) → (j == k) ≡ b → cond b false (has_value key rows (writes j) v) ≡ true → (has_value key rows (writes j) v ≡ true) × ((j == k) ≡ false)
    go true p f = absurd (false≢true f)
    go false p f = (f, p)

-- a view of another actor after a COMMIT of k: two rows of one key would both be seen by one of the two before, or the key's value be held by both
commit_view : (key : List ℕ) (rows : Table) (k : ℕ) (writes : ℕ → List Change) → RowsApart writes → IsKeyKept key rows writes
    → (j : ℕ) → (j == k) ≡ false → AreDistinct key (apply (apply rows (writes k)) (writes j))
commit_view key rows k writes apart kept j ne m n x y e f same = by (touches (writes j) m) refl (touches (writes j) n) refl (touches (writes k) m) refl (touches (writes k) n) refl
  where
    -- a row that the other doesn't touch is the one that k's view had, a row that k doesn't touch the one that the other's view had
    by_k : (i : ℕ) → touches (writes j) i ≡ false → row_at (apply (apply rows (writes k)) (writes j)) i ≡ row_at (apply rows (writes k)) i
    by_k i t = row_at_untouched (apply rows (writes k)) (writes j) i t

    by_j : (i : ℕ) → touches (writes k) i ≡ false → row_at (apply (apply rows (writes k)) (writes j)) i ≡ row_at (apply rows (writes j)) i
    by_j i t =
        row_at-apply (apply rows (writes k)) (writes j) i ∙ row_after_last _ (writes j) i
        ∙ ap (change_or (last_of (writes j) i)) (row_at_untouched rows (writes k) i t)
        ∙ sym (row_after_last (row_at rows i) (writes j) i) ∙ sym (row_at-apply rows (writes j) i)

    in_k : touches (writes j) m ≡ false → touches (writes j) n ≡ false → m ≡ n
    in_k p q = kept.views k m n x y (sym (by_k m p) ∙ e) (sym (by_k n q) ∙ f) same

    in_j : touches (writes k) m ≡ false → touches (writes k) n ≡ false → m ≡ n
    in_j p q = kept.views j m n x y (sym (by_j m p) ∙ e) (sym (by_j n q) ∙ f) same

    -- a row of j's and one of k's with one value
    never : (a b : ℕ) (z w : RowOf) → touches (writes j) a ≡ true → touches (writes k) b ≡ true
        → row_at (apply (apply rows (writes k)) (writes j)) a ≡ Some z → row_at (apply (apply rows (writes k)) (writes j)) b ≡ Some w
        → key_of key z ≡ key_of key w → ⊥
    never a b z w p q g h equal =
        let a_free : touches (writes k) a ≡ false = other_untouched k writes apart j ne a p in
        let b_free : touches (writes j) b ≡ false = false_from_ne_true _ (λ t. both_ways _ (other_untouched k writes apart j ne b t) q) in
        eqb-false j k ne
        (kept.apart j k (key_of key z)
        (touched_row key rows (writes j) a z p (sym (by_j a a_free) ∙ g) (key_of key z) (own_key key z))
        (touched_row key rows (writes k) b w q (sym (by_k b b_free) ∙ h) (key_of key z) (subst (λ v. has_key key v w ≡ true) (sym equal) (own_key key w))))

    one_key : key_of key y ≡ key_of key x
    one_key = same_row (key_of key y) (key_of key x) same

    by : (jm : Bool) → touches (writes j) m ≡ jm → (jn : Bool) → touches (writes j) n ≡ jn
        → (km : Bool) → touches (writes k) m ≡ km → (kn : Bool) → touches (writes k) n ≡ kn → m ≡ n
    by false a false b km c kn d = in_k a b
    by jm a jn b false c false d = in_j c d
    by true a jn b km c true d = absurd (never m n x y a d e f (sym one_key))
    by jm a true b true c kn d = absurd (never n m y x b c f e one_key)
    by true a false b true c false d = absurd (both_ways _ (other_untouched k writes apart j ne m a) c)
    by false a true b false c true d = absurd (both_ways _ (other_untouched k writes apart j ne n b) d)

-- COMMIT
pub key_committed : (key : List ℕ) (rows : Table) (k : ℕ) (writes : ℕ → List Change) → RowsApart writes → IsKeyKept key rows writes
    → IsKeyKept key (apply rows (writes k)) (dropped k writes)
key_committed key rows k writes apart kept = record {
  content = kept.views k;
  views = λ j. view j (j == k) refl;
  apart = λ i j v a b. kept.apart i j v (commit_has key rows k writes apart i v a).0 (commit_has key rows k writes apart j v b).0;
  claimed = λ j n x e has.
      let own = commit_has key rows k writes apart j (key_of key x) has in
      ap (λ b. touches (cond b [] (writes j)) n) own.1 ∙ claim j n x e own.0 own.1 (touches (writes k) n) refl;
}
  where
    view : (j : ℕ) (b : Bool) → (j == k) ≡ b → AreDistinct key (apply (apply rows (writes k)) (cond b [] (writes j)))
    view j true p = kept.views k
    view j false p = commit_view key rows k writes apart kept j p

    claim : (j n : ℕ) (x : RowOf) → row_at (apply rows (writes k)) n ≡ Some x → has_value key rows (writes j) (key_of key x) ≡ true → (j == k) ≡ false
        → (t : Bool) → touches (writes k) n ≡ t → touches (writes j) n ≡ true
    claim j n x e has ne true t = absurd (eqb-false j k ne (kept.apart j k (key_of key x) has (touched_row key rows (writes k) n x t e (key_of key x) (own_key key x))))
    claim j n x e has ne false t = kept.claimed j n x (sym (row_at_untouched rows (writes k) n t) ∙ e) has
