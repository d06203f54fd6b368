-- What the steps of a row keep of its keys and of its open write.
use Rattle.std.proofs.Common.{◌≡◌, ◌∙◌, refl, sym, ap, ℕ, ◌<◌, zero, suc, Bool, true, false, cond, ◌||◌, ◌==◌, not, List, [], ◌∷◌, ◌++◌, Option, None, Some, is_some, if◌then◌else◌, slice_set, slice_index_or, length, arith}
use Rattle.std.specs.List.{list_any}
use Rattle.std.proofs.Math.ListN.{length-set}
use Rattle.std.specs.BTreeMap.{BTreeMap}
use Rattle.std.specs.BTreeSet.{BTreeSet}
use Rattle.std.proofs.lemmas.Bool.{false≢true}
use Rattle.std.proofs.lemmas.List.Folds.{list_any-append}
use Rattle.s2_value.specs.declared.values.Value.{Value}
use Rattle.s2_value.specs.declared.schemas.Schema.{Schema}
use Rattle.s2_rowstore.specs.declared.chain.Version.{Version}
use Rattle.s2_rowstore.specs.declared.chain.Slot.{Slot}
use Rattle.s2_rowstore.specs.Chains.{Line, Body, own, slot_after, chain_after, ended, begun, is_living, is_done, kept}
use Rattle.s2_rowstore.specs.Lines.{body_at, names_row, committed, undone}
use Rattle.s2_rowstore.specs.Keys.{row_has, slot_has, body_has, ids_of}
use Rattle.s2_rowstore.specs.Store.{IsPosted, IsListed, places_of}

abbrev slot_in : Body → Option Slot
slot_in b = b.1

-- ---- tests
or_false : (a : Bool) → (a || false) ≡ a
or_false true = refl
or_false false = refl

or_left : (a b : Bool) → a ≡ true → (a || b) ≡ true
or_left true b e = refl
or_left false b e = absurd (false≢true e)

or_first : (a b : Bool) → (a || false) ≡ true → (a || b) ≡ true
or_first true b e = refl
or_first false b e = absurd (false≢true e)

or_right : (a b : Bool) → b ≡ true → (a || b) ≡ true
or_right true b e = refl
or_right false b e = e

or_more : (r a b : Bool) → (a ≡ true → b ≡ true) → (r || a) ≡ true → (r || b) ≡ true
or_more true a b more e = refl
or_more false a b more e = more e

or_swap : (a b r : Bool) → (a ≡ true → b ≡ true) → (a || r) ≡ true → (b || r) ≡ true
or_swap true b r more e = or_left b r (more refl)
or_swap false b r more e = or_right b r e

-- ---- keys
any_ended : (places : List ℕ) (q : List Value) (t : ℕ) (vs : List Version) → list_any (λ v. row_has places q v.row) (ended t vs) ≡ list_any (λ v. row_has places q v.row) vs
any_ended places q t [] = refl
any_ended places q t (v ∷ vs) =
    elim (is_living v) as (λ b. (row_has places q (if b then record { row = v.row; begin = v.begin; stop = Some t } else v).row || list_any (λ v. row_has places q v.row) (ended t vs)) ≡ (row_has places q v.row || list_any (λ v. row_has places q v.row) vs))
    [ true ↦ ap (λ b. row_has places q v.row || b) (any_ended places q t vs) | false ↦ ap (λ b. row_has places q v.row || b) (any_ended places q t vs) ]

pub has_ended : (places : List ℕ) (q : List Value) (t : ℕ) (b : Body) → body_has places q (ended t b.0, b.1) ≡ body_has places q b
has_ended places q t b = ap (λ a. a || slot_has places q b.1) (any_ended places q t b.0)

pub has_one_ended : (here : Bool) (places : List ℕ) (q : List Value) (t : ℕ) (b : Body) → body_has places q (if here then (ended t b.0, b.1) else b) ≡ body_has places q b
has_one_ended true places q t b = has_ended places q t b
has_one_ended false places q t b = refl

pub slot_one_ended : (here : Bool) (t : ℕ) (b : Body) → slot_in (if here then (ended t b.0, b.1) else b) ≡ slot_in b
slot_one_ended true t b = refl
slot_one_ended false t b = refl

-- a change that begins has the keys that it had as an open write
any_begun : (places : List ℕ) (q : List Value) (t : ℕ) (s : Slot) → list_any (λ v. row_has places q v.row) (begun t s.change) ≡ slot_has places q (Some s)
any_begun places q t s = go s.change where
  go : (c : Option (List Value)) → list_any (λ v. row_has places q v.row) (begun t c) ≡ slot_has places q (Some (record { holder = s.holder; change = c }))
  go None = refl
  go (Some row) = or_false (row_has places q row)

pub has_committed : (places : List ℕ) (q : List Value) (k t : ℕ) (b : Body) → body_has places q (committed k t b) ≡ body_has places q b
has_committed places q k t (vs, None) = refl
has_committed places q k t (vs, Some s) = go (s.holder == k) where
  H : Version → Bool
  H v = row_has places q v.row

  go : (b : Bool) → body_has places q (chain_after t (if b then Some s.change else None) vs, (if is_some (if b then Some s.change else None) then None else Some s)) ≡ body_has places q (vs, Some s)
  go true = or_false (list_any (λ v. row_has places q v.row) (ended t vs ++ begun t s.change)) ∙ list_any-append (λ v. row_has places q v.row) (ended t vs) (begun t s.change)
      ∙ ap (λ a. a || list_any (λ v. row_has places q v.row) (begun t s.change)) (any_ended places q t vs)
      ∙ ap (λ a. list_any (λ v. row_has places q v.row) vs || a) (any_begun places q t s)
  go false = refl

pub has_undone : (places : List ℕ) (q : List Value) (k : ℕ) (b : Body) → body_has places q (undone k b) ≡ true → body_has places q b ≡ true
has_undone places q k b e = go (is_some (own k b.1)) e where
  go : (t : Bool) → body_has places q (b.0, (if t then None else b.1)) ≡ true → body_has places q b ≡ true
  go true e = or_first _ (slot_has places q b.1) e
  go false e = e

any_kept : (places : List ℕ) (q : List Value) (h : ℕ) (vs : List Version) → list_any (λ v. row_has places q v.row) (kept h vs) ≡ true → list_any (λ v. row_has places q v.row) vs ≡ true
any_kept places q h [] e = e
any_kept places q h (v ∷ vs) e = go (not (is_done h v.stop)) (any_kept places q h vs) e where
  go : (t : Bool) → (list_any (λ v. row_has places q v.row) (kept h vs) ≡ true → list_any (λ v. row_has places q v.row) vs ≡ true)
      → list_any (λ v. row_has places q v.row) (cond t (v ∷ kept h vs) (kept h vs)) ≡ true → (row_has places q v.row || list_any (λ v. row_has places q v.row) vs) ≡ true
  go true ih e = or_more (row_has places q v.row) _ _ ih e
  go false ih e = or_right (row_has places q v.row) _ (ih e)

pub has_kept : (places : List ℕ) (q : List Value) (h : ℕ) (b : Body) → body_has places q (kept h b.0, b.1) ≡ true → body_has places q b ≡ true
has_kept places q h b e = or_swap _ _ (slot_has places q b.1) (any_kept places q h b.0) e

-- ---- open writes
-- a row that isn't among the actor's has no open write of it
pub done_everywhere : (k t : ℕ) (names : Bool) (b : Body) → (is_some (own k b.1) ≡ true → names ≡ true) → (if names then committed k t b else b) ≡ committed k t b
done_everywhere k t true b listed = refl
done_everywhere k t false b listed = go (own k b.1) (λ e. absurd (false≢true (listed e))) where
  go : (o : Option (Option (List Value))) → (is_some o ≡ true → ⊥) → b ≡ (chain_after t o b.0, (if is_some o then None else b.1))
  go None n = refl
  go (Some c) n = absurd (n refl)

pub undone_everywhere : (k : ℕ) (names : Bool) (b : Body) → (is_some (own k b.1) ≡ true → names ≡ true) → (if names then undone k b else b) ≡ undone k b
undone_everywhere k true b listed = refl
undone_everywhere k false b listed = go (is_some (own k b.1)) (λ e. absurd (false≢true (listed e))) where
  go : (o : Bool) → (o ≡ true → ⊥) → b ≡ (b.0, (if o then None else b.1))
  go false n = refl
  go true n = absurd (n refl)

pub ids_of_set : (xs : List (BTreeSet ℕ)) (k j : ℕ) (s : BTreeSet ℕ) → (k ≡ j → ⊥) → ids_of (slice_set xs k s) j ≡ ids_of xs j
ids_of_set [] k j s ne = refl
ids_of_set (x ∷ xs) zero zero s ne = absurd (ne refl)
ids_of_set (x ∷ xs) zero (suc j) s ne = refl
ids_of_set (x ∷ xs) (suc k) zero s ne = refl
ids_of_set (x ∷ xs) (suc k) (suc j) s ne = ids_of_set xs k j s (λ e. ne (ap suc e))

-- when k's open writes are over, its list may be emptied
pub still_listed : (changed : List (BTreeSet ℕ)) (k : ℕ) (s : BTreeSet ℕ) (old new : List (ℕ × Line))
    → ((n : ℕ) → (body_at new n).1 ≡ slot_after k (body_at old n).1) → IsListed changed old → IsListed (slice_set changed k s) new
still_listed changed k s old new over listed j n small e = go (own k (body_at old n).1) refl where
  slot : Option Slot
  slot = (body_at old n).1

  go : (o : Option (Option (List Value))) → own k (body_at old n).1 ≡ o → names_row (ids_of (slice_set changed k s) j) n ≡ true
  go (Some c) is = absurd (false≢true (sym (ap (λ (o : Option Slot). is_some (own j o)) (over n ∙ ap (λ o. if is_some o then None else (body_at old n).1) is)) ∙ e))
  go None is =
      let had : is_some (own j (body_at old n).1) ≡ true = sym (ap (λ (o : Option Slot). is_some (own j o)) (over n ∙ ap (λ o. if is_some o then None else (body_at old n).1) is)) ∙ e in
      let ne : k ≡ j → ⊥ = λ same. false≢true (sym (ap is_some is) ∙ ap (λ i. is_some (own i (body_at old n).1)) same ∙ had) in
      ap (λ ids. names_row ids n) (ids_of_set changed k j s ne) ∙ listed j n small had

pub listed_as : (changed : List (BTreeSet ℕ)) (old new : List (ℕ × Line)) → ((n : ℕ) → (body_at new n).1 ≡ (body_at old n).1) → IsListed changed old → IsListed changed new
listed_as changed old new same listed j n small e = listed j n small (sym (ap (λ (o : Option Slot). is_some (own j o)) (same n)) ∙ e)

-- the notes serve as long as no row has a key that it hadn't
pub posted_as : (schema : Schema) (notes : List (BTreeMap (List Value) (List ℕ))) (old new : List (ℕ × Line))
    → ((places : List ℕ) (q : List Value) (n : ℕ) → body_has places q (body_at new n) ≡ true → body_has places q (body_at old n) ≡ true) → IsPosted schema notes old → IsPosted schema notes new
posted_as schema notes old new had posted j q n lt e = posted j q n lt (had (places_of schema j) q n e)

pub ids_of_get : (xs : List (BTreeSet ℕ)) (k : ℕ) (d : BTreeSet ℕ) → k < length xs → ids_of xs k ≡ (slice_index_or xs k d).keys
ids_of_get [] k d lt = absurd (omega arith)
ids_of_get (x ∷ xs) zero d lt = refl
ids_of_get (x ∷ xs) (suc k) d lt = ids_of_get xs k d (omega arith)

pub listed_here : (changed : List (BTreeSet ℕ)) (lines : List (ℕ × Line)) (k n : ℕ) (s : BTreeSet ℕ) → s ≡ slice_index_or changed k s → k < 17 → length changed ≡ 17
    → IsListed changed lines → is_some (own k (body_at lines n).1) ≡ true → names_row s.keys n ≡ true
listed_here changed lines k n s is small all listed e =
    let F : BTreeSet ℕ → Bool = λ s. names_row s.keys n in
    ap F is ∙ sym (ap (λ ids. names_row ids n) (ids_of_get changed k s (omega arith))) ∙ listed k n small e

pub actors_stay : (changed : List (BTreeSet ℕ)) (k : ℕ) (s : BTreeSet ℕ) → length changed ≡ 17 → length (slice_set changed k s) ≡ 17
actors_stay changed k s e = length-set changed k s ∙ e
