-- What versions that begin and open writes that are set keep of the store.
use Rattle.std.proofs.Common.{◌≡◌, ◌∙◌, refl, sym, ap, subst, inl, inr, ◌⊎◌, ℕ, ◌<◌, zero, suc, Bool, true, false, ◌||◌, ◌==◌, List, [], ◌∷◌, ◌++◌, Option, None, Some, is_some, length, slice_set, slice_index_or, All, if◌then◌else◌, eqb-true, arith}
use Rattle.std.specs.List.{list_any}
use Rattle.std.specs.BTreeMap.{BTreeMap}
use Rattle.std.specs.BTreeSet.{BTreeSet}
use Rattle.std.specs.Cmp.{nat_eq_equiv}
use Rattle.std.proofs.lemmas.Bool.{false≢true}
use Rattle.std.proofs.lemmas.List.Folds.{list_any-append}
use Rattle.s2_value.specs.declared.values.Value.{Value}
use Rattle.s2_value.specs.declared.schemas.Schema.{Schema}
use Rattle.s2_value.specs.Schemas.{keys_of, key}
use Rattle.s2_value.specs.Order.{same_row}
use Rattle.s2_rowstore.specs.declared.chain.Version.{Version}
use Rattle.s2_rowstore.specs.Chains.{Line, Body, own, begun}
use Rattle.s2_rowstore.specs.Lines.{body_at, names_row, for_row, with_begun, with_slot}
use Rattle.s2_rowstore.specs.Keys.{row_has, slot_has, body_has, ids_of, noted_at, KeepsNotes, IsNotedRow}
use Rattle.s2_rowstore.specs.Store.{IsPosted, IsListed, places_of}
use Rattle.s2_rowstore.specs.Prepared.{IsReady, IsReadyChange, SameBodies}
use Rattle.s2_rowstore.proofs.Prepared.{at_row}
use Rattle.s2_rowstore.proofs.Kept.{ids_of_get, ids_of_set}

either_or : (a b : Bool) → (a || b) ≡ true → (a ≡ true) ⊎ (b ≡ true)
either_or true b e = inl refl
either_or false b e = inr e

left_or : (a b : Bool) → a ≡ true → (a || b) ≡ true
left_or true b e = refl
left_or false b e = absurd (false≢true e)

right_or : (a b : Bool) → b ≡ true → (a || b) ≡ true
right_or true b e = refl
right_or false b e = e

no_or : (a : Bool) → (a || false) ≡ true → a ≡ true
no_or true e = refl
no_or false e = e

-- a row has a key after a version began if it had it before, or the version has it
abbrev Gained : List ℕ → List Value → Body → Option (List Value) → Type 0
Gained places q b o = (body_has places q b ≡ true) ⊎ ((row : List Value) × (o ≡ Some row) × (row_has places q row ≡ true))

has_begun : (places : List ℕ) (q : List Value) (t : ℕ) (o : Option (List Value)) (b : Body) → body_has places q (with_begun t o b) ≡ true → Gained places q b o
has_begun places q t None b e = inl e
has_begun places q t (Some row) b e = split (either_or _ _ e) where
  H : Version → Bool
  H v = row_has places q v.row

  parts : (list_any (λ v. row_has places q v.row) b.0 ≡ true) ⊎ ((row_has places q row || false) ≡ true) → Gained places q b (Some row)
  parts (inl h) = inl (left_or _ _ h)
  parts (inr h) = inr (row, refl, no_or _ h)

  split : (list_any (λ v. row_has places q v.row) (b.0 ++ begun t (Some row)) ≡ true) ⊎ (slot_has places q b.1 ≡ true) → Gained places q b (Some row)
  split (inl h) = parts (either_or _ _ (sym (list_any-append (λ v. row_has places q v.row) b.0 (begun t (Some row))) ∙ h))
  split (inr h) = inl (right_or _ _ h)

has_slotted : (places : List ℕ) (q : List Value) (k : ℕ) (o : Option (Option (List Value))) (b : Body) → body_has places q (with_slot k o b) ≡ true
    → (body_has places q b ≡ true) ⊎ ((row : List Value) × (o ≡ Some (Some row)) × (row_has places q row ≡ true))
has_slotted places q k None b e = inl e
has_slotted places q k (Some None) b e = inl (left_or _ _ (no_or _ e))
has_slotted places q k (Some (Some row)) b e = split (either_or _ _ e) where
  split : (list_any (λ v. row_has places q v.row) b.0 ≡ true) ⊎ (row_has places q row ≡ true) → (body_has places q b ≡ true) ⊎ ((r : List Value) × (Some (Some row) ≡ Some (Some r)) × (row_has places q r ≡ true))
  split (inl h) = inl (left_or _ _ h)
  split (inr h) = inr (row, refl, h)

-- the note of a row's key, for a key that the row has
noted_key : (schema : Schema) (notes : List (BTreeMap (List Value) (List ℕ))) (n j : ℕ) (q row : List Value) → j < length (keys_of schema) → IsNotedRow schema notes n row → row_has (places_of schema j) q row ≡ true → noted_at notes j q n ≡ true
noted_key schema notes n j q row lt noted has =
    let Q : List Value → Type 0 = λ k. noted_at notes j k n ≡ true in
    subst Q (same_row (key schema j row) q has) (noted j lt)

pub posted_more : (schema : Schema) (notes notes' : List (BTreeMap (List Value) (List ℕ))) (old new : List (ℕ × Line))
    → SameBodies old new → KeepsNotes notes notes' → IsPosted schema notes old → IsPosted schema notes' new
posted_more schema notes notes' old new same kept posted j q n lt e =
    let F : Body → Bool = λ b. body_has (places_of schema j) q b in
    kept j q n (posted j q n lt (sym (ap F (same n)) ∙ e))

pub posted_begun : (schema : Schema) (notes : List (BTreeMap (List Value) (List ℕ))) (old new : List (ℕ × Line)) (t : ℕ) (rows : List (ℕ × List Value))
    → ((n : ℕ) → body_at new n ≡ with_begun t (for_row rows n) (body_at old n)) → All (IsReady schema notes old) rows → IsPosted schema notes old → IsPosted schema notes new
posted_begun schema notes old new t rows same ready posted j q n lt e = split (has_begun (places_of schema j) q t (for_row rows n) (body_at old n) (sym (ap F (same n)) ∙ e)) where
  F : Body → Bool
  F b = body_has (places_of schema j) q b

  split : Gained (places_of schema j) q (body_at old n) (for_row rows n) → noted_at notes j q n ≡ true
  split (inl h) = posted j q n lt h
  split (inr h) = noted_key schema notes n j q h.0 lt (at_row (IsReady schema notes old) rows ready n h.0 h.1).noted h.2

pub posted_put : (schema : Schema) (notes : List (BTreeMap (List Value) (List ℕ))) (old new : List (ℕ × Line)) (ids : List ℕ) (k : ℕ) (changes : List (ℕ × Option (List Value)))
    → ((n : ℕ) → body_at new n ≡ with_slot k (for_row changes n) (body_at old n)) → All (IsReadyChange schema notes old ids) changes → IsPosted schema notes old → IsPosted schema notes new
posted_put schema notes old new ids k changes same ready posted j q n lt e = split (has_slotted (places_of schema j) q k (for_row changes n) (body_at old n) (sym (ap F (same n)) ∙ e)) where
  F : Body → Bool
  F b = body_has (places_of schema j) q b

  split : (body_has (places_of schema j) q (body_at old n) ≡ true) ⊎ ((row : List Value) × (for_row changes n ≡ Some (Some row)) × (row_has (places_of schema j) q row ≡ true)) → noted_at notes j q n ≡ true
  split (inl h) = posted j q n lt h
  split (inr h) = noted_key schema notes n j q h.0 lt ((at_row (IsReadyChange schema notes old ids) changes ready n (Some h.0) h.1).noted h.0 refl) h.2

-- ---- open writes
pub listed_begun : (changed : List (BTreeSet ℕ)) (old new : List (ℕ × Line)) (t : ℕ) (rows : List (ℕ × List Value))
    → ((n : ℕ) → body_at new n ≡ with_begun t (for_row rows n) (body_at old n)) → IsListed changed old → IsListed changed new
listed_begun changed old new t rows same listed k n small e =
    let F : Body → Bool = λ b. is_some (own k b.1) in
    listed k n small (sym (go (for_row rows n)) ∙ sym (ap F (same n)) ∙ e) where
      go : (o : Option (List Value)) → is_some (own k (with_begun t o (body_at old n)).1) ≡ is_some (own k (body_at old n).1)
      go None = refl
      go (Some row) = refl

ids_of_same : (xs : List (BTreeSet ℕ)) (k : ℕ) (s : BTreeSet ℕ) → k < length xs → ids_of (slice_set xs k s) k ≡ s.keys
ids_of_same [] k s lt = absurd (omega arith)
ids_of_same (x ∷ xs) zero s lt = refl
ids_of_same (x ∷ xs) (suc k) s lt = ids_of_same xs k s (omega arith)

names_in : (changed : List (BTreeSet ℕ)) (k j n : ℕ) (s s' : BTreeSet ℕ) → k < 17 → length changed ≡ 17 → s ≡ slice_index_or changed k s
    → (names_row s.keys n ≡ true → names_row s'.keys n ≡ true) → names_row (ids_of changed j) n ≡ true → names_row (ids_of (slice_set changed k s') j) n ≡ true
names_in changed k j n s s' lt all is more h = go (k == j) refl where
  go : (b : Bool) → (k == j) ≡ b → names_row (ids_of (slice_set changed k s') j) n ≡ true
  go true t =
      let same : k ≡ j = eqb-true k j t in
      let F : BTreeSet ℕ → Bool = λ s. names_row s.keys n in
      let was : names_row s.keys n ≡ true = ap F is ∙ sym (ap (λ ids. names_row ids n) (ids_of_get changed k s (omega arith))) ∙ ap (λ i. names_row (ids_of changed i) n) same ∙ h in
      ap (λ i. names_row (ids_of (slice_set changed k s') i) n) (sym same) ∙ ap (λ ids. names_row ids n) (ids_of_same changed k s' (omega arith)) ∙ more was
  go false f =
      let ne : k ≡ j → ⊥ = λ same. false≢true (sym f ∙ sym (ap (λ i. k == i) same) ∙ nat_eq_equiv.refl k) in
      ap (λ ids. names_row ids n) (ids_of_set changed k j s' ne) ∙ h

pub listed_more : (changed : List (BTreeSet ℕ)) (k : ℕ) (s s' : BTreeSet ℕ) (old new : List (ℕ × Line)) → k < 17 → length changed ≡ 17 → s ≡ slice_index_or changed k s
    → ((n : ℕ) → names_row s.keys n ≡ true → names_row s'.keys n ≡ true) → SameBodies old new → IsListed changed old → IsListed (slice_set changed k s') new
listed_more changed k s s' old new lt all is more same listed j n small e =
    let F : Body → Bool = λ b. is_some (own j b.1) in
    names_in changed k j n s s' lt all is (more n) (listed j n small (sym (ap F (same n)) ∙ e))

pub listed_put : (changed : List (BTreeSet ℕ)) (k : ℕ) (s s' : BTreeSet ℕ) (schema : Schema) (notes : List (BTreeMap (List Value) (List ℕ))) (old new : List (ℕ × Line)) (changes : List (ℕ × Option (List Value)))
    → k < 17 → length changed ≡ 17 → s ≡ slice_index_or changed k s → ((n : ℕ) → names_row s.keys n ≡ true → names_row s'.keys n ≡ true)
    → ((n : ℕ) → body_at new n ≡ with_slot k (for_row changes n) (body_at old n)) → All (IsReadyChange schema notes old s'.keys) changes → IsListed changed old → IsListed (slice_set changed k s') new
listed_put changed k s s' schema notes old new changes lt all is more same ready listed j n small e =
    let F : Body → Bool = λ b. is_some (own j b.1) in
    go (for_row changes n) refl (sym (ap F (same n)) ∙ e) where
      mine : (b : Bool) → (k == j) ≡ b → (c : Option (List Value)) → names_row s'.keys n ≡ true → is_some (if b then Some c else None) ≡ true → names_row (ids_of (slice_set changed k s') j) n ≡ true
      mine true t c named e = ap (λ i. names_row (ids_of (slice_set changed k s') i) n) (sym (eqb-true k j t)) ∙ ap (λ ids. names_row ids n) (ids_of_same changed k s' (omega arith)) ∙ named
      mine false t c named e = absurd (false≢true e)

      go : (o : Option (Option (List Value))) → for_row changes n ≡ o → is_some (own j (with_slot k o (body_at old n)).1) ≡ true → names_row (ids_of (slice_set changed k s') j) n ≡ true
      go None f e = names_in changed k j n s s' lt all is (more n) (listed j n small e)
      go (Some c) f e = mine (k == j) refl c (at_row (IsReadyChange schema notes old s'.keys) changes ready n c f).listed e

pub listed_same : (changed : List (BTreeSet ℕ)) (old new : List (ℕ × Line)) → SameBodies old new → IsListed changed old → IsListed changed new
listed_same changed old new same listed k n small e =
    let F : Body → Bool = λ b. is_some (own k b.1) in
    listed k n small (sym (ap F (same n)) ∙ e)
