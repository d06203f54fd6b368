-- What is ready stays ready, and what a list of ready rows says of each row.
use Rattle.std.proofs.Common.{◌≡◌, ◌∙◌, refl, sym, ap, subst, ℕ, ◌<◌, ◌≤◌, Bool, true, false, ◌||◌, ◌&&◌, ◌==◌, List, [], ◌∷◌, Option, None, Some, length, slice_index_or, All, arith, eqb-true, if◌then◌else◌}
use Rattle.std.specs.List.{list_any}
use Rattle.std.specs.BTreeMap.{BTreeMap, is_at}
use Rattle.std.specs.Ordering.{nat_cmp}
use Rattle.std.specs.Cmp.{nat_eq_equiv, unsigned_ties}
use Rattle.std.proofs.lemmas.Bool.{lt-ltb}
use Rattle.std.proofs.lemmas.Grind.{common_steps}
use Rattle.std.proofs.lemmas.List.Elements.{All-tail, All-head}
use Rattle.s2_value.specs.declared.values.Value.{Value}
use Rattle.s2_value.specs.declared.schemas.Schema.{Schema}
use Rattle.s2_rowstore.specs.Chains.{Line}
use Rattle.s2_rowstore.specs.Lines.{line_at, names_row, for_row, have_room}
use Rattle.s2_rowstore.specs.Keys.{KeepsNotes}
use Rattle.s2_rowstore.specs.Prepared.{IsReady, IsReadyChange, KeepsRoom}

pub names_any : (n : ℕ) (ids : List ℕ) → list_any (is_at (nat_cmp n)) ids ≡ names_row ids n
names_any n [] = refl
names_any n (id ∷ ids) =
    ap (λ a. a || list_any (is_at (nat_cmp n)) ids) (sym (unsigned_ties n id) ∙ nat_eq_equiv.symm n id) ∙ ap (λ a. (id == n) || a) (names_any n ids)

pub ready_stays : (schema : Schema) (notes notes' : List (BTreeMap (List Value) (List ℕ))) (lines lines' : List (ℕ × Line)) (p : ℕ × List Value)
    → KeepsNotes notes notes' → KeepsRoom lines lines' → IsReady schema notes lines p → IsReady schema notes' lines' p
ready_stays schema notes notes' lines lines' p k r ready = record {
  room = (let a : 1 < (line_at lines p.0).room = ready.room in let b : (line_at lines p.0).room ≤ (line_at lines' p.0).room = r p.0 in omega arith);
  noted = λ j lt. k j _ _ (ready.noted j lt);
}

pub change_stays : (schema : Schema) (notes notes' : List (BTreeMap (List Value) (List ℕ))) (lines lines' : List (ℕ × Line)) (ids ids' : List ℕ) (p : ℕ × Option (List Value))
    → KeepsNotes notes notes' → KeepsRoom lines lines' → ((n : ℕ) → names_row ids n ≡ true → names_row ids' n ≡ true) → IsReadyChange schema notes lines ids p → IsReadyChange schema notes' lines' ids' p
change_stays schema notes notes' lines lines' ids ids' p k r i ready = record {
  room = (let a : 0 < (line_at lines p.0).room = ready.room in let b : (line_at lines p.0).room ≤ (line_at lines' p.0).room = r p.0 in omega arith);
  noted = λ row e j lt. k j _ _ (ready.noted row e j lt);
  listed = i _ ready.listed;
}

-- what holds of each pair holds of what the list has for a row
pub at_row : {X : Type 0} (P : ℕ × X → Type 0) (xs : List (ℕ × X)) → All P xs → (n : ℕ) (x : X) → for_row xs n ≡ Some x → P (n, x)
at_row {X} P [] all n x e = absurd (none_is_not_some x e) where
  none_is_not_some : (x : X) → None ≡ Some x → ⊥
  none_is_not_some x e = cc
at_row {X} P (p ∷ ps) all n x e = go (p.0 == n) refl e (at_row P ps (All-tail P p ps all) n x) where
  go : (b : Bool) → (p.0 == n) ≡ b → (if b then Some p.1 else for_row ps n) ≡ Some x → (for_row ps n ≡ Some x → P (n, x)) → P (n, x)
  go true t e ih =
      let here : P (p.0, p.1) = All-head P p ps all in
      let value : p.1 ≡ x = cc in
      let Q : ℕ → Type 0 = λ m. P (m, p.1) in
      let R : X → Type 0 = λ y. P (n, y) in
      subst R value (subst Q (eqb-true p.0 n t) here)
  go false t e ih = ih e

pub room_from : {X : Type 0} (m : ℕ) (lines : List (ℕ × Line)) (xs : List (ℕ × X)) → All (λ p. m < (line_at lines p.0).room) xs → have_room m lines xs ≡ true
room_from m lines [] all = refl
room_from {X} m lines (p ∷ ps) all =
    let P : ℕ × X → Type 0 = λ p. m < (line_at lines p.0).room in
    ap (λ b. b && have_room m lines ps) (lt-ltb m _ (All-head P p ps all)) ∙ room_from m lines ps (All-tail P p ps all)

-- a place within a list has one value, whatever the default
pub same_default : {X : Type 0} (xs : List X) (i : ℕ) (x d : X) → i < length xs → x ≡ slice_index_or xs i x → x ≡ slice_index_or xs i d
same_default xs i x d lt e = e ∙ within xs i x d lt where
  within : {X : Type 0} (xs : List X) (i : ℕ) (x d : X) → i < length xs → slice_index_or xs i x ≡ slice_index_or xs i d
  within xs i x d lt = grind (arith, common_steps)

pub above_none : (m : ℕ) → 1 ≤ m → 0 < m
above_none m le = omega arith

pub above_one : (m : ℕ) → 2 ≤ m → 1 < m
above_one m le = omega arith

pub ready_rooms : (schema : Schema) (notes : List (BTreeMap (List Value) (List ℕ))) (lines : List (ℕ × Line)) (rows : List (ℕ × List Value))
    → All (IsReady schema notes lines) rows → All (λ p. 1 < (line_at lines p.0).room) rows
ready_rooms schema notes lines rows all k d lt = (all k d lt).room

pub change_rooms : (schema : Schema) (notes : List (BTreeMap (List Value) (List ℕ))) (lines : List (ℕ × Line)) (ids : List ℕ) (changes : List (ℕ × Option (List Value)))
    → All (IsReadyChange schema notes lines ids) changes → All (λ p. 0 < (line_at lines p.0).room) changes
change_rooms schema notes lines ids changes all k d lt = (all k d lt).room
