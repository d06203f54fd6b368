-- One step of a loop over pairs of a row number and something for that row.
use Rattle.std.proofs.Common.{◌≡◌, ◌∙◌, refl, sym, ap, ℕ, Bool, true, false, ◌&&◌, ◌==◌, List, [], ◌∷◌, Option, None, Some, is_none, nat_lt, if◌then◌else◌, eqb-true}
use Rattle.std.specs.Cmp.{nat_eq_equiv}
use Rattle.std.proofs.lemmas.Bool.{false≢true}
use Rattle.s2_rowstore.specs.Chains.{Line, Body}
use Rattle.s2_rowstore.specs.Lines.{for_row, are_apart, have_room, line_at}

pub both : (a b : Bool) → (a && b) ≡ true → (a ≡ true) × (b ≡ true)
both true true e = (refl, refl)
both true false e = absurd (false≢true e)
both false b e = absurd (false≢true e)

pub none_from : {X : Type 0} (o : Option X) → is_none o ≡ true → o ≡ None
none_from None e = refl
none_from (Some x) e = absurd (false≢true e)

-- the first pair is done, and its row isn't among the others
pub pair_done : {X : Type 0} (apply : Option X → Body → Body) → ((b : Body) → apply None b ≡ b)
    → (p : ℕ × X) (rest items : List (ℕ × X)) → items ≡ p ∷ rest → are_apart items ≡ true
    → (cur next target : ℕ → Body) → ((n : ℕ) → next n ≡ (if p.0 == n then apply (Some p.1) (cur n) else cur n))
    → ((n : ℕ) → apply (for_row items n) (cur n) ≡ target n) → (n : ℕ) → apply (for_row rest n) (next n) ≡ target n
pair_done {X} apply nothing p rest items e apart cur next target step inv n =
    go (p.0 == n) refl (sym (ap (λ xs. apply (for_row xs n) (cur n)) e) ∙ inv n) where
      alone : for_row rest p.0 ≡ None
      alone = none_from _ (both _ _ (sym (ap (λ (xs : List (ℕ × X)). are_apart xs) e) ∙ apart)).0

      go : (b : Bool) → (p.0 == n) ≡ b → apply (if b then Some p.1 else for_row rest n) (cur n) ≡ target n → apply (for_row rest n) (next n) ≡ target n
      go true t h =
          let same : p.0 ≡ n = eqb-true p.0 n t in
          ap (λ o. apply o (next n)) (ap (for_row rest) (sym same) ∙ alone) ∙ nothing (next n) ∙ step n ∙ ap (λ b. if b then apply (Some p.1) (cur n) else cur n) t ∙ h
      go false t h = ap (apply (for_row rest n)) (step n ∙ ap (λ b. if b then apply (Some p.1) (cur n) else cur n) t) ∙ h

not_some : {X : Type 0} (x : X) → Some x ≡ None → ⊥
not_some x e = absurd (false≢true (ap is_none e))

-- the other rows keep their room
pub rest_room : {X : Type 0} (m id : ℕ) (cur next : List (ℕ × Line)) → ((n : ℕ) → (id == n) ≡ false → (line_at next n).room ≡ (line_at cur n).room)
    → (xs : List (ℕ × X)) → for_row xs id ≡ None → have_room m cur xs ≡ true → have_room m next xs ≡ true
rest_room m id cur next same [] none all = refl
rest_room {X} m id cur next same (x ∷ xs) none all = go (x.0 == id) refl none (λ e. rest_room m id cur next same xs e (both _ _ all).1) where
  go : (b : Bool) → (x.0 == id) ≡ b → (if b then Some x.1 else for_row xs id) ≡ None → (for_row xs id ≡ None → have_room m next xs ≡ true) → have_room m next (x ∷ xs) ≡ true
  go true t e ih = absurd (not_some x.1 e)
  go false t e ih =
      let here : nat_lt m (line_at next x.0).room ≡ true = ap (nat_lt m) (same x.0 (nat_eq_equiv.symm id x.0 ∙ t)) ∙ (both _ _ all).0 in
      ap (λ b. b && have_room m next xs) here ∙ ih e

-- the same after the first pair
pub room_left : {X : Type 0} (m : ℕ) (cur next : List (ℕ × Line)) (p : ℕ × X) (rest items : List (ℕ × X)) → items ≡ p ∷ rest → are_apart items ≡ true
    → ((n : ℕ) → (p.0 == n) ≡ false → (line_at next n).room ≡ (line_at cur n).room) → have_room m cur items ≡ true → have_room m next rest ≡ true
room_left {X} m cur next p rest items e apart same all =
    let all' : have_room m cur (p ∷ rest) ≡ true = sym (ap (λ (xs : List (ℕ × X)). have_room m cur xs) e) ∙ all in
    let apart' : are_apart (p ∷ rest) ≡ true = sym (ap (λ (xs : List (ℕ × X)). are_apart xs) e) ∙ apart in
    rest_room m p.0 cur next same rest (none_from _ (both _ _ apart').0) (both _ _ all').1
