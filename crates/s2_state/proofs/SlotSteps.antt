-- The last change of each row, after further changes; the open writes of others after a COMMIT or ROLLBACK.
use Rattle.std.proofs.Common.{◌≡◌, ℕ, Bool, true, false, ◌||◌, cond, ◌==◌, List, [], ◌∷◌, ◌++◌, Option, Some, None, is_some, refl, sym, ap, ◌∙◌}
use Rattle.std.proofs.lemmas.Bool.{false≢true, true≢false, both_ways, eqb-true, eqb-false, ne_eqb}
use Rattle.s2_model.specs.declared.entries.Change.{Change}
use Rattle.s2_model.specs.declared.entries.Change.TheVariants.{Put, Drop}
use Rattle.s2_model.specs.Table.{RowOf, touches, number_of}
use Rattle.s2_model.proofs.Tables.{row_after, row_after_change}
use Rattle.s2_rowstore.specs.declared.chain.Slot.{Slot}
use Rattle.s2_rowstore.specs.Chains.{own, slot_after}
use Rattle.s2_state.specs.Slots.{put_by, last_from, last_of}

pub last_from-append : (was : Option (Option RowOf)) (cs ds : List Change) (n : ℕ) → last_from was (cs ++ ds) n ≡ last_from (last_from was cs n) ds n
last_from-append was [] ds n = refl
last_from-append was (c ∷ cs) ds n = last_from-append (cond (number_of c == n) (Some (put_by c)) was) cs ds n

-- what was there stays where no change is of the row; else it doesn't count
pub last_from_is : (was : Option (Option RowOf)) (cs : List Change) (n : ℕ) → last_from was cs n ≡ cond (touches cs n) (last_of cs n) was
last_from_is was [] n = refl
last_from_is was (c ∷ cs) n = go (number_of c == n) (last_from_is was cs n)
  where
    go : (b : Bool) → last_from was cs n ≡ cond (touches cs n) (last_of cs n) was → last_from (cond b (Some (put_by c)) was) cs n ≡ cond (b || touches cs n) (last_from (cond b (Some (put_by c)) None) cs n) was
    go true ih = refl
    go false ih = ih

pub last_touches : (cs : List Change) (n : ℕ) → is_some (last_of cs n) ≡ touches cs n
last_touches [] n = refl
last_touches (c ∷ cs) n = go (number_of c == n) (last_touches cs n)
  where
    some : (t : Bool) (o : Option (Option RowOf)) → is_some o ≡ t → is_some (cond t o (Some (put_by c))) ≡ true
    some true o e = e
    some false o e = refl

    go : (b : Bool) → is_some (last_of cs n) ≡ touches cs n → is_some (last_from (cond b (Some (put_by c)) None) cs n) ≡ (b || touches cs n)
    go true ih = ap is_some (last_from_is (Some (put_by c)) cs n) ∙ some (touches cs n) (last_of cs n) ih
    go false ih = ih

-- the row after changes is the one that the last of them puts
abbrev pub change_or : Option (Option RowOf) → Option RowOf → Option RowOf
change_or None was = was
change_or (Some change) was = change

pub row_after_last : (was : Option RowOf) (cs : List Change) (n : ℕ) → row_after was cs n ≡ change_or (last_of cs n) was
row_after_last was [] n = refl
row_after_last was (c ∷ cs) n =
    row_after_last (row_after_change was c n) cs n ∙ go c (number_of c == n) refl
  where
    at_change : (c : Change) (b : Bool) → (number_of c == n) ≡ b → row_after_change was c n ≡ cond b (put_by c) was
    at_change (Put m x) b e = ap (λ d. cond d (Some x) was) e
    at_change (Drop m) b e = ap (λ d. cond d None was) e

    over : (t : Bool) (o : Option (Option RowOf)) (x : Option RowOf) → is_some o ≡ t → change_or o x ≡ change_or (cond t o (Some x)) was
    over true None x e = absurd (false≢true e)
    over true (Some y) x e = refl
    over false None x e = refl
    over false (Some y) x e = absurd (true≢false e)

    go : (c : Change) (b : Bool) → (number_of c == n) ≡ b
        → change_or (last_of cs n) (row_after_change was c n) ≡ change_or (last_from (cond b (Some (put_by c)) None) cs n) was
    go c true e =
        ap (change_or (last_of cs n)) (at_change c true e)
        ∙ over (touches cs n) (last_of cs n) (put_by c) (last_touches cs n)
        ∙ ap (λ o. change_or o was) (sym (last_from_is (Some (put_by c)) cs n))
    go c false e = ap (change_or (last_of cs n)) (at_change c false e)

-- of k's open write nothing is left, and the others' stay
pub own_after : (j k : ℕ) (s : Option Slot) → own j (slot_after k s) ≡ cond (j == k) None (own j s)
own_after j k None = go (j == k)
  where
    go : (b : Bool) → own j None ≡ cond b None (own j None)
    go true = refl
    go false = refl
own_after j k (Some s) = go (s.holder == k) refl (j == k) refl (s.holder == j) refl
  where
    go : (b : Bool) → (s.holder == k) ≡ b → (d : Bool) → (j == k) ≡ d → (e : Bool) → (s.holder == j) ≡ e
        → own j (cond (is_some (cond b (Some s.change) None)) None (Some s)) ≡ cond d None (own j (Some s))
    go true p d q e r = both d e q r
      where
        both : (d e : Bool) → (j == k) ≡ d → (s.holder == j) ≡ e → None ≡ cond d None (cond (s.holder == j) (Some s.change) None)
        both true e q r = refl
        both false true q r = absurd (both_ways _ q (ap (λ i. i == k) (sym (eqb-true s.holder j r)) ∙ p))
        both false false q r = ap (λ t. cond t (Some s.change) None) (sym r)
    go false p true q e r = ap (λ t. cond t (Some s.change) None) (ne_eqb s.holder j (λ same. eqb-false s.holder k p (same ∙ eqb-true j k q)))
    go false p false q e r = refl
