-- Where an actor's pin is: after entries of others, and after a reply's entries.
use Rattle.std.proofs.Common.{◌≡◌, ℕ, suc, ◌≤◌, Bool, true, false, cond, List, [], ◌∷◌, ◌++◌, Option, Some, None, length, map, take, drop, reverse, refl, sym, ap, ◌∙◌, subst, arith}
use Rattle.std.specs.Prelude.{◌||◌, ◌==◌, is_some, nat_lt, unwrap_or}
use Rattle.std.proofs.lemmas.Bool.{false≢true, eq-eqb, ne_eqb}
use Rattle.std.proofs.lemmas.Option.{none-some}
use Rattle.std.proofs.lemmas.List.{reverse-append, take-append-drop, take-take}
use Rattle.s2_value.specs.declared.schemas.Schema.{Schema}
use Rattle.s2_model.specs.declared.entries.Change.{Change}
use Rattle.s2_model.specs.declared.entries.Entry.{Entry}
use Rattle.s2_model.specs.declared.entries.What.{What}
use Rattle.s2_model.specs.declared.entries.What.TheVariants as what
use Rattle.s2_model.specs.declared.replies.Refusal.{Refusal}
use Rattle.s2_model.specs.declared.replies.Refusal.TheVariants as refusal
use Rattle.s2_model.specs.declared.replies.Reply.TheVariants.{Done}
use Rattle.s2_model.specs.declared.statements.Stmt.{Stmt}
use Rattle.s2_model.specs.declared.statements.Stmt.TheVariants.{Insert, Update, Delete, Select, Begin, BeginReadOnly, Commit, Rollback}
use Rattle.s2_model.specs.Table.{Table}
use Rattle.s2_model.specs.History.{History, ◌▷◌, history, own, extended, pin_of, pin_after, is_running, view, next}
use Rattle.s2_model.specs.Placement.{placement}
use Rattle.s2_model.specs.Legal.{is_end}
use Rattle.s2_model.specs.Verdict.{Ruled, last_length, matched, changes, resting_places, move_of, moves, entries_of, refusal_of, refused, makes, write_or, write_verdict, begin_verdict, end_verdict, verdict}
use Rattle.s2_legal.specs.Built.{is_built_stmt}
use Rattle.s2_legal.specs.World.{PinIsLast, IsAtPin}

-- later entries of others leave an actor's pin
own_grows : (k : ℕ) (X H : History) → length (own k H) ≤ length (own k (X ++ H))
own_grows k [] H = omega arith
own_grows k (x ∷ X) H = go (x.actor == k) (own_grows k X H) where
  go : (b : Bool) → length (own k H) ≤ length (own k (X ++ H)) → length (own k H) ≤ length (cond b (x ∷ own k (X ++ H)) (own k (X ++ H)))
  go true le = omega arith
  go false le = le

pin_same : (k : ℕ) (X H : History) → length (own k (X ++ H)) ≡ length (own k H) → pin_of (X ++ H) k ≡ pin_of H k
pin_same k [] H e = refl
pin_same k (x ∷ X) H e = go (x.actor == k) refl e (pin_same k X H) where
  go : (b : Bool) → (x.actor == k) ≡ b → length (cond b (x ∷ own k (X ++ H)) (own k (X ++ H))) ≡ length (own k H)
      → (length (own k (X ++ H)) ≡ length (own k H) → pin_of (X ++ H) k ≡ pin_of H k) → pin_of (x ∷ (X ++ H)) k ≡ pin_of H k
  go true is e ih = absurd (omega (arith, e, own_grows k X H))
  go false is e ih =
      ap (λ b. cond b (pin_after x.what (length (x ∷ (X ++ H))) (pin_of (X ++ H) k)) (pin_of (X ++ H) k))
      (ne_eqb k x.actor (λ s. false≢true (sym is ∙ eq-eqb x.actor k (sym s)))) ∙ ih e

pub front_later : (h : List Entry) (from to : ℕ) → from ≤ to → history (take to h) ≡ reverse (drop from (take to h)) ++ history (take from h)
front_later h from to le =
    ap history (sym (take-append-drop from (take to h)))
    ∙ reverse-append (take from (take to h)) (drop from (take to h))
    ∙ ap (λ (xs : List Entry). reverse (drop from (take to h)) ++ history xs) (take-take from to h le)

pub quiet_pin : (h : List Entry) (k from to : ℕ) → from ≤ to → own k (history (take to h)) ≡ own k (history (take from h))
    → pin_of (history (take to h)) k ≡ pin_of (history (take from h)) k
quiet_pin h k from to le quiet =
    let split = front_later h from to le in
    ap (λ (X : History). pin_of X k) split
    ∙ pin_same k (reverse (drop from (take to h))) (history (take from h)) (ap (λ (X : History). length (own k X)) (sym split) ∙ ap length quiet)

-- an actor's own entry
pin_own : (k : ℕ) (H : History) (w : What) → pin_of (H ▷ record { actor = k; what = w }) k ≡ pin_after w (suc (length H)) (pin_of H k)
pin_own k H w = ap (λ b. cond b (pin_after w (suc (length H)) (pin_of H k)) (pin_of H k)) (eq-eqb k k refl)

none_last : (k : ℕ) (H : History) → pin_of H k ≡ None → PinIsLast H k
none_last k H none = λ t is. absurd (none-some t (sym none ∙ is))

-- entries of one actor in two parts
pub extended-append : (k : ℕ) (vs ws : List What) (X : History) → extended k (vs ++ ws) X ≡ extended k ws (extended k vs X)
extended-append k [] ws X = refl
extended-append k (v ∷ vs) ws X = extended-append k vs ws (X ▷ record { actor = k; what = v })

-- out of a pin a write leaves none
moved_pin : (k : ℕ) (H before : History) (rows : Table) → pin_of H k ≡ None → pin_of (extended k (moves before rows) H) k ≡ None
moved_pin k H before [] none = none
moved_pin k H before (p ∷ rows) none = go (resting_places (placement before).segments (map (λ q. q.0) (p ∷ rows))) where
  go : (places : List (ℕ × ℕ)) → pin_of (extended k (move_of places) H) k ≡ None
  go [] = none
  go (place ∷ places) = pin_own k H (what.Move (place ∷ places)) ∙ none

entries_pin : (k : ℕ) (H : History) (running : Bool) (cs : List Change) → pin_of H k ≡ None → pin_of (extended k (entries_of running cs) H) k ≡ None
entries_pin k H true cs none = pin_own k H (what.Write cs) ∙ none
entries_pin k H false cs none = pin_own k (H ▷ record { actor = k; what = what.Write cs }) what.Commit ∙ pin_own k H (what.Write cs) ∙ none

or_pin : (k : ℕ) (H : History) (o : Option Refusal) (moved : List What) (running : Bool) (cs : List Change) → pin_of H k ≡ None → pin_of (extended k moved H) k ≡ None
    → pin_of (extended k (write_or o moved running cs).makes H) k ≡ None
or_pin k H (Some r) moved running cs none then = none
or_pin k H None moved running [] none then = none
or_pin k H None moved running (c ∷ cs) none then =
    ap (λ (X : History). pin_of X k) (extended-append k moved (entries_of running (c ∷ cs)) H) ∙ entries_pin k (extended k moved H) running (c ∷ cs) then

write_pin : (schema : Schema) (H : History) (k : ℕ) (stmt : Stmt) → PinIsLast H k → PinIsLast (extended k (write_verdict schema H k stmt).makes H) k
write_pin schema H k stmt last =
    let rows = view H k in
    let cs = changes stmt rows (next H) in
    let o = refusal_of schema H k stmt rows cs in
    let moved = moves H (matched stmt rows) in
    go (pin_of H k) refl (nat_lt last_length (length H)) (write_or o moved (is_running H k) cs)
    (λ none. or_pin k H o moved (is_running H k) cs none (moved_pin k H H (matched stmt rows) none))
  where
    go : (p : Option ℕ) → pin_of H k ≡ p → (full : Bool) (R : Ruled) → (pin_of H k ≡ None → pin_of (extended k R.makes H) k ≡ None)
        → PinIsLast (extended k (cond (is_some p) (refused refusal.ReadOnly) (cond full (refused refusal.LogFull) R)).makes H) k
    go (Some t) is full R f = last
    go None is true R f = last
    go None is false R f = none_last k (extended k R.makes H) (f is)

-- BEGIN, where nothing is open
begin_pin : (H : History) (k : ℕ) (w : What) → PinIsLast H k → (pin_of H k ≡ None → PinIsLast (H ▷ record { actor = k; what = w }) k)
    → PinIsLast (extended k (begin_verdict H k w).makes H) k
begin_pin H k w last begun = go (is_running H k) (pin_of H k) refl (nat_lt last_length (length H)) where
  go : (r : Bool) (p : Option ℕ) → pin_of H k ≡ p → (full : Bool)
      → PinIsLast (extended k (cond (r || is_some p) (refused refusal.AlreadyOpen) (cond full (refused refusal.LogFull) (makes Done (w ∷ [])))).makes H) k
  go true p is full = last
  go false (Some t) is full = last
  go false None is true = last
  go false None is false = begun is

-- COMMIT and ROLLBACK
end_pin : (H : History) (k : ℕ) (w : What) → (pin_of H k ≡ None → pin_of (H ▷ record { actor = k; what = w }) k ≡ None) → PinIsLast (extended k (end_verdict H k w).makes H) k
end_pin H k w kept = go (pin_of H k) refl (is_running H k) where
  go : (p : Option ℕ) → pin_of H k ≡ p → (r : Bool)
      → PinIsLast (extended k (cond (is_some p) (makes Done (what.Unpin ∷ [])) (cond r (makes Done (w ∷ [])) (refused refusal.NoTransaction))).makes H) k
  go (Some t) is r = none_last k (H ▷ record { actor = k; what = what.Unpin }) (pin_own k H what.Unpin)
  go None is true = none_last k (H ▷ record { actor = k; what = w }) (kept is)
  go None is false = none_last k H is

-- the entries of a verdict leave no pin but one at their end
pub verdict_pin : (schema : Schema) (H : History) (k : ℕ) (stmt : Stmt) → is_built_stmt stmt ≡ true → IsAtPin H k stmt
    → PinIsLast (extended k (verdict schema H k stmt).makes H) k
verdict_pin schema H k (Insert rows) s at = write_pin schema H k (Insert rows) at
verdict_pin schema H k (Update sets pred) s at = write_pin schema H k (Update sets pred) at
verdict_pin schema H k (Delete pred) s at = write_pin schema H k (Delete pred) at
verdict_pin schema H k (Select select) s at = at
verdict_pin schema H k Begin s at =
    begin_pin H k what.Begin at (λ none. none_last k (H ▷ record { actor = k; what = what.Begin }) (pin_own k H what.Begin ∙ none))
verdict_pin schema H k BeginReadOnly s at =
    begin_pin H k what.Pin at (λ none t is. ap (λ (o : Option ℕ). unwrap_or o 0) (sym is ∙ pin_own k H what.Pin))
verdict_pin schema H k Commit s at = end_pin H k what.Commit (λ none. pin_own k H what.Commit ∙ none)
verdict_pin schema H k Rollback s at = end_pin H k what.Rollback (λ none. pin_own k H what.Rollback ∙ none)
verdict_pin schema H k _ s at = absurd (false≢true s)

-- a statement that ends nothing reads at the pin
pub still_last : (H : History) (k : ℕ) (stmt : Stmt) → is_end stmt ≡ false → IsAtPin H k stmt → PinIsLast H k
still_last H k stmt ends at = subst (λ (b : Bool). (t : ℕ) → cond b None (pin_of H k) ≡ Some t → t ≡ length H) ends at

pub at_last : (H : History) (k : ℕ) (stmt : Stmt) → PinIsLast H k → IsAtPin H k stmt
at_last H k stmt last = go (is_end stmt) where
  go : (b : Bool) (t : ℕ) → cond b None (pin_of H k) ≡ Some t → t ≡ length H
  go true t is = absurd (none-some t is)
  go false t is = last t is
