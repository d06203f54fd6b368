-- What the entries of a verdict do to the pin of their session.
use Rattle.std.proofs.Common.{◌≡◌, ℕ, suc, Bool, true, false, cond, Option, Some, None, is_some, List, [], ◌∷◌, ◌++◌, length, refl, sym, ap, subst, ◌∙◌, inl, inr, ◌⊎◌, ⊎_elim}
use Rattle.std.specs.Prelude.{nat_eq, nat_lt, ◌||◌}
use Rattle.std.specs.List.{list_all}
use Rattle.std.proofs.lemmas.Bool.{false≢true, and_parts}
use Rattle.s2_value.specs.declared.schemas.Schema.{Schema}
use Rattle.s2_model.specs.declared.entries.Change.{Change}
use Rattle.s2_model.specs.declared.entries.What.{What}
use Rattle.s2_model.specs.declared.entries.What.TheVariants as what
use Rattle.s2_model.specs.declared.statements.Stmt.{Stmt}
use Rattle.s2_model.specs.declared.statements.Stmt.TheVariants.{Insert, Update, Delete, Select, Begin, BeginReadOnly, Commit, Rollback}
use Rattle.s2_model.specs.declared.replies.Reply.{Reply}
use Rattle.s2_model.specs.declared.replies.Refusal.{Refusal}
use Rattle.s2_model.specs.declared.replies.Refusal.TheVariants as refusal
use Rattle.s2_model.specs.Table.{Table}
use Rattle.s2_model.specs.History.{History, ◌▷◌, pin_of, pin_after, is_running, is_open, own, extended}
use Rattle.s2_model.specs.declared.replies.Reply.TheVariants.{Done}
use Rattle.s2_model.specs.Verdict.{Ruled, verdict, write_verdict, begin_verdict, write_or, written, refused, makes, entries_of, move_of, moves, last_length}
use Rattle.s2_model.specs.Legal.{Answers, ByVerdict, ForMemory, first_move, is_end}
use Rattle.s2_model.proofs.Timestamps.{same_number}

-- entries of other sessions

pub own_other : (j k : ℕ) (es : List What) (H : History) → nat_eq j k ≡ false → own k (extended j es H) ≡ own k H
own_other j k [] H n = refl
own_other j k (w ∷ es) H n =
    own_other j k es (H ▷ record { actor = j; what = w }) n ∙ ap (λ b. cond {A = History} b (own k H ▷ record { actor = j; what = w }) (own k H)) n

pub pin_other : (j k : ℕ) (es : List What) (H : History) → nat_eq k j ≡ false → pin_of (extended j es H) k ≡ pin_of H k
pin_other j k [] H n = refl
pin_other j k (w ∷ es) H n =
    pin_other j k es (H ▷ record { actor = j; what = w }) n ∙ ap (λ b. cond {A = Option ℕ} b (pin_after w (suc (length H)) (pin_of H k)) (pin_of H k)) n

-- entries that leave the pin

leaves_pin : What → Bool
leaves_pin what.Pin = false
leaves_pin what.Unpin = false
leaves_pin _ = true

left : (w : What) (t : ℕ) (was : Option ℕ) → leaves_pin w ≡ true → pin_after w t was ≡ was
unfolding leaves_pin
left what.Begin t was e = refl
left (what.Write cs) t was e = refl
left what.Commit t was e = refl
left what.Rollback t was e = refl
left what.Pin t was e = absurd (false≢true e)
left what.Unpin t was e = absurd (false≢true e)
left (what.Move places) t was e = refl
left (what.Flush note) t was e = refl
left (what.Merge note) t was e = refl
left (what.Upload n) t was e = refl
left (what.Evict ns) t was e = refl
left (what.Vacuum n) t was e = refl

left_pin : (k : ℕ) (es : List What) (H : History) → list_all leaves_pin es ≡ true → pin_of (extended k es H) k ≡ pin_of H k
left_pin k [] H e = refl
left_pin k (w ∷ es) H e =
    let both = and_parts (leaves_pin w) (list_all leaves_pin es) e in
    left_pin k es (H ▷ record { actor = k; what = w }) both.1
    ∙ ap (λ b. cond {A = Option ℕ} b (pin_after w (suc (length H)) (pin_of H k)) (pin_of H k)) (same_number k) ∙ left w (suc (length H)) (pin_of H k) both.0

-- what a write makes leaves the pin

moved_leaves : (places : List (ℕ × ℕ)) → list_all leaves_pin (move_of places) ≡ true
unfolding leaves_pin
moved_leaves [] = refl
moved_leaves (p ∷ places) = refl

entries_leave : (running : Bool) (cs : List Change) → list_all leaves_pin (entries_of running cs) ≡ true
unfolding leaves_pin
entries_leave true cs = refl
entries_leave false cs = refl

append_leaves : (es fs : List What) → list_all leaves_pin es ≡ true → list_all leaves_pin fs ≡ true → list_all leaves_pin (es ++ fs) ≡ true
append_leaves [] fs e f = f
append_leaves (w ∷ es) fs e f =
    let both = and_parts (leaves_pin w) (list_all leaves_pin es) e in
    rw (both.0, append_leaves es fs both.1 f) refl

moves_leave : (H : History) (rows : Table) → list_all leaves_pin (moves H rows) ≡ true
moves_leave H [] = refl
moves_leave H (p ∷ rows) = moved_leaves _

Leaves : Ruled → Type 0
Leaves r = list_all leaves_pin r.makes ≡ true

written_leaves : (moved : List What) (running : Bool) (cs : List Change) → list_all leaves_pin moved ≡ true → Leaves (written moved running cs)
unfolding Leaves
written_leaves moved running [] e = refl
written_leaves moved running (c ∷ cs) e = append_leaves moved (entries_of running (c ∷ cs)) e (entries_leave running (c ∷ cs))

write_or_leaves : (r : Option Refusal) (moved : List What) (running : Bool) (cs : List Change) → list_all leaves_pin moved ≡ true → Leaves (write_or r moved running cs)
unfolding Leaves
write_or_leaves (Some r) moved running cs e = refl
write_or_leaves None moved running cs e = written_leaves moved running cs e

cond_leaves : (b : Bool) (x y : Ruled) → Leaves x → Leaves y → Leaves (cond {A = Ruled} b x y)
cond_leaves true x y e f = e
cond_leaves false x y e f = f

write_leaves : (schema : Schema) (H : History) (k : ℕ) (stmt : Stmt) → Leaves (write_verdict schema H k stmt)
unfolding Leaves
write_leaves schema H k stmt =
    cond_leaves (is_some (pin_of H k)) _ _ refl (cond_leaves (nat_lt last_length (length H)) _ _ refl (write_or_leaves _ _ _ _ (moves_leave H _)))

-- what a statement makes that ends no transaction, where its session has no pin

pub Free : List What → Type 0
Free es = (list_all leaves_pin es ≡ true) ⊎ (es ≡ what.Pin ∷ [])

cond_free : (b : Bool) (x y : Ruled) → Free x.makes → Free y.makes → Free (cond {A = Ruled} b x y).makes
cond_free true x y e f = e
cond_free false x y e f = f

begin_free : (H : History) (k : ℕ) (w : What) → Free (w ∷ []) → Free (begin_verdict H k w).makes
unfolding Free
begin_free H k w free = cond_free (is_open H k) _ _ (inl refl) (cond_free (nat_lt last_length (length H)) _ _ (inl refl) free)

free_verdict : (schema : Schema) (H : History) (k : ℕ) (stmt : Stmt) → is_end stmt ≡ false → Free (verdict schema H k stmt).makes
unfolding Free Leaves leaves_pin
free_verdict schema H k (Select select) e = inl refl
free_verdict schema H k (Insert xs) e = inl (write_leaves schema H k (Insert xs))
free_verdict schema H k (Update sets pred) e = inl (write_leaves schema H k (Update sets pred))
free_verdict schema H k (Delete pred) e = inl (write_leaves schema H k (Delete pred))
free_verdict schema H k Begin e = begin_free H k what.Begin (inl refl)
free_verdict schema H k BeginReadOnly e = begin_free H k what.Pin (inr refl)
free_verdict schema H k Commit e = absurd (false≢true (sym e))
free_verdict schema H k Rollback e = absurd (false≢true (sym e))
free_verdict schema H k _ e = inl refl

first_leaves : (es : List What) → list_all leaves_pin (first_move es) ≡ true
unfolding leaves_pin
first_leaves [] = refl
first_leaves (what.Move places ∷ es) = refl
first_leaves (what.Begin ∷ es) = refl
first_leaves (what.Write cs ∷ es) = refl
first_leaves (what.Commit ∷ es) = refl
first_leaves (what.Rollback ∷ es) = refl
first_leaves (what.Pin ∷ es) = refl
first_leaves (what.Unpin ∷ es) = refl
first_leaves (what.Flush note ∷ es) = refl
first_leaves (what.Merge note ∷ es) = refl
first_leaves (what.Upload n ∷ es) = refl
first_leaves (what.Evict ns ∷ es) = refl
first_leaves (what.Vacuum n ∷ es) = refl

pub free_answer : (schema : Schema) (H : History) (k : ℕ) (stmt : Stmt) (reply : Reply) (es : List What) → is_end stmt ≡ false → Answers schema H k stmt reply es → Free es
unfolding Free
free_answer schema H k stmt reply es e answers =
    ⊎_elim
    (λ (by : ByVerdict schema H k stmt reply es). subst Free (sym by.entries_are) (free_verdict schema H k stmt e))
    (λ (want : ForMemory schema H k stmt reply es). inl (⊎_elim
    (λ (none : es ≡ []). ap (list_all leaves_pin) none)
    (λ (move : es ≡ first_move (verdict schema H k stmt).makes). ap (list_all leaves_pin) move ∙ first_leaves (verdict schema H k stmt).makes)
    want.moved))
    answers

-- the end of a transaction leaves no pin

cond_ends : (H : History) (k : ℕ) (w : What) (pin : Option ℕ) (running : Bool) → pin_of H k ≡ pin → leaves_pin w ≡ true
    → pin_of (extended k (cond {A = Ruled} (is_some pin) (makes Done (what.Unpin ∷ [])) (cond {A = Ruled} running (makes Done (w ∷ [])) (refused refusal.NoTransaction))).makes H) k ≡ None
cond_ends H k w (Some t) running e l = ap (λ b. cond {A = Option ℕ} b None (pin_of H k)) (same_number k)
cond_ends H k w None true e l = left_pin k (w ∷ []) H (rw l refl) ∙ e
cond_ends H k w None false e l = e

pub ended : (schema : Schema) (H : History) (k : ℕ) (stmt : Stmt) (reply : Reply) (es : List What) → is_end stmt ≡ true → Answers schema H k stmt reply es → pin_of (extended k es H) k ≡ None
unfolding leaves_pin
ended schema H k stmt reply es e answers =
    ⊎_elim
    (λ (by : ByVerdict schema H k stmt reply es). ap (λ fs. pin_of (extended k fs H) k) by.entries_are ∙ end_of stmt e)
    (λ (want : ForMemory schema H k stmt reply es). absurd (false≢true (sym want.may ∙ e)))
    answers
  where
    end_of : (s : Stmt) → is_end s ≡ true → pin_of (extended k (verdict schema H k s).makes H) k ≡ None
    end_of Commit i = cond_ends H k what.Commit (pin_of H k) (is_running H k) refl refl
    end_of Rollback i = cond_ends H k what.Rollback (pin_of H k) (is_running H k) refl refl
    end_of (Select select) i = absurd (false≢true i)
    end_of (Insert xs) i = absurd (false≢true i)
    end_of (Update sets pred) i = absurd (false≢true i)
    end_of (Delete pred) i = absurd (false≢true i)
    end_of Begin i = absurd (false≢true i)
    end_of BeginReadOnly i = absurd (false≢true i)
    end_of _ i = absurd (false≢true i)

-- after a statement that reads at the end of the history, its session has no pin, or its one entry is the pin
abbrev pub AfterFree : History → ℕ → List What → Type 0
AfterFree H k es = (pin_of (extended k es H) k ≡ None) ⊎ (es ≡ what.Pin ∷ [])

pub after_free : (schema : Schema) (H : History) (k : ℕ) (stmt : Stmt) (reply : Reply) (es : List What) → (is_end stmt ≡ false → pin_of H k ≡ None) → Answers schema H k stmt reply es → AfterFree H k es
unfolding Free
after_free schema H k stmt reply es unpinned answers = go (is_end stmt) refl
  where
    go : (b : Bool) → is_end stmt ≡ b → (pin_of (extended k es H) k ≡ None) ⊎ (es ≡ what.Pin ∷ [])
    go true e = inl (ended schema H k stmt reply es e answers)
    go false e = ⊎_elim
        (λ (l : list_all leaves_pin es ≡ true). inl (left_pin k es H l ∙ unpinned e))
        (λ (p : es ≡ what.Pin ∷ []). inr p)
        (free_answer schema H k stmt reply es e answers)

-- where its session has a pin, a statement that ends nothing makes nothing

pinned_verdict : (schema : Schema) (H : History) (k t : ℕ) (stmt : Stmt) → is_end stmt ≡ false → pin_of H k ≡ Some t → (verdict schema H k stmt).makes ≡ []
pinned_verdict schema H k t (Select select) e p = refl
pinned_verdict schema H k t (Insert xs) e p = rw p refl
pinned_verdict schema H k t (Update sets pred) e p = rw p refl
pinned_verdict schema H k t (Delete pred) e p = rw p refl
pinned_verdict schema H k t Begin e p = begun (is_running H k)
  where
    begun : (b : Bool) → (cond {A = Ruled} (b || is_some (pin_of H k)) (refused refusal.AlreadyOpen) (cond {A = Ruled} (nat_lt last_length (length H)) (refused refusal.LogFull) (makes Done (what.Begin ∷ [])))).makes ≡ []
    begun true = refl
    begun false = rw p refl
pinned_verdict schema H k t BeginReadOnly e p = begun (is_running H k)
  where
    begun : (b : Bool) → (cond {A = Ruled} (b || is_some (pin_of H k)) (refused refusal.AlreadyOpen) (cond {A = Ruled} (nat_lt last_length (length H)) (refused refusal.LogFull) (makes Done (what.Pin ∷ [])))).makes ≡ []
    begun true = refl
    begun false = rw p refl
pinned_verdict schema H k t Commit e p = absurd (false≢true (sym e))
pinned_verdict schema H k t Rollback e p = absurd (false≢true (sym e))
pinned_verdict schema H k t _ e p = refl

pub pinned_answer : (schema : Schema) (H : History) (k t : ℕ) (stmt : Stmt) (reply : Reply) (es : List What) → is_end stmt ≡ false → pin_of H k ≡ Some t
    → Answers schema H k stmt reply es → es ≡ []
pinned_answer schema H k t stmt reply es e p answers =
    let none = pinned_verdict schema H k t stmt e p in
    ⊎_elim
    (λ (by : ByVerdict schema H k stmt reply es). by.entries_are ∙ none)
    (λ (want : ForMemory schema H k stmt reply es). ⊎_elim
    (λ (n : es ≡ []). n)
    (λ (move : es ≡ first_move (verdict schema H k stmt).makes). move ∙ ap first_move none)
    want.moved)
    answers
