-- What the steps of a row do to the ends of its versions, and what a cut needs of the queue.
use Rattle.std.proofs.Common.{◌≡◌, ◌∙◌, refl, sym, ap, inl, inr, ◌⊎◌, ℕ, ◌≤◌, Bool, true, false, cond, ◌&&◌, ◌||◌, ◌==◌, nat_le, not, List, [], ◌∷◌, ◌++◌, Option, None, Some, is_some, if◌then◌else◌, eqb-true, arith}
use Rattle.std.specs.List.{list_all}
use Rattle.std.specs.Cmp.{nat_eq_equiv}
use Rattle.std.proofs.lemmas.Bool.{false≢true, le-leb}
use Rattle.std.proofs.lemmas.List.Folds.{list_any-append}
use Rattle.s2_value.specs.declared.values.Value.{Value}
use Rattle.s2_rowstore.specs.declared.chain.Version.{Version}
use Rattle.s2_rowstore.specs.Chains.{Line, Body, kept, is_done, ended, begun, own, is_living, chain_after}
use Rattle.s2_rowstore.specs.Lines.{body_at, names_row, for_row, cut_body, committed, undone, with_begun, with_slot}
use Rattle.s2_rowstore.specs.Ends.{Ends, is_end, has_end, has_pair, AreQueued, KeepsPairs}
use Rattle.s2_rowstore.specs.Prepared.{SameBodies}
use Rattle.s2_rowstore.proofs.Steps.{both}

either_or : (a b : Bool) → (a || b) ≡ true → (a ≡ true) ⊎ (b ≡ true)
either_or true b e = inl refl
either_or false b e = inr e

or_first : (a b : Bool) → a ≡ true → (a || b) ≡ true
or_first true b e = refl
or_first false b e = absurd (false≢true e)

or_second : (a b : Bool) → b ≡ true → (a || b) ≡ true
or_second true b e = refl
or_second false b e = e

not_true : (b : Bool) → not b ≡ true → b ≡ false
not_true false e = refl
not_true true e = absurd (false≢true e)

-- ---- what is kept at h
kept_twice : (h : ℕ) (vs : List Version) → kept h (kept h vs) ≡ kept h vs
kept_twice h [] = refl
kept_twice h (v ∷ vs) = go (not (is_done h v.stop)) refl (kept_twice h vs) where
  go : (b : Bool) → not (is_done h v.stop) ≡ b → kept h (kept h vs) ≡ kept h vs → kept h (cond b (v ∷ kept h vs) (kept h vs)) ≡ cond b (v ∷ kept h vs) (kept h vs)
  go true e ih = ap (λ b. cond b (v ∷ kept h (kept h vs)) (kept h (kept h vs))) e ∙ ap (λ xs. v ∷ xs) ih
  go false e ih = ih

end_above : (h t : ℕ) (o : Option ℕ) → not (is_done h o) ≡ true → is_end t o ≡ true → nat_le t h ≡ false
end_above h t None on e = absurd (false≢true e)
end_above h t (Some stop) on e = ap (λ s. nat_le s h) (sym (eqb-true stop t e)) ∙ not_true (nat_le stop h) on

end_kept : (h t : ℕ) (vs : List Version) → has_end t (kept h vs) ≡ true → (has_end t vs ≡ true) × (nat_le t h ≡ false)
end_kept h t [] e = absurd (false≢true e)
end_kept h t (v ∷ vs) e = go (not (is_done h v.stop)) refl (end_kept h t vs) e where
  there : (has_end t vs ≡ true) × (nat_le t h ≡ false) → (has_end t (v ∷ vs) ≡ true) × (nat_le t h ≡ false)
  there x = (or_second (is_end t v.stop) _ x.0, x.1)

  go : (b : Bool) → not (is_done h v.stop) ≡ b → (has_end t (kept h vs) ≡ true → (has_end t vs ≡ true) × (nat_le t h ≡ false))
      → has_end t (cond b (v ∷ kept h vs) (kept h vs)) ≡ true → (has_end t (v ∷ vs) ≡ true) × (nat_le t h ≡ false)
  go false on ih e = there (ih e)
  go true on ih e = split (either_or _ _ e) where
    split : (is_end t v.stop ≡ true) ⊎ (has_end t (kept h vs) ≡ true) → (has_end t (v ∷ vs) ≡ true) × (nat_le t h ≡ false)
    split (inl a) = (or_first (is_end t v.stop) _ a, end_above h t v.stop on a)
    split (inr b) = there (ih b)

kept_all : (h : ℕ) (vs : List Version) → ((t : ℕ) → has_end t vs ≡ true → nat_le t h ≡ false) → kept h vs ≡ vs
kept_all h [] above = refl
kept_all h (v ∷ vs) above = go v.stop refl (kept_all h vs (λ t e. above t (or_second (is_end t v.stop) _ e))) where
  eq_same : (n : ℕ) → (n == n) ≡ true
  eq_same n = nat_eq_equiv.refl n

  go : (o : Option ℕ) → v.stop ≡ o → kept h vs ≡ vs → cond (not (is_done h v.stop)) (v ∷ kept h vs) (kept h vs) ≡ v ∷ vs
  go None is ih = ap (λ o. cond (not (is_done h o)) (v ∷ kept h vs) (kept h vs)) is ∙ ap (λ xs. v ∷ xs) ih
  go (Some stop) is ih =
      let over : is_end stop v.stop ≡ true = ap (is_end stop) is ∙ eq_same stop in
      let far : nat_le stop h ≡ false = above stop (or_first _ (has_end stop vs) over) in
      ap (λ o. cond (not (is_done h o)) (v ∷ kept h vs) (kept h vs)) is ∙ ap (λ b. cond (not b) (v ∷ kept h vs) (kept h vs)) far ∙ ap (λ xs. v ∷ xs) ih

-- ---- one row is cut
pub cut_queued : (h id t0 : ℕ) (cur next : List (ℕ × Line)) (E F : Ends) → t0 ≤ h → E.queue ≡ (t0, id) ∷ F.queue → F.whole ≡ E.whole
    → ((n : ℕ) → body_at next n ≡ (if id == n then cut_body h (body_at cur n) else body_at cur n)) → AreQueued E cur → AreQueued F next
cut_queued h id t0 cur next E F le pop same step all w n t e = go (id == n) refl where
  vs : List Version
  vs = (body_at cur n).0

  first_of : Body → List Version
  first_of b = b.0

  listed : has_end t vs ≡ true → ((((t0 == t) && (id == n)) ≡ true) ⊎ (has_pair F.queue t n ≡ true))
  listed had = either_or _ _ (sym (ap (λ ps. has_pair ps t n) pop) ∙ all (sym same ∙ w) n t had)

  at : (b : Bool) → (id == n) ≡ b → has_end t (first_of (if b then cut_body h (body_at cur n) else body_at cur n)) ≡ true
  at b is = sym (ap (λ x. has_end t (first_of x)) (step n ∙ ap (λ b. if b then cut_body h (body_at cur n) else body_at cur n) is)) ∙ e

  go : (b : Bool) → (id == n) ≡ b → has_pair F.queue t n ≡ true
  go true is = late (end_kept h t vs (at true is)) where
    late : (has_end t vs ≡ true) × (nat_le t h ≡ false) → has_pair F.queue t n ≡ true
    late x = pick (listed x.0) where
      pick : (((t0 == t) && (id == n)) ≡ true) ⊎ (has_pair F.queue t n ≡ true) → has_pair F.queue t n ≡ true
      pick (inr there) = there
      pick (inl here) =
          let one : t0 ≡ t = eqb-true t0 t (both _ _ here).0 in
          absurd (false≢true (sym x.1 ∙ le-leb t h (omega (arith, one))))
  go false is = pick (listed (at false is)) where
    pick : (((t0 == t) && (id == n)) ≡ true) ⊎ (has_pair F.queue t n ≡ true) → has_pair F.queue t n ≡ true
    pick (inr there) = there
    pick (inl here) = absurd (false≢true (sym is ∙ (both _ _ here).1))

pub cut_again : (h id : ℕ) (cur next : List (ℕ × Line)) (n : ℕ) (target : Body) → body_at next n ≡ (if id == n then cut_body h (body_at cur n) else body_at cur n)
    → cut_body h (body_at cur n) ≡ target → cut_body h (body_at next n) ≡ target
cut_again h id cur next n target step inv = ap (cut_body h) step ∙ go (id == n) ∙ inv where
  go : (b : Bool) → cut_body h (if b then cut_body h (body_at cur n) else body_at cur n) ≡ cut_body h (body_at cur n)
  go true = ap (λ vs. (vs, (body_at cur n).1)) (kept_twice h (body_at cur n).0)
  go false = refl

pair_above : (h t n : ℕ) (ps : List (ℕ × ℕ)) → list_all (λ (p : ℕ × ℕ). not (nat_le p.0 h)) ps ≡ true → has_pair ps t n ≡ true → nat_le t h ≡ false
pair_above h t n [] above e = absurd (false≢true e)
pair_above h t n (p ∷ ps) above e = pick (either_or _ _ e) (pair_above h t n ps (both _ _ above).1) where
  pick : (((p.0 == t) && (p.1 == n)) ≡ true) ⊎ (has_pair ps t n ≡ true) → (has_pair ps t n ≡ true → nat_le t h ≡ false) → nat_le t h ≡ false
  pick (inr there) ih = ih there
  pick (inl here) ih = ap (λ s. nat_le s h) (sym (eqb-true p.0 t (both _ _ here).0)) ∙ not_true (nat_le p.0 h) (both _ _ above).0

pub cut_over : (h : ℕ) (cur : List (ℕ × Line)) (E : Ends) (n : ℕ) → E.whole ≡ true → list_all (λ (p : ℕ × ℕ). not (nat_le p.0 h)) E.queue ≡ true → AreQueued E cur
    → body_at cur n ≡ cut_body h (body_at cur n)
cut_over h cur E n w above all = sym (ap (λ vs. (vs, (body_at cur n).1)) (kept_all h (body_at cur n).0 (λ t e. pair_above h t n E.queue above (all w n t e))))

-- ---- the queue serves as long as it keeps its pairs
pub still_queued : (E F : Ends) (lines : List (ℕ × Line)) → KeepsPairs E F → AreQueued E lines → AreQueued F lines
still_queued E F lines keeps all w n t e = (keeps w).1 n t (all (keeps w).0 n t e)

pub queued_as : (E F : Ends) (old new : List (ℕ × Line)) → F ≡ E → ((n : ℕ) → (body_at new n).0 ≡ (body_at old n).0) → AreQueued E old → AreQueued F new
queued_as E F old new kept same all w n t e =
    ap (λ G. has_pair (queue_of G) t n) kept ∙ all (sym (ap whole_of kept) ∙ w) n t (sym (ap (has_end t) (same n)) ∙ e) where
      whole_of : Ends → Bool
      whole_of G = G.whole

      queue_of : Ends → List (ℕ × ℕ)
      queue_of G = G.queue

end_ended : (t time : ℕ) (vs : List Version) → has_end t (ended time vs) ≡ true → (has_end t vs ≡ true) ⊎ ((time == t) ≡ true)
end_ended t time [] e = inl e
end_ended t time (v ∷ vs) e = split (either_or _ _ e) (end_ended t time vs) where
  here : (b : Bool) → is_living v ≡ b → is_end t ((if b then record { row = v.row; begin = v.begin; stop = Some time } else v).stop) ≡ true → (is_end t v.stop ≡ true) ⊎ ((time == t) ≡ true)
  here true l e = inr e
  here false l e = inl e

  pass : (is_end t v.stop ≡ true) ⊎ ((time == t) ≡ true) → (has_end t (v ∷ vs) ≡ true) ⊎ ((time == t) ≡ true)
  pass (inl a) = inl (or_first (is_end t v.stop) _ a)
  pass (inr b) = inr b

  later : (has_end t vs ≡ true) ⊎ ((time == t) ≡ true) → (has_end t (v ∷ vs) ≡ true) ⊎ ((time == t) ≡ true)
  later (inl a) = inl (or_second (is_end t v.stop) _ a)
  later (inr b) = inr b

  split : (is_end t ((if is_living v then record { row = v.row; begin = v.begin; stop = Some time } else v).stop) ≡ true) ⊎ (has_end t (ended time vs) ≡ true)
      → (has_end t (ended time vs) ≡ true → (has_end t vs ≡ true) ⊎ ((time == t) ≡ true)) → (has_end t (v ∷ vs) ≡ true) ⊎ ((time == t) ≡ true)
  split (inl a) ih = pass (here (is_living v) refl a)
  split (inr b) ih = later (ih b)

end_begun : (t time : ℕ) (o : Option (List Value)) (vs : List Version) → has_end t (vs ++ begun time o) ≡ true → has_end t vs ≡ true
end_begun t time o vs e = go o (either_or _ _ (sym (list_any-append (λ v. is_end t v.stop) vs (begun time o)) ∙ e)) where
  go : (o : Option (List Value)) → (has_end t vs ≡ true) ⊎ (has_end t (begun time o) ≡ true) → has_end t vs ≡ true
  go o (inl a) = a
  go None (inr b) = absurd (false≢true b)
  go (Some row) (inr b) = absurd (false≢true b)

end_committed : (t k time : ℕ) (b : Body) → has_end t (committed k time b).0 ≡ true → (has_end t b.0 ≡ true) ⊎ (((time == t) ≡ true) × (is_some (own k b.1) ≡ true))
end_committed t k time b e = go (own k b.1) refl e where
  go : (o : Option (Option (List Value))) → own k b.1 ≡ o → has_end t (chain_after time o b.0) ≡ true → (has_end t b.0 ≡ true) ⊎ (((time == t) ≡ true) × (is_some (own k b.1) ≡ true))
  go None is e = inl e
  go (Some c) is e = split (end_ended t time b.0 (end_begun t time c (ended time b.0) e)) where
    split : (has_end t b.0 ≡ true) ⊎ ((time == t) ≡ true) → (has_end t b.0 ≡ true) ⊎ (((time == t) ≡ true) × (is_some (own k b.1) ≡ true))
    split (inl a) = inl a
    split (inr s) = inr (s, ap is_some is)

pub queued_committed : (E F : Ends) (old new : List (ℕ × Line)) (k time : ℕ) (ids : List ℕ) → KeepsPairs E F
    → (F.whole ≡ true → (n : ℕ) → names_row ids n ≡ true → has_end time (body_at new n).0 ≡ true → has_pair F.queue time n ≡ true)
    → ((n : ℕ) → is_some (own k (body_at old n).1) ≡ true → names_row ids n ≡ true)
    → ((n : ℕ) → body_at new n ≡ committed k time (body_at old n)) → AreQueued E old → AreQueued F new
queued_committed E F old new k time ids keeps added listed same all w n t e = split (end_committed t k time (body_at old n) (sym (ap (λ (b : Body). has_end t b.0) (same n)) ∙ e)) where
  split : (has_end t (body_at old n).0 ≡ true) ⊎ (((time == t) ≡ true) × (is_some (own k (body_at old n).1) ≡ true)) → has_pair F.queue t n ≡ true
  split (inl a) = (keeps w).1 n t (all (keeps w).0 n t a)
  split (inr b) = ap (λ s. has_pair F.queue s n) (sym (eqb-true time t b.0)) ∙ added w n (listed n b.1) (ap (λ s. has_end s (body_at new n).0) (eqb-true time t b.0) ∙ e)

pub queued_ended : (E F : Ends) (old new : List (ℕ × Line)) (id time : ℕ) → KeepsPairs E F → (F.whole ≡ true → has_pair F.queue time id ≡ true)
    → ((n : ℕ) → body_at new n ≡ (if id == n then (ended time (body_at old n).0, (body_at old n).1) else body_at old n)) → AreQueued E old → AreQueued F new
queued_ended E F old new id time keeps added same all w n t e = go (id == n) refl where
  first_of : Body → List Version
  first_of b = b.0

  at : (b : Bool) → (id == n) ≡ b → has_end t (first_of (if b then (ended time (body_at old n).0, (body_at old n).1) else body_at old n)) ≡ true
  at b is = sym (ap (λ x. has_end t (first_of x)) (same n ∙ ap (λ b. if b then (ended time (body_at old n).0, (body_at old n).1) else body_at old n) is)) ∙ e

  stays : has_end t (body_at old n).0 ≡ true → has_pair F.queue t n ≡ true
  stays a = (keeps w).1 n t (all (keeps w).0 n t a)

  go : (b : Bool) → (id == n) ≡ b → has_pair F.queue t n ≡ true
  go false is = stays (at false is)
  go true is = split (end_ended t time (body_at old n).0 (at true is)) where
    split : (has_end t (body_at old n).0 ≡ true) ⊎ ((time == t) ≡ true) → has_pair F.queue t n ≡ true
    split (inl a) = stays a
    split (inr s) = ap (λ s. has_pair F.queue s n) (sym (eqb-true time t s)) ∙ ap (λ m. has_pair F.queue time m) (sym (eqb-true id n is)) ∙ added w

pub queued_same : (E F : Ends) (old new : List (ℕ × Line)) → F ≡ E → SameBodies old new → AreQueued E old → AreQueued F new
queued_same E F old new kept same all = queued_as E F old new kept (λ n. ap (λ (b : Body). b.0) (same n)) all

pub queued_undone : (E : Ends) (old new : List (ℕ × Line)) (k : ℕ) → ((n : ℕ) → body_at new n ≡ undone k (body_at old n)) → AreQueued E old → AreQueued E new
queued_undone E old new k same all = queued_as E E old new refl (λ n. ap (λ (b : Body). b.0) (same n)) all

pub queued_begun : (E : Ends) (old new : List (ℕ × Line)) (time : ℕ) (rows : List (ℕ × List Value)) → ((n : ℕ) → body_at new n ≡ with_begun time (for_row rows n) (body_at old n)) → AreQueued E old → AreQueued E new
queued_begun E old new time rows same all w n t e = all w n t (go (for_row rows n) (sym (ap (λ (b : Body). has_end t b.0) (same n)) ∙ e)) where
  go : (o : Option (List Value)) → has_end t (with_begun time o (body_at old n)).0 ≡ true → has_end t (body_at old n).0 ≡ true
  go None e = e
  go (Some row) e = end_begun t time (Some row) (body_at old n).0 e

pub queued_put : (E : Ends) (old new : List (ℕ × Line)) (k : ℕ) (changes : List (ℕ × Option (List Value))) → ((n : ℕ) → body_at new n ≡ with_slot k (for_row changes n) (body_at old n)) → AreQueued E old → AreQueued E new
queued_put E old new k changes same all w n t e = all w n t (go (for_row changes n) (sym (ap (λ (b : Body). has_end t b.0) (same n)) ∙ e)) where
  go : (o : Option (Option (List Value))) → has_end t (with_slot k o (body_at old n)).0 ≡ true → has_end t (body_at old n).0 ≡ true
  go None e = e
  go (Some c) e = e
