-- What the steps of a row keep of the rows that are present, and which of them come first.
use Rattle.std.proofs.Common.{◌≡◌, ◌∙◌, refl, sym, ap, ℕ, ◌<◌, ◌≤◌, ◌+◌, Bool, true, false, cond, ◌||◌, ◌&&◌, ◌==◌, not, List, [], ◌∷◌, take, Option, None, Some, is_some, is_none, if◌then◌else◌, eqb-true, arith, subst, length, slice_index_or, below_more, All}
use Rattle.std.specs.List.{filter, find}
use Rattle.std.specs.Map.{keys_of}
use Rattle.std.specs.Option.{option_map}
use Rattle.std.proofs.lemmas.Bool.{false≢true}
use Rattle.s2_value.specs.declared.values.Value.{Value}
use Rattle.s2_rowstore.specs.declared.chain.Version.{Version}
use Rattle.s2_rowstore.specs.Chains.{Line, Body, living_since, is_living, ended, kept, is_done}
use Rattle.s2_rowstore.specs.Lines.{body_at, for_row, committed, undone, with_begun, with_slot}
use Rattle.s2_rowstore.specs.Numbers.{is_among, numbers_in}
use Rattle.s2_rowstore.specs.Present.{is_present, ArePresent, is_free, is_free_above, is_by, AreFirst}
use Rattle.s2_rowstore.specs.Visible.{are_rising}
use Rattle.s2_rowstore.specs.Prepared.{SameBodies}
use Rattle.s2_rowstore.proofs.Prepared.{same_default, at_row}
use Rattle.s2_rowstore.proofs.Rising.{filter_rising, names_exactly}
use Rattle.s2_rowstore.proofs.Steps.{both}
use Rattle.s2_rowstore.proofs.Walk.{names_among, all_rising}

-- ---- one row leaves the others
pub still_present : (lines : List (ℕ × Line)) (id : ℕ) (old new : List (ℕ × List Bool)) → is_present (body_at lines id) ≡ false
    → ((n : ℕ) → is_among old n ≡ true → (id == n) ≡ false → is_among new n ≡ true)
    → ArePresent old lines → ArePresent new lines
still_present lines id old new gone others all n e = go (id == n) refl where
  go : (b : Bool) → (id == n) ≡ b → is_among new n ≡ true
  go true t = absurd (false≢true (sym gone ∙ ap (λ m. is_present (body_at lines m)) (eqb-true id n t) ∙ e))
  go false t = others n (all n e) t

-- ---- rows
kept_living : (h : ℕ) (vs : List Version) → is_some (living_since (kept h vs)) ≡ true → is_some (living_since vs) ≡ true
kept_living h [] e = e
kept_living h (v ∷ vs) e = go v.stop refl (kept_living h vs) e where
  pick : Option ℕ → Bool → List Version → List Version
  pick o b rest = cond b (v ∷ rest) rest

  some_or : (b : Bool) (o : Option Version) → is_some (option_map (λ v. v.begin) o) ≡ true → is_some (option_map (λ v. v.begin) (cond b (Some v) o)) ≡ true
  some_or true o e = refl
  some_or false o e = e

  go : (o : Option ℕ) → v.stop ≡ o → (is_some (living_since (kept h vs)) ≡ true → is_some (living_since vs) ≡ true)
      → is_some (living_since (cond (not (is_done h v.stop)) (v ∷ kept h vs) (kept h vs))) ≡ true
      → is_some (option_map (λ v. v.begin) (cond (is_living v) (Some v) (find is_living vs))) ≡ true
  go None is ih e = ap (λ o. is_some (option_map (λ v. v.begin) (cond (is_none o) (Some v) (find is_living vs)))) is
  go (Some t) is ih e = some_or (is_living v) _ (ih (both (is_done h (Some t)) refl (ap (λ o. is_some (living_since (cond (not (is_done h o)) (v ∷ kept h vs) (kept h vs)))) (sym is) ∙ e))) where
    both : (b : Bool) → is_done h (Some t) ≡ b → is_some (living_since (cond (not b) (v ∷ kept h vs) (kept h vs))) ≡ true → is_some (living_since (kept h vs)) ≡ true
    both true d e = e
    both false d e = ap (λ o. is_some (option_map (λ v. v.begin) (cond (is_none o) (Some v) (find is_living (kept h vs))))) (sym is) ∙ e

-- ---- the numbers of pairs, one after another
pub listed_more : {X : Type 0} (rows : List (ℕ × X)) (k : ℕ) (ids ids' : List (ℕ × List Bool)) (here : ℕ × X) → k < length rows
    → ((n : ℕ) → is_among ids n ≡ true → is_among ids' n ≡ true)
    → ((i : ℕ) → i < k → (d : ℕ × X) → is_among ids (slice_index_or rows i d).0 ≡ true)
    → here ≡ slice_index_or rows k here → is_among ids' here.0 ≡ true
    → (i : ℕ) → i < k + 1 → (d : ℕ × X) → is_among ids' (slice_index_or rows i d).0 ≡ true
listed_more {X} rows k ids ids' here lt kept before is added =
    let Q : ℕ × X → Type 0 = λ p. is_among ids' p.0 ≡ true in
    let P : ℕ → Type 0 = λ i. (d : ℕ × X) → Q (slice_index_or rows i d) in
    below_more P k (λ i small d. kept _ (before i small d)) (λ d. subst Q (same_default rows k here d lt is) added)

pub listed_all : {X : Type 0} (rows : List (ℕ × X)) (ids : List (ℕ × List Bool)) (k : ℕ) → length rows ≤ k
    → ((i : ℕ) → i < k → (d : ℕ × X) → is_among ids (slice_index_or rows i d).0 ≡ true)
    → All (λ p. is_among ids p.0 ≡ true) rows
listed_all rows ids k all listed i d lt = listed i (omega arith) d

-- ---- what a step leaves present was present before
or_true : (a : Bool) → (a || true) ≡ true
or_true true = refl
or_true false = refl

or_last : (a b : Bool) → b ≡ true → (a || b) ≡ true
or_last true b e = refl
or_last false b e = e

or_either : (a b c : Bool) → (a ≡ true → b ≡ true) → (a || c) ≡ true → (b || c) ≡ true
or_either true b c more e = ap (λ x. x || c) (more refl)
or_either false b c more e = or_last b c e

none_living : (t : ℕ) (vs : List Version) → living_since (ended t vs) ≡ None
none_living t [] = refl
none_living t (v ∷ vs) = go (is_living v) refl (none_living t vs) where
  go : (b : Bool) → is_living v ≡ b → living_since (ended t vs) ≡ None → living_since ((if b then record { row = v.row; begin = v.begin; stop = Some t } else v) ∷ ended t vs) ≡ None
  go true e ih = ih
  go false e ih = ap (λ b. option_map (λ v. v.begin) (cond b (Some v) (find is_living (ended t vs)))) e ∙ ih

present_committed : (k t : ℕ) (b : Body) → is_present (committed k t b) ≡ true → is_present b ≡ true
present_committed k t (vs, None) e = e
present_committed k t (vs, Some s) e = or_true (is_some (living_since vs))

present_undone : (k : ℕ) (b : Body) → is_present (undone k b) ≡ true → is_present b ≡ true
present_undone k (vs, None) e = e
present_undone k (vs, Some s) e = or_true (is_some (living_since vs))

present_ended : (here : Bool) (t : ℕ) (b : Body) → is_present (if here then (ended t b.0, b.1) else b) ≡ true → is_present b ≡ true
present_ended true t (vs, o) e = or_last (is_some (living_since vs)) (is_some o) (sym (ap (λ (a : Option ℕ). is_some a || is_some o) (none_living t vs)) ∙ e)
present_ended false t b e = e

present_kept : (h : ℕ) (b : Body) → is_present (kept h b.0, b.1) ≡ true → is_present b ≡ true
present_kept h b e = or_either (is_some (living_since (kept h b.0))) (is_some (living_since b.0)) (is_some b.1) (kept_living h b.0) e

pub still_committed : (ids : List (ℕ × List Bool)) (old new : List (ℕ × Line)) (k t : ℕ) → ((n : ℕ) → body_at new n ≡ committed k t (body_at old n)) → ArePresent ids old → ArePresent ids new
still_committed ids old new k t same all n e = all n (present_committed k t (body_at old n) (sym (ap is_present (same n)) ∙ e))

pub still_undone : (ids : List (ℕ × List Bool)) (old new : List (ℕ × Line)) (k : ℕ) → ((n : ℕ) → body_at new n ≡ undone k (body_at old n)) → ArePresent ids old → ArePresent ids new
still_undone ids old new k same all n e = all n (present_undone k (body_at old n) (sym (ap is_present (same n)) ∙ e))

pub still_ended : (ids : List (ℕ × List Bool)) (old new : List (ℕ × Line)) (id t : ℕ) → ((n : ℕ) → body_at new n ≡ (if id == n then (ended t (body_at old n).0, (body_at old n).1) else body_at old n)) → ArePresent ids old → ArePresent ids new
still_ended ids old new id t same all n e = all n (present_ended (id == n) t (body_at old n) (sym (ap is_present (same n)) ∙ e))

pub still_kept : (ids : List (ℕ × List Bool)) (old new : List (ℕ × Line)) (h : ℕ) → ((n : ℕ) → body_at new n ≡ (kept h (body_at old n).0, (body_at old n).1)) → ArePresent ids old → ArePresent ids new
still_kept ids old new h same all n e = all n (present_kept h (body_at old n) (sym (ap is_present (same n)) ∙ e))

-- ---- and what it makes present is listed
pub still_same : (ids ids' : List (ℕ × List Bool)) (old new : List (ℕ × Line)) → ((n : ℕ) → is_among ids n ≡ true → is_among ids' n ≡ true) → SameBodies old new → ArePresent ids old → ArePresent ids' new
still_same ids ids' old new more same all n e = more n (all n (sym (ap is_present (same n)) ∙ e))

pub still_begun : (ids : List (ℕ × List Bool)) (old new : List (ℕ × Line)) (t : ℕ) (rows : List (ℕ × List Value)) → ((n : ℕ) → body_at new n ≡ with_begun t (for_row rows n) (body_at old n))
    → All (λ p. is_among ids p.0 ≡ true) rows → ArePresent ids old → ArePresent ids new
still_begun ids old new t rows same listed all n e = go (for_row rows n) refl (sym (ap is_present (same n)) ∙ e) where
  go : (o : Option (List Value)) → for_row rows n ≡ o → is_present (with_begun t o (body_at old n)) ≡ true → is_among ids n ≡ true
  go None is e = all n e
  go (Some row) is e = at_row (λ p. is_among ids p.0 ≡ true) rows listed n row is

pub still_put : (ids : List (ℕ × List Bool)) (old new : List (ℕ × Line)) (k : ℕ) (changes : List (ℕ × Option (List Value))) → ((n : ℕ) → body_at new n ≡ with_slot k (for_row changes n) (body_at old n))
    → All (λ p. is_among ids p.0 ≡ true) changes → ArePresent ids old → ArePresent ids new
still_put ids old new k changes same listed all n e = go (for_row changes n) refl (sym (ap is_present (same n)) ∙ e) where
  go : (o : Option (Option (List Value))) → for_row changes n ≡ o → is_present (with_slot k o (body_at old n)) ≡ true → is_among ids n ≡ true
  go None is e = all n e
  go (Some c) is e = at_row (λ p. is_among ids p.0 ≡ true) changes listed n c is

-- ---- the first that can be taken
pub present_from_free : (r : ℕ) (b : Body) → is_free r b ≡ true → is_present b ≡ true
present_from_free r b e = go (living_since b.0) refl e where
  go : (o : Option ℕ) → living_since b.0 ≡ o → (is_by r o && is_none b.1) ≡ true → (is_some (living_since b.0) || is_some b.1) ≡ true
  go None is e = absurd (false≢true e)
  go (Some t) is e = ap (λ o. is_some o || is_some b.1) is

pub first_of_present : (lines : List (ℕ × Line)) (ids : List (ℕ × List Bool)) (from r most : ℕ) (found : List ℕ) (passes : ℕ → Bool)
    → ((n : ℕ) → is_free_above from r lines n ≡ passes n) → ArePresent ids lines → are_rising (keys_of ids) ≡ true
    → found ≡ take most (filter (is_free_above from r lines) (numbers_in ids)) → AreFirst most passes found
first_of_present lines ids from r most found passes means all rising first = record {
  every = filter (is_free_above from r lines) (numbers_in ids);
  rising = filter_rising _ (numbers_in ids) (all_rising ids rising);
  exact = λ n. names_exactly (is_free_above from r lines) (numbers_in ids) n
      (λ e. names_among ids n rising ∙ all n (present_from_free r (body_at lines n) (both _ _ e).1)) ∙ means n;
  first = first;
}
