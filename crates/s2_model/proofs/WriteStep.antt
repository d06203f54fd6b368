-- A WRITE that fits: what it holds is nobody else's, and lies in the row store where it is a row.
use Rattle.std.proofs.Common.{◌≡◌, ℕ, ◌≤◌, max, Bool, true, false, not, ◌&&◌, ◌||◌, cond, ◌==◌, nat_lt, List, [], ◌∷◌, ◌++◌, Option, Some, None, is_some, refl, sym, subst, ◌∙◌, ⊎_elim, inl, inr, ◌⊎◌, arith}
use Rattle.std.specs.List.{list_any}
use Rattle.std.proofs.lemmas.List.Folds.{list_any-append}
use Rattle.std.proofs.lemmas.Bool.{false≢true, both_ways, and_parts, eqb-true, or_cases, or_left, or_right, not-true, cases_lt, lt-ltb}
use Rattle.s2_value.specs.declared.schemas.Schema.{Schema}
use Rattle.s2_model.specs.declared.entries.Change.{Change}
use Rattle.s2_model.specs.declared.entries.Change.TheVariants.{Put, Drop}
use Rattle.s2_model.specs.declared.entries.What.TheVariants.{Write}
use Rattle.s2_model.specs.Table.{RowOf, row_at, touches, number_of}
use Rattle.s2_model.specs.History.{History, ◌▷◌, state, pending, greatest, greatest_in, next, is_session}
use Rattle.s2_model.specs.Held.{holds, is_held_by_other}
use Rattle.s2_model.specs.Placement.{Placement, placement, lives, is_living}
use Rattle.s2_model.specs.Fits.{WriteFits, is_writable, is_in_store, puts}
use Rattle.s2_model.proofs.Lists.{any_counts}
use Rattle.s2_model.proofs.Tables.{above_low}
use Rattle.s2_model.proofs.Invariant.{size, IsPlacedWell, IsSound, now_from_numbers}
use Rattle.s2_model.proofs.Holders.{holder_is, touched_has}
use Rattle.s2_model.proofs.Kept.{entry_of, placed_kept, pinned_kept}

pub some_from_size : (o : Option RowOf) → 1 ≤ size o → is_some o ≡ true
some_from_size None le = absurd (omega arith)
some_from_size (Some x) le = refl

pub size_le : (o : Option RowOf) → size o ≤ 1
size_le None = omega arith
size_le (Some x) = omega arith

pub size_some : (o : Option RowOf) → is_some o ≡ true → size o ≡ 1
size_some None e = absurd (false≢true e)
size_some (Some x) e = refl

-- a row with a living version is a row of the content
pub living_row : (H : History) (P : Placement) → IsPlacedWell H P → (n : ℕ) → lives P.versions n ≡ true → is_some (row_at (state H) n) ≡ true
living_row H P w n e =
    some_from_size (row_at (state H) n)
    (omega (arith, any_counts (λ v. v.id == n && is_living v) P.versions e, now_from_numbers H P w n))

pub max_stays : (changes : List Change) (was : ℕ) → was ≤ greatest_in changes was
max_stays [] was = omega arith
max_stays (c ∷ changes) was = omega (arith, max_stays changes (max was (number_of c)))

max_over : (changes : List Change) (was n : ℕ) → touches changes n ≡ true → n ≤ greatest_in changes was
max_over [] was n e = absurd (false≢true e)
max_over (c ∷ changes) was n e =
    ⊎_elim (λ (here : (number_of c == n) ≡ true). omega (arith, eqb-true (number_of c) n here, max_stays changes (max was (number_of c))))
    (λ later. max_over changes (max was (number_of c)) n later)
    (or_cases _ _ e)

put_touches : (changes : List Change) (n : ℕ) → list_any (λ c. puts c n) changes ≡ true → touches changes n ≡ true
put_touches [] n e = e
put_touches (Put m x ∷ changes) n e =
    ⊎_elim (λ here. or_left _ _ here) (λ later. or_right (m == n) _ (put_touches changes n later)) (or_cases _ _ e)
put_touches (Drop m ∷ changes) n e = or_right (m == n) _ (put_touches changes n e)

abbrev written : History → ℕ → List Change → History
written H k changes = H ▷ entry_of k (Write changes)

-- what is held after the write was held before, or is written
holds_cases : (H : History) (k : ℕ) (changes : List Change) (j n : ℕ) → holds (written H k changes) j n ≡ true
    → (holds H j n ≡ true) ⊎ ((j ≡ k) × (touches changes n ≡ true))
holds_cases H k changes j n held = go (j == k) refl held
  where
    go : (b : Bool) → (j == k) ≡ b → touches (cond b (pending H j ++ changes) (pending H j)) n ≡ true
        → (holds H j n ≡ true) ⊎ ((j ≡ k) × (touches changes n ≡ true))
    go true e h =
        ⊎_elim (λ old. inl old) (λ new. inr (eqb-true j k e, new))
        (or_cases _ _ (sym (list_any-append (λ c. number_of c == n) (pending H j) changes) ∙ h))
    go false e h = inl h

-- a number below the next free one that is written can be written
writable : (schema : Schema) (H : History) (k : ℕ) (changes : List Change) → WriteFits schema H k changes
    → (n : ℕ) → touches changes n ≡ true → n ≤ greatest H → is_writable H k n ≡ true
writable schema H k changes f n t le =
    let lt : nat_lt n (next H) ≡ true = lt-ltb n (next H) (omega arith) in
    ⊎_elim (λ no. absurd (both_ways _ (not-true _ no) lt)) (λ yes. yes)
    (or_cases _ _ (touched_has (λ m. not (nat_lt m (next H)) || is_writable H k m) changes n f.old t))

-- what makes a number that can be written writable
pub record MayWrite (H : History) (k n : ℕ) : Type 0 where
  pub alone : is_held_by_other H k n ≡ false
  pub stored : is_in_store H k n ≡ true

may_write : (H : History) (k n : ℕ) → is_writable H k n ≡ true → MayWrite H k n
may_write H k n e =
    let a = and_parts _ _ e in
    let b = and_parts _ _ a.0 in
    record { alone = not-true _ b.1; stored = a.1 }

live_if_stored : (H : History) → IsSound H → (k n : ℕ) → is_in_store H k n ≡ true → is_some (row_at (state H) n) ≡ true → lives (placement H).versions n ≡ true
live_if_stored H s k n e has =
    ⊎_elim (λ yes. yes) (λ put. s.held.live k n (put_touches (pending H k) n put) has) (or_cases _ _ e)

above_if_stored : (H : History) → IsSound H → (k n : ℕ) → is_in_store H k n ≡ true → 1 ≤ n
above_if_stored H s k n e =
    ⊎_elim (λ yes. above_low 0 (state H) n s.held.rising (living_row H (placement H) s.placed n yes))
    (λ put. s.held.above k n (put_touches (pending H k) n put)) (or_cases _ _ e)

pub write_sound : (schema : Schema) (H : History) (k : ℕ) (changes : List Change) → IsSound H → WriteFits schema H k changes
    → IsSound (written H k changes)
write_sound schema H k changes s f = record {
  held = record {
    live = λ j n held has.
        ⊎_elim (λ old. s.held.live j n old has)
        (λ new. live_if_stored H s k n
        (may_write H k n (writable schema H k changes f n new.1 (s.held.rows_below n has))).stored has)
        (holds_cases H k changes j n held);
    apart = λ i j n a b.
        ⊎_elim
        (λ olda. ⊎_elim (λ oldb. s.held.apart i j n olda oldb)
        (λ newb. holder i n olda newb.1 ∙ sym newb.0)
        (holds_cases H k changes j n b))
        (λ newa. ⊎_elim (λ oldb. newa.0 ∙ sym (holder j n oldb newa.1))
        (λ newb. newa.0 ∙ sym newb.0)
        (holds_cases H k changes j n b))
        (holds_cases H k changes i n a);
    below = λ j n held.
        ⊎_elim (λ old. omega (arith, s.held.below j n old, max_stays changes (greatest H)))
        (λ new. max_over changes (greatest H) n new.1)
        (holds_cases H k changes j n held);
    sessions = λ j n held.
        ⊎_elim (λ old. s.held.sessions j n old)
        (λ new. subst (λ i. is_session i ≡ true) (sym new.0) (and_parts _ _ f.by).0)
        (holds_cases H k changes j n held);
    rows_below = λ n has. omega (arith, s.held.rows_below n has, max_stays changes (greatest H));
    rising = s.held.rising;
    above = λ j n held.
        ⊎_elim (λ old. s.held.above j n old)
        (λ new. ⊎_elim (λ high. omega arith)
        (λ low. above_if_stored H s k n (may_write H k n (writable schema H k changes f n new.1 low)).stored)
        (cases_lt (greatest H) n))
        (holds_cases H k changes j n held);
  };
  placed = placed_kept H (entry_of k (Write changes)) (placement H) s.placed (λ n. refl) (omega arith);
  pinned = pinned_kept H k (Write changes) (placement H) (λ o t. refl) s.pinned;
}
  where
    holder : (j n : ℕ) → holds H j n ≡ true → touches changes n ≡ true → j ≡ k
    holder j n old t =
        holder_is H k j n
        (may_write H k n (writable schema H k changes f n t (s.held.below j n old))).alone
        (s.held.sessions j n old) old
