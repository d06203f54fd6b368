-- How many transactions are open, before an entry and after it.
use Rattle.std.proofs.Common.{◌≡◌, ℕ, zero, suc, ◌+◌, ◌<◌, ◌≤◌, Bool, true, false, ◌||◌, cond, ◌==◌, List, [], ◌∷◌, length, is_some, refl, sym, ap, ap₂, ◌∙◌, ⊎_elim, arith}
use Rattle.std.specs.Prelude.{count_by}
use Rattle.std.specs.List.{range_with_len}
use Rattle.std.proofs.lemmas.List.Sums.{sum_by-cons, count_by-le-length}
use Rattle.std.proofs.lemmas.Bool.{false≢true, leb-true, and_parts, cases_eq, ne_eqb, eq-eqb}
use Rattle.s2_model.specs.declared.entries.What.{What}
use Rattle.s2_model.specs.History.{History, ◌▷◌, is_session, is_running, running_after, pin_of, pin_after, is_open}
use Rattle.s2_model.specs.Held.{sessions}
use Rattle.s2_model.proofs.Kept.{entry_of}
use Rattle.s2_model.proofs.Lists.{bit}
use Rattle.s2_state.specs.Takers.{open_count}

-- counts of two tests that differ at most at k

count-cons : (f : ℕ → Bool) (x : ℕ) (xs : List ℕ) → count_by f (x ∷ xs) ≡ bit (f x) + count_by f xs
count-cons f x xs = sum_by-cons (λ y. cond (f y) 1 0) x xs

count_same : (f g : ℕ → Bool) → ((j : ℕ) → g j ≡ f j) → (xs : List ℕ) → count_by g xs ≡ count_by f xs
count_same f g same [] = refl
count_same f g same (x ∷ xs) =
    count-cons g x xs ∙ ap₂ (λ b n. bit b + n) (same x) (count_same f g same xs) ∙ sym (count-cons f x xs)

count_beyond : (f g : ℕ → Bool) (k : ℕ) → ((j : ℕ) → (j ≡ k → ⊥) → g j ≡ f j) → (a n : ℕ) → k < a
    → count_by g (range_with_len a n) ≡ count_by f (range_with_len a n)
count_beyond f g k same a zero lt = refl
count_beyond f g k same a (suc n) lt =
    count-cons g a (range_with_len (a + 1) n)
    ∙ ap₂ (λ b m. bit b + m) (same a (λ e. omega arith)) (count_beyond f g k same (a + 1) n (omega arith))
    ∙ sym (count-cons f a (range_with_len (a + 1) n))

-- k alone passes the second test and not the first
count_more : (f g : ℕ → Bool) (k : ℕ) → f k ≡ false → g k ≡ true → ((j : ℕ) → (j ≡ k → ⊥) → g j ≡ f j) → (a n : ℕ) → a ≤ k → k < a + n
    → count_by g (range_with_len a n) ≡ suc (count_by f (range_with_len a n))
count_more f g k off on same a zero from to = absurd (omega arith)
count_more f g k off on same a (suc n) from to =
    ⊎_elim
    (λ (here : a ≡ k).
    let yes : bit (g a) ≡ 1 = ap bit (ap g here ∙ on) in
    let no : bit (f a) ≡ 0 = ap bit (ap f here ∙ off) in
    omega (arith, count-cons g a (range_with_len (a + 1) n), count-cons f a (range_with_len (a + 1) n), count_beyond f g k same (a + 1) n (omega arith)))
    (λ (other : a ≡ k → ⊥).
    let alike : bit (g a) ≡ bit (f a) = ap bit (same a other) in
    omega (arith, count-cons g a (range_with_len (a + 1) n), count-cons f a (range_with_len (a + 1) n), count_more f g k off on same (a + 1) n (omega arith) (omega arith)))
    (cases_eq a k)

count_some : (f : ℕ → Bool) (k : ℕ) → f k ≡ true → (a n : ℕ) → a ≤ k → k < a + n → 1 ≤ count_by f (range_with_len a n)
count_some f k on a zero from to = absurd (omega arith)
count_some f k on a (suc n) from to =
    ⊎_elim
    (λ (here : a ≡ k).
    let yes : bit (f a) ≡ 1 = ap bit (ap f here ∙ on) in
    omega (arith, count-cons f a (range_with_len (a + 1) n)))
    (λ (other : a ≡ k → ⊥). omega (arith, count-cons f a (range_with_len (a + 1) n), count_some f k on (a + 1) n (omega arith) (omega arith)))
    (cases_eq a k)

-- what an entry opens and closes

record IsInRange (k : ℕ) : Type 0 where
  from : 1 ≤ k
  to : k < 1 + 16

in_range : (k : ℕ) → is_session k ≡ true → IsInRange k
in_range k session =
    let both = and_parts _ _ session in
    record { from = leb-true 1 k both.0; to = omega (arith, leb-true k 16 both.1) }

-- the others stay as they are
pub open_other : (H : History) (k : ℕ) (w : What) (j : ℕ) → (j ≡ k → ⊥) → is_open (H ▷ entry_of k w) j ≡ is_open H j
open_other H k w j other = go (j == k) (ne_eqb j k other)
  where
    go : (b : Bool) → b ≡ false
        → (cond b (running_after w (is_running H j)) (is_running H j) || is_some (cond b (pin_after w (suc (length H)) (pin_of H j)) (pin_of H j))) ≡ is_open H j
    go true e = absurd (false≢true (sym e))
    go false e = refl

pub open_own : (H : History) (k : ℕ) (w : What)
    → is_open (H ▷ entry_of k w) k ≡ (running_after w (is_running H k) || is_some (pin_after w (suc (length H)) (pin_of H k)))
open_own H k w = go (k == k) (eq-eqb k k refl)
  where
    go : (b : Bool) → b ≡ true
        → (cond b (running_after w (is_running H k)) (is_running H k) || is_some (cond b (pin_after w (suc (length H)) (pin_of H k)) (pin_of H k)))
        ≡ (running_after w (is_running H k) || is_some (pin_after w (suc (length H)) (pin_of H k)))
    go true e = refl
    go false e = absurd (false≢true e)

pub opens : (H : History) (k : ℕ) (w : What) → is_session k ≡ true → is_open H k ≡ false → is_open (H ▷ entry_of k w) k ≡ true
    → open_count (H ▷ entry_of k w) ≡ suc (open_count H)
unfolding open_count sessions
opens H k w session was now =
    count_more (is_open H) (is_open (H ▷ entry_of k w)) k was now (open_other H k w) 1 16 (in_range k session).from (in_range k session).to

pub closes : (H : History) (k : ℕ) (w : What) → is_session k ≡ true → is_open H k ≡ true → is_open (H ▷ entry_of k w) k ≡ false
    → open_count H ≡ suc (open_count (H ▷ entry_of k w))
unfolding open_count sessions
closes H k w session was now =
    count_more (is_open (H ▷ entry_of k w)) (is_open H) k now was (λ j other. sym (open_other H k w j other)) 1 16 (in_range k session).from (in_range k session).to

pub stays_open : (H : History) (k : ℕ) (w : What) → is_open (H ▷ entry_of k w) k ≡ is_open H k → open_count (H ▷ entry_of k w) ≡ open_count H
unfolding open_count
stays_open H k w own =
    count_same (is_open H) (is_open (H ▷ entry_of k w))
    (λ j. ⊎_elim (λ (e : j ≡ k). ap (is_open (H ▷ entry_of k w)) e ∙ own ∙ ap (is_open H) (sym e)) (λ other. open_other H k w j other) (cases_eq j k))
    sessions

pub open_at_most : (H : History) → open_count H ≤ 16
unfolding open_count sessions
open_at_most H = count_by-le-length (is_open H) sessions

pub some_open : (H : History) (k : ℕ) → is_session k ≡ true → is_open H k ≡ true → 1 ≤ open_count H
unfolding open_count sessions
some_open H k session on = count_some (is_open H) k on 1 16 (in_range k session).from (in_range k session).to

pub none_open : open_count [] ≡ 0
unfolding open_count sessions
none_open = refl
