-- Who holds a row is a session.
use Rattle.std.proofs.Common.{◌≡◌, ℕ, zero, suc, ◌+◌, ◌<◌, ◌≤◌, Bool, true, false, not, ◌&&◌, ◌==◌, List, [], ◌∷◌, sym, ap, ◌∙◌, ⊎_elim, arith}
use Rattle.std.specs.List.{list_any, list_all, range_with_len}
use Rattle.std.proofs.lemmas.Bool.{false≢true, both_ways, leb-true, and_parts, and_from, eqb-true, cases_eq, ne_eqb, not_from_false, or_cases, or_left, or_right}
use Rattle.s2_model.specs.declared.entries.Change.{Change}
use Rattle.s2_model.specs.Table.{touches, number_of}
use Rattle.s2_model.specs.History.{History, is_session}
use Rattle.s2_model.specs.Held.{holds, sessions, is_held, is_held_by_other}

any_in_range : (p : ℕ → Bool) (a n j : ℕ) → a ≤ j → j < a + n → p j ≡ true → list_any p (range_with_len a n) ≡ true
any_in_range p a zero j from to e = absurd (omega arith)
any_in_range p a (suc n) j from to e =
    ⊎_elim (λ here. or_left _ _ (ap p here ∙ e))
    (λ later. or_right (p a) _ (any_in_range p (a + 1) n j (omega (arith, above later)) (omega arith) e))
    (cases_eq a j)
  where
    above : (a ≡ j → ⊥) → a < j
    above ne = omega arith

pub some_session : (p : ℕ → Bool) (j : ℕ) → is_session j ≡ true → p j ≡ true → list_any p sessions ≡ true
unfolding sessions
some_session p j session e =
    let both = and_parts _ _ session in
    any_in_range p 1 16 j (leb-true 1 j both.0) (omega (arith, leb-true j 16 both.1)) e

-- a row that a session holds is held
pub held_by_session : (H : History) (j n : ℕ) → is_session j ≡ true → holds H j n ≡ true → is_held H n ≡ true
unfolding is_held
held_by_session H j n session e = some_session (λ i. holds H i n) j session e

-- a row that no other holds is held by nobody but the actor
pub holder_is : (H : History) (k j n : ℕ) → is_held_by_other H k n ≡ false → is_session j ≡ true → holds H j n ≡ true → j ≡ k
unfolding is_held_by_other
holder_is H k j n none session e =
    ⊎_elim (λ same. same)
    (λ other. absurd (both_ways _ none
    (some_session (λ i. not (i == k) && holds H i n) j session
    (and_from _ _ (not_from_false _ (ne_eqb j k other)) e))))
    (cases_eq j k)

-- what holds of the number of each change holds of the numbers that they touch
pub touched_has : (q : ℕ → Bool) (changes : List Change) (n : ℕ) → list_all (λ c. q (number_of c)) changes ≡ true → touches changes n ≡ true → q n ≡ true
touched_has q [] n all t = absurd (false≢true t)
touched_has q (c ∷ changes) n all t =
    let both = and_parts _ _ all in
    ⊎_elim (λ here. ap q (sym (eqb-true (number_of c) n here)) ∙ both.0)
    (λ later. touched_has q changes n both.1 later)
    (or_cases _ _ t)
