-- Pairs in the order of their times.
use Rattle.std.proofs.Common.{◌≡◌, ◌∙◌, refl, sym, ap, ℕ, ◌<◌, ◌≤◌, Bool, true, false, ◌&&◌, ◌||◌, ◌==◌, nat_le, not, List, [], ◌∷◌, ◌++◌, slice_index_or, arith}
use Rattle.std.specs.List.{list_all}
use Rattle.std.specs.Cmp.{nat_eq_equiv}
use Rattle.std.proofs.lemmas.Bool.{false≢true, le-leb, leb-true}
use Rattle.std.proofs.lemmas.List.Folds.{list_any-append}
use Rattle.s2_rowstore.specs.Ends.{are_in_time, are_by, has_pair}
use Rattle.s2_rowstore.proofs.Steps.{both}

all_and : (a b : Bool) → a ≡ true → b ≡ true → (a && b) ≡ true
all_and true b e f = f
all_and false b e f = absurd (false≢true e)

pub by_more : (s t : ℕ) → s ≤ t → (ps : List (ℕ × ℕ)) → are_by s ps ≡ true → are_by t ps ≡ true
by_more s t le [] e = refl
by_more s t le (p ∷ ps) e = all_and (nat_le p.0 t) (are_by t ps) (le-leb p.0 t (let a : p.0 ≤ s = leb-true p.0 s (both _ _ e).0 in omega arith)) (by_more s t le ps (both _ _ e).1)

pub by_append : (s t n : ℕ) → s ≤ t → (ps : List (ℕ × ℕ)) → are_by s ps ≡ true → are_by t (ps ++ (t, n) ∷ []) ≡ true
by_append s t n le [] e = all_and (nat_le t t) true (le-leb t t (omega arith)) refl
by_append s t n le (p ∷ ps) e = all_and (nat_le p.0 t) (are_by t (ps ++ (t, n) ∷ [])) (le-leb p.0 t (let a : p.0 ≤ s = leb-true p.0 s (both _ _ e).0 in omega arith)) (by_append s t n le ps (both _ _ e).1)

from_append : (a t n : ℕ) (ps : List (ℕ × ℕ)) → nat_le a t ≡ true → list_all (λ (q : ℕ × ℕ). nat_le a q.0) ps ≡ true → list_all (λ (q : ℕ × ℕ). nat_le a q.0) (ps ++ (t, n) ∷ []) ≡ true
from_append a t n [] le e = all_and (nat_le a t) true le refl
from_append a t n (p ∷ ps) le e = all_and (nat_le a p.0) _ (both _ _ e).0 (from_append a t n ps le (both _ _ e).1)

pub time_append : (s t n : ℕ) → s ≤ t → (ps : List (ℕ × ℕ)) → are_by s ps ≡ true → are_in_time ps ≡ true → are_in_time (ps ++ (t, n) ∷ []) ≡ true
time_append s t n le [] e f = refl
time_append s t n le (p ∷ ps) e f =
    all_and (list_all (λ q. nat_le p.0 q.0) (ps ++ (t, n) ∷ [])) (are_in_time (ps ++ (t, n) ∷ []))
    (from_append p.0 t n ps (le-leb p.0 t (let a : p.0 ≤ s = leb-true p.0 s (both _ _ e).0 in omega arith)) (both _ _ f).0)
    (time_append s t n le ps (both _ _ e).1 (both _ _ f).1)

or_first : (a b : Bool) → a ≡ true → (a || b) ≡ true
or_first true b e = refl
or_first false b e = absurd (false≢true e)

or_second : (a b : Bool) → b ≡ true → (a || b) ≡ true
or_second true b e = refl
or_second false b e = e

pub pair_stays : (ps : List (ℕ × ℕ)) (p : ℕ × ℕ) (t n : ℕ) → has_pair ps t n ≡ true → has_pair (ps ++ p ∷ []) t n ≡ true
pair_stays ps p t n e = list_any-append (λ q. (q.0 == t) && (q.1 == n)) ps (p ∷ []) ∙ or_first _ _ e

pub pair_added : (ps : List (ℕ × ℕ)) (t n : ℕ) → has_pair (ps ++ (t, n) ∷ []) t n ≡ true
pair_added ps t n =
    list_any-append (λ q. (q.0 == t) && (q.1 == n)) ps ((t, n) ∷ [])
    ∙ or_second (has_pair ps t n) _ (or_first ((t == t) && (n == n)) false (all_and (t == t) (n == n) (nat_eq_equiv.refl t) (nat_eq_equiv.refl n)))

-- where the first time is above h, so are all
pub none_by : (h : ℕ) (p : ℕ × ℕ) (ps : List (ℕ × ℕ)) → nat_le p.0 h ≡ false → are_in_time (p ∷ ps) ≡ true → list_all (λ (q : ℕ × ℕ). not (nat_le q.0 h)) (p ∷ ps) ≡ true
none_by h p ps above e = all_and (not (nat_le p.0 h)) _ (ap not above) (rest ps (both _ _ e).0) where
  later : (q : ℕ × ℕ) → nat_le p.0 q.0 ≡ true → not (nat_le q.0 h) ≡ true
  later q le = go (nat_le q.0 h) refl where
    go : (b : Bool) → nat_le q.0 h ≡ b → not b ≡ true
    go false e = refl
    go true e =
        let a : p.0 ≤ q.0 = leb-true p.0 q.0 le in
        let b : q.0 ≤ h = leb-true q.0 h e in
        let c : nat_le p.0 h ≡ true = le-leb p.0 h (omega arith) in
        absurd (false≢true (sym above ∙ c))

  rest : (qs : List (ℕ × ℕ)) → list_all (λ (q : ℕ × ℕ). nat_le p.0 q.0) qs ≡ true → list_all (λ (q : ℕ × ℕ). not (nat_le q.0 h)) qs ≡ true
  rest [] e = refl
  rest (q ∷ qs) e = all_and (not (nat_le q.0 h)) _ (later q (both _ _ e).0) (rest qs (both _ _ e).1)

pub none_from_first : (h : ℕ) (ps : List (ℕ × ℕ)) (x : ℕ × ℕ) → x ≡ slice_index_or ps 0 x → h < x.0 → are_in_time ps ≡ true → list_all (λ (q : ℕ × ℕ). not (nat_le q.0 h)) ps ≡ true
none_from_first h [] x is above e = refl
none_from_first h (p ∷ ps) x is above e = none_by h p ps (go (nat_le p.0 h) refl) e where
  at_first : x.0 ≡ p.0
  at_first = ap (λ (q : ℕ × ℕ). q.0) is

  go : (b : Bool) → nat_le p.0 h ≡ b → nat_le p.0 h ≡ false
  go false f = f
  go true f =
      let le : p.0 ≤ h = leb-true p.0 h f in
      absurd (omega (arith, at_first))
