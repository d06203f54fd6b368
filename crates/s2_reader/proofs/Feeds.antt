-- No line has a line feed inside.
use Rattle.std.proofs.Common.{◌≡◌, ℕ, Bool, true, false, List, [], ◌∷◌, ◌||◌, ◌==◌, if◌then◌else◌, refl, sym, ap, subst, ◌∙◌}
use Rattle.std.specs.List.{AllByRecursion}
use Rattle.s2_script.specs.Lines.{lines_of, with_byte, without_return}
use Rattle.s2_clean.specs.Clean.{has_line_feed}
use Rattle.s2_resolve.proofs.Lists.{neither}

no_feed : (a b : Bool) → a ≡ false → b ≡ false → (a || b) ≡ false
no_feed a b e f = rw (e, f) refl

with_byte_unfed : (b : ℕ) (ls : List (List ℕ)) → (b == 10) ≡ false → AllByRecursion (λ l. has_line_feed l ≡ false) ls → AllByRecursion (λ l. has_line_feed l ≡ false) (with_byte b ls)
with_byte_unfed b [] e h = (no_feed (b == 10) false e refl, tt)
with_byte_unfed b (l ∷ ls) e h = (no_feed (b == 10) (has_line_feed l) e h.0, h.1)

by_byte : (b : ℕ) (ls : List (List ℕ)) (v : Bool) → (b == 10) ≡ v → AllByRecursion (λ l. has_line_feed l ≡ false) ls
    → AllByRecursion (λ l. has_line_feed l ≡ false) (if v then [] ∷ ls else with_byte b ls)
by_byte b ls true e h = (refl, h)
by_byte b ls false e h = with_byte_unfed b ls e h

all_unfed : (bs : List ℕ) → AllByRecursion (λ l. has_line_feed l ≡ false) (lines_of bs)
all_unfed [] = tt
all_unfed (b ∷ bs) = by_byte b (lines_of bs) (b == 10) refl (all_unfed bs)

pub first_unfed : (bs l : List ℕ) (ls : List (List ℕ)) → lines_of bs ≡ l ∷ ls → has_line_feed l ≡ false
first_unfed bs l ls e =
    let h : AllByRecursion (λ l. has_line_feed l ≡ false) (l ∷ ls) = subst (λ (x : List (List ℕ)). AllByRecursion (λ l. has_line_feed l ≡ false) x) e (all_unfed bs) in
    h.0

last_unfed : (b : ℕ) (v : Bool) → has_line_feed (b ∷ []) ≡ false → has_line_feed (if v then [] else b ∷ []) ≡ false
last_unfed b true h = refl
last_unfed b false h = h

pub return_unfed : (bs : List ℕ) → has_line_feed bs ≡ false → has_line_feed (without_return bs) ≡ false
return_unfed [] h = refl
return_unfed (b ∷ []) h = last_unfed b (b == 13) h
return_unfed (b ∷ c ∷ bs) h =
    let p = neither (b == 10) (has_line_feed (c ∷ bs)) h in
    no_feed (b == 10) (has_line_feed (without_return (c ∷ bs))) p.0 (return_unfed (c ∷ bs) p.1)
