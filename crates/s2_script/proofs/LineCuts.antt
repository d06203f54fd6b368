-- Where the first line ends, and its end.
use Rattle.std.proofs.Common.{◌≡◌, ℕ, suc, zero, ◌+◌, ◌<◌, Bool, true, false, List, [], ◌∷◌, cond, not, length, take, drop, get_or, if◌then◌else◌, ◌==◌, refl, ap, subst, sym, ◌∙◌, ◌-◌, arith}
use Rattle.std.proofs.lemmas.Bool.Decides.{nat_tests}
use Rattle.std.specs.List.{prefix_len}
use Rattle.s2_script.specs.Lines.{is_inside, lines_of, with_byte, without_return}

one_plus : (m : ℕ) → 1 + m ≡ suc m
one_plus m = omega arith

drop_one : (m b : ℕ) (bs : List ℕ) → drop (1 + m) (b ∷ bs) ≡ drop m bs
drop_one m b bs = subst (λ (k : ℕ). drop k (b ∷ bs) ≡ drop m bs) (sym (one_plus m)) refl

take_one : (m b : ℕ) (bs : List ℕ) → take (1 + m) (b ∷ bs) ≡ b ∷ take m bs
take_one m b bs = subst (λ (k : ℕ). take k (b ∷ bs) ≡ b ∷ take m bs) (sym (one_plus m)) refl

some_step : (b : ℕ) (bs : List ℕ) (x : ℕ) (later : List ℕ) (t : Bool)
    → (drop (prefix_len is_inside bs) bs ≡ x ∷ later → lines_of bs ≡ take (prefix_len is_inside bs) bs ∷ lines_of later)
    → drop (cond (not t) (1 + prefix_len is_inside bs) 0) (b ∷ bs) ≡ x ∷ later
    → (if t then [] ∷ lines_of bs else with_byte b (lines_of bs)) ≡ take (cond (not t) (1 + prefix_len is_inside bs) 0) (b ∷ bs) ∷ lines_of later
some_step b bs x later true ih e = let same : bs ≡ later = cc in ap (λ l. [] ∷ lines_of l) same
some_step b bs x later false ih e =
    ap (with_byte b) (ih (sym (drop_one (prefix_len is_inside bs) b bs) ∙ e)) ∙ ap (λ (l : List ℕ). l ∷ lines_of later) (sym (take_one (prefix_len is_inside bs) b bs))

cut_some : (bs : List ℕ) (x : ℕ) (later : List ℕ) → drop (prefix_len is_inside bs) bs ≡ x ∷ later → lines_of bs ≡ take (prefix_len is_inside bs) bs ∷ lines_of later
cut_some [] x later e = absurd (cc)
cut_some (b ∷ bs) x later e = some_step b bs x later (b == 10) (cut_some bs x later) e

none_step : (b : ℕ) (bs : List ℕ) (t : Bool)
    → (drop (prefix_len is_inside bs) bs ≡ [] → 0 < length bs → lines_of bs ≡ take (prefix_len is_inside bs) bs ∷ [])
    → drop (cond (not t) (1 + prefix_len is_inside bs) 0) (b ∷ bs) ≡ []
    → (if t then [] ∷ lines_of bs else with_byte b (lines_of bs)) ≡ take (cond (not t) (1 + prefix_len is_inside bs) 0) (b ∷ bs) ∷ []
none_step b bs true ih e = absurd (cc)
none_step b [] false ih e = refl
none_step b (c ∷ bs) false ih e =
    ap (with_byte b) (ih (sym (drop_one (prefix_len is_inside (c ∷ bs)) b (c ∷ bs)) ∙ e) (omega arith)) ∙ ap (λ (l : List ℕ). l ∷ []) (sym (take_one (prefix_len is_inside (c ∷ bs)) b (c ∷ bs)))

cut_none : (bs : List ℕ) → drop (prefix_len is_inside bs) bs ≡ [] → 0 < length bs → lines_of bs ≡ take (prefix_len is_inside bs) bs ∷ []
cut_none [] e s = absurd (omega arith)
cut_none (b ∷ bs) e s = none_step b bs (b == 10) (cut_none bs) e

last_return : (b : ℕ) → b ≡ 13 → (if b == 13 then [] else b ∷ []) ≡ []
last_return b e = rw e

dropped_at : (l : List ℕ) (n : ℕ) → length l ≡ n + 1 → get_or l n 0 ≡ 13 → without_return l ≡ take n l
dropped_at [] n s e = absurd (omega arith)
dropped_at (b ∷ []) zero s e = last_return b e
dropped_at (b ∷ []) (suc n) s e = absurd (omega arith)
dropped_at (b ∷ c ∷ l) zero s e = absurd (omega arith)
dropped_at (b ∷ c ∷ l) (suc n) s e = ap (λ r. b ∷ r) (dropped_at (c ∷ l) n (omega arith) e)

last_other : (b : ℕ) (t : Bool) → (b == 13) ≡ t → (b ≡ 13 → ⊥) → (if b == 13 then [] else b ∷ []) ≡ b ∷ []
last_other b true e h = absurd (h (grind (arith, nat_tests)))
last_other b false e h = rw e

kept_at : (l : List ℕ) (n : ℕ) → length l ≡ n + 1 → (get_or l n 0 ≡ 13 → ⊥) → without_return l ≡ l
kept_at [] n s e = absurd (omega arith)
kept_at (b ∷ []) zero s e = last_other b (b == 13) refl e
kept_at (b ∷ []) (suc n) s e = absurd (omega arith)
kept_at (b ∷ c ∷ l) zero s e = absurd (omega arith)
kept_at (b ∷ c ∷ l) (suc n) s e = ap (λ r. b ∷ r) (kept_at (c ∷ l) n (omega arith) e)

pub return_dropped : (l : List ℕ) → 0 < length l → get_or l (length l - 1) 0 ≡ 13 → without_return l ≡ take (length l - 1) l
return_dropped l s e = dropped_at l (length l - 1) (omega arith) e

pub no_return : (l : List ℕ) → 0 < length l → (get_or l (length l - 1) 0 ≡ 13 → ⊥) → without_return l ≡ l
no_return l s e = kept_at l (length l - 1) (omega arith) e

pub cut_on : (bs front back : List ℕ) (n : ℕ) → n ≡ prefix_len is_inside bs → front ≡ take n bs → back ≡ drop n bs → 0 < length back → lines_of bs ≡ front ∷ lines_of (drop 1 back)
cut_on bs front [] n m f b s = absurd (omega arith)
cut_on bs front (x ∷ later) n m f b s =
    let ends : drop (prefix_len is_inside bs) bs ≡ x ∷ later = sym (rw m at b) in
    subst (λ (l : List ℕ). lines_of bs ≡ l ∷ lines_of later) (sym (rw m at f)) (cut_some bs x later ends)

pub cut_off : (bs front back : List ℕ) (n : ℕ) → n ≡ prefix_len is_inside bs → front ≡ take n bs → back ≡ drop n bs → length back ≡ 0 → 0 < length bs → lines_of bs ≡ front ∷ lines_of back
cut_off bs front [] n m f b z s =
    let ends : drop (prefix_len is_inside bs) bs ≡ [] = sym (rw m at b) in
    subst (λ (l : List ℕ). lines_of bs ≡ l ∷ []) (sym (rw m at f)) (cut_none bs ends s)
cut_off bs front (x ∷ later) n m f b z s = absurd (omega arith)
