-- The history at a timestamp, and a history with more entries of one actor.
use Rattle.std.proofs.Common.{◌≡◌, ℕ, ◌+◌, ◌<◌, ◌≤◌, true, false, List, [], ◌∷◌, ◌++◌, length, take, get_or, reverse, refl, sym, ap, ◌∙◌, arith, ⊎_elim, length-append}
use Rattle.std.specs.Prelude.{nat_lt, nat_eq}
use Rattle.std.proofs.lemmas.Bool.{cases_lt}
use Rattle.std.proofs.lemmas.List.{take_more, reverse-append}
use Rattle.std.proofs.lemmas.Bool.Decides.{nat_tests}
use Rattle.s2_model.specs.declared.entries.Entry.{Entry}
use Rattle.s2_model.specs.declared.entries.What.{What}
use Rattle.s2_model.specs.History.{History, ◌▷◌, history, upto, own, extended}

pub below : (m n : ℕ) → m < n → nat_lt m n ≡ true
below m n lt = grind (arith, nat_tests)

pub not_below : (m n : ℕ) → n ≤ m → nat_lt m n ≡ false
not_below m n le = grind (arith, nat_tests)

pub upto_past : (r : ℕ) (H : History) (e : Entry) → r ≤ length H → upto r (H ▷ e) ≡ upto r H
upto_past r H e le = rw (not_below (length H) r le) refl

pub upto_all : (r : ℕ) (H : History) → length H ≤ r → upto r H ≡ H
upto_all r [] le = refl
upto_all r (H ▷ e) le = let lt : length H < r = omega arith in rw (below (length H) r lt) refl

pub upto-upto : (r s : ℕ) (H : History) → r ≤ s → upto r (upto s H) ≡ upto r H
upto-upto r s [] le = refl
upto-upto r s (H ▷ e) le =
    let ih = upto-upto r s H le in
    ⊎_elim
    (λ (lt : length H < s). rw (below (length H) s lt) refl)
    (λ (ge : s ≤ length H). rw (not_below (length H) s ge) (ih ∙ sym (upto_past r H e (omega arith))))
    (cases_lt (length H) s)

pub length-extended : (k : ℕ) (es : List What) (H : History) → length (extended k es H) ≡ length H + length es
length-extended k [] H = omega arith
length-extended k (w ∷ ws) H = omega (arith, length-extended k ws (H ▷ record { actor = k; what = w }))

pub upto-extended : (r k : ℕ) (es : List What) (H : History) → r ≤ length H → upto r (extended k es H) ≡ upto r H
upto-extended r k [] H le = refl
upto-extended r k (w ∷ ws) H le =
    upto-extended r k ws (H ▷ record { actor = k; what = w }) (omega arith) ∙ upto_past r H _ le

pub same_number : (k : ℕ) → nat_eq k k ≡ true
same_number k = grind (arith, nat_tests)

pub own-extended : (k : ℕ) (es : List What) (H : History) → own k (extended k es H) ≡ extended k es (own k H)
own-extended k [] H = refl
own-extended k (w ∷ ws) H =
    own-extended k ws (H ▷ record { actor = k; what = w }) ∙ ap (extended k ws) (rw (same_number k) refl)

-- a history from a slice of entries, the oldest first: one entry more
pub history_more : (h : List Entry) (i : ℕ) (e : Entry) → i < length h → e ≡ get_or h i e → history (take (i + 1) h) ≡ history (take i h) ▷ e
history_more h i e lt read =
    ap reverse (take_more h i e lt ∙ ap (λ x. take i h ++ x ∷ []) (sym read)) ∙ reverse-append (take i h) (e ∷ [])

-- later entries don't stand in an earlier history
pub upto_later : (r : ℕ) (later H : History) → r ≤ length H → upto r (later ++ H) ≡ upto r H
upto_later r [] H le = refl
upto_later r (e ∷ later) H le =
    upto_past r (later ++ H) e (omega (arith, length-append later H)) ∙ upto_later r later H le
