-- Entries after the first r, and entries of an actor between two places.
use Rattle.std.proofs.Common.{◌≡◌, ℕ, ◌+◌, ◌-◌, ◌<◌, ◌≤◌, Bool, true, false, cond, List, [], ◌∷◌, ◌++◌, Some, length, take, drop, get_or, reverse, refl, sym, ap, ◌∙◌, subst, arith, add-zero, length-append, length-take-le}
use Rattle.std.specs.Prelude.{◌==◌, nat_lt}
use Rattle.std.proofs.lemmas.Bool.{eq-eqb}
use Rattle.std.proofs.lemmas.List.{take-append-drop, take_more, drop_more, take_all}
use Rattle.std.proofs.lemmas.List.Elements.{filter-append}
use Rattle.s2_model.specs.declared.entries.Entry.{Entry}
use Rattle.s2_model.specs.declared.entries.What.{What}
use Rattle.s2_model.specs.History.{History, ◌▷◌, history, upto, own, extended}
use Rattle.s2_slow.proofs.SlowHistories.{history_more, upto_history, length_history}
use Rattle.s2_model.proofs.Timestamps.{length-extended, upto-upto, upto-extended, upto_all}
use Rattle.s2_legal.specs.World.{IsStand}
use Rattle.s2_legal.proofs.Pins.{extended-append, front_later}

-- the first i of the entries stand there
abbrev pub StandsTo : List Entry → ℕ → ℕ → List What → ℕ → Type 0
StandsTo h r k ws i = history (take (r + i) h) ≡ extended k (take i ws) (history (take r h))

pub stand_none : (h : List Entry) (r k : ℕ) (ws : List What) → StandsTo h r k ws 0
stand_none h r k ws = ap (λ (n : ℕ). history (take n h)) (add-zero r)

pub stand_more : (h : List Entry) (r k i : ℕ) (ws : List What) (e : Entry) (w : What) → r + i < length h → i < length ws → e ≡ get_or h (r + i) e → w ≡ get_or ws i w
    → e ≡ record { actor = k; what = w } → StandsTo h r k ws i → StandsTo h r k ws (i + 1)
stand_more h r k i ws e w lh lw at_h at_ws is so =
    let step : r + (i + 1) ≡ (r + i) + 1 = omega arith in
    let X = history (take r h) in
    ap (λ (n : ℕ). history (take n h)) step ∙ history_more h (r + i) e lh at_h ∙ ap (λ (Y : History). Y ▷ e) so ∙ ap (λ (x : Entry). extended k (take i ws) X ▷ x) is
    ∙ sym (ap (λ (vs : List What). extended k vs X) (take_more ws i w lw ∙ ap (λ (v : What). take i ws ++ v ∷ []) (sym at_ws)) ∙ extended-append k (take i ws) (w ∷ []) X)

pub stand_all : (h : List Entry) (r k : ℕ) (ws : List What) → r + length ws ≤ length h → StandsTo h r k ws (length ws) → IsStand (history h) r k ws (Some (r + length ws))
stand_all h r k ws le so = (
  refl,
  omega (arith, length_history h),
  upto_history (r + length ws) h le ∙ so ∙ ap (λ (vs : List What). extended k vs (history (take r h))) (take_all (length ws) ws (omega arith))
      ∙ ap (extended k ws) (sym (upto_history r h (omega arith))),
)

one_head : (X Y : History) (a b : Entry) → a ∷ X ≡ b ∷ Y → a ≡ b
one_head X Y a b e = (cc)

-- where the entries stand, each is the next one
pub stand_part : (h : List Entry) (r k i : ℕ) (ws : List What) (e : Entry) (w : What) → r + length ws ≤ length h → i < length ws → e ≡ get_or h (r + i) e → w ≡ get_or ws i w
    → StandsTo h r k ws i → upto (r + length ws) (history h) ≡ extended k ws (upto r (history h)) → e ≡ record { actor = k; what = w }
stand_part h r k i ws e w le lw at_h at_ws so all =
    let H = history h in
    let X = history (take r h) in
    let Y = extended k (take i ws) X in
    let x : Entry = record { actor = k; what = w } in
    let n = (r + i) + 1 in
    let rest = drop (i + 1) ws in
    let long : length Y ≡ r + i = ap length (sym so) ∙ length_history (take (r + i) h) ∙ length-take-le (r + i) h (omega arith) in
    let parts : ws ≡ take i ws ++ w ∷ rest =
    sym (take-append-drop i ws) ∙ ap (λ (vs : List What). take i ws ++ vs) (drop_more ws i w lw ∙ ap (λ (v : What). v ∷ rest) (sym at_ws)) in
    let made : extended k ws (upto r H) ≡ extended k rest (Y ▷ x) =
    ap (extended k ws) (upto_history r h (omega arith)) ∙ ap (λ (vs : List What). extended k vs X) parts ∙ extended-append k (take i ws) (w ∷ rest) X in
    let here : upto n H ≡ history (take (r + i) h) ▷ e = upto_history n h (omega arith) ∙ history_more h (r + i) e (omega arith) at_h in
    let there : upto n H ≡ Y ▷ x =
    sym (upto-upto n (r + length ws) H (omega arith)) ∙ ap (upto n) (all ∙ made) ∙ upto-extended n k rest (Y ▷ x) (omega (arith, long)) ∙ upto_all n (Y ▷ x) (omega (arith, long)) in
    one_head (history (take (r + i) h)) Y e x (sym here ∙ there)

length_within : (r : ℕ) (H : History) → length (upto r H) ≤ length H
length_within r [] = omega arith
length_within r (e ∷ H) = go (nat_lt (length H) r) (length_within r H) where
  go : (b : Bool) → length (upto r H) ≤ length H → length (cond b (e ∷ H) (upto r H)) ≤ length (e ∷ H)
  go true le = omega arith
  go false le = omega arith

length_upto : (h : List Entry) (r : ℕ) → r ≤ length h → length (upto r (history h)) ≡ r
length_upto h r le = ap length (upto_history r h le) ∙ length_history (take r h) ∙ length-take-le r h le

pub stand_short : (h : List Entry) (r k : ℕ) (ws : List What) → r ≤ length h → length h - r < length ws → upto (r + length ws) (history h) ≡ extended k ws (upto r (history h)) → ⊥
stand_short h r k ws le short e =
    let told = ap length e ∙ length-extended k ws (upto r (history h)) in
    omega (arith, told, length_within (r + length ws) (history h), length_upto h r le, length_history h)

-- an actor's entries between two places
between : (h : List Entry) (k from to : ℕ) → from ≤ to
    → own k (history (take to h)) ≡ own k (reverse (drop from (take to h))) ++ own k (history (take from h))
between h k from to le =
    ap (own k) (front_later h from to le) ∙ filter-append (λ e. e.actor == k) (reverse (drop from (take to h))) (history (take from h))

own_more : (k : ℕ) (H : History) (e : Entry) → e.actor ≡ k → own k (H ▷ e) ≡ e ∷ own k H
own_more k H e is = ap (λ b. cond b (e ∷ own k H) (own k H)) (eq-eqb e.actor k is)

pub loud : (h : List Entry) (k from to i : ℕ) (e : Entry) → i < to → to ≤ length h → e ≡ get_or h i e → e.actor ≡ k
    → own k (history (take i h)) ≡ own k (history (take from h)) → own k (history (take to h)) ≡ own k (history (take from h)) → ⊥
loud h k from to i e lt le at is before all =
    let one = ap (own k) (history_more h i e (omega arith) at) ∙ own_more k (history (take i h)) e is in
    let more = ap length (between h k (i + 1) to (omega arith)) ∙ length-append (own k (reverse (drop (i + 1) (take to h)))) (own k (history (take (i + 1) h))) in
    omega (arith, more, ap length one, ap length before, ap length all)

-- what is told of the first r entries
pub at_upto : (P : History → Type 0) (h : List Entry) (r : ℕ) → r ≤ length h → P (history (take r h)) → P (upto r (history h))
at_upto P h r le p = subst P (sym (upto_history r h le)) p

pub from_upto : (P : History → Type 0) (h : List Entry) (r : ℕ) → r ≤ length h → P (upto r (history h)) → P (history (take r h))
from_upto P h r le p = subst P (upto_history r h le) p

pub length_front : (h : List Entry) (r : ℕ) → r ≤ length h → r ≡ length (history (take r h))
length_front h r le = sym (length_history (take r h) ∙ length-take-le r h le)

-- an actor's entries before two places
pub quiet_upto : (h : List Entry) (k from to : ℕ) → from ≤ length h → to ≤ length h → own k (history (take to h)) ≡ own k (history (take from h)) → own k (upto to (history h)) ≡ own k (upto from (history h))
quiet_upto h k from to lf lt e = ap (own k) (upto_history to h lt) ∙ e ∙ ap (own k) (sym (upto_history from h lf))

pub upto_quiet : (h : List Entry) (k from to : ℕ) → from ≤ length h → to ≤ length h → own k (upto to (history h)) ≡ own k (upto from (history h)) → own k (history (take to h)) ≡ own k (history (take from h))
upto_quiet h k from to lf lt e = ap (own k) (sym (upto_history to h lt)) ∙ e ∙ ap (own k) (upto_history from h lf)

-- an actor's entries in all
pub all_quiet : (h : List Entry) (k from : ℕ) → from ≤ length h → own k (history (take (length h) h)) ≡ own k (history (take from h)) → own k (history h) ≡ own k (upto from (history h))
all_quiet h k from le e = ap (λ (xs : List Entry). own k (history xs)) (sym (take_all (length h) h (omega arith))) ∙ e ∙ ap (own k) (sym (upto_history from h le))

pub quiet_all : (h : List Entry) (k from : ℕ) → from ≤ length h → own k (history h) ≡ own k (upto from (history h)) → own k (history (take (length h) h)) ≡ own k (history (take from h))
quiet_all h k from le e = ap (λ (xs : List Entry). own k (history xs)) (take_all (length h) h (omega arith)) ∙ e ∙ ap (own k) (upto_history from h le)
