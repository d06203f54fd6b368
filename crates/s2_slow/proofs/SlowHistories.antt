-- A history from a slice of entries, the oldest first.
use Rattle.std.proofs.Common.{◌≡◌, ℕ, ◌+◌, ◌≤◌, ◌<◌, List, [], ◌∷◌, ◌++◌, length, take, drop, get_or, reverse, refl, sym, ap, ◌∙◌, arith, length-append, length-take-le}
use Rattle.std.proofs.lemmas.List.{take_more, reverse-append, length-reverse, take-append-drop}
use Rattle.s2_model.specs.declared.entries.Entry.{Entry}
use Rattle.s2_model.specs.History.{History, ◌▷◌, history, upto}
use Rattle.s2_model.proofs.Timestamps.{upto_past, upto_all}

-- one entry more
pub history_more : (h : List Entry) (i : ℕ) (e : Entry) → i < length h → e ≡ get_or h i e → history (take (i + 1) h) ≡ history (take i h) ▷ e
history_more h i e lt read =
    ap reverse (take_more h i e lt ∙ ap (λ x. take i h ++ x ∷ []) (sym read)) ∙ reverse-append (take i h) (e ∷ [])

pub length_history : (h : List Entry) → length (history h) ≡ length h
length_history h = length-reverse h

-- later entries don't stand in an earlier history
upto_later : (r : ℕ) (later H : History) → r ≤ length H → upto r (later ++ H) ≡ upto r H
upto_later r [] H le = refl
upto_later r (e ∷ later) H le =
    upto_past r (later ++ H) e (omega (arith, length-append later H)) ∙ upto_later r later H le

-- the history at timestamp r is that of the first r entries
pub upto_history : (r : ℕ) (h : List Entry) → r ≤ length h → upto r (history h) ≡ history (take r h)
upto_history r h le =
    let front : length (history (take r h)) ≡ r = length-reverse (take r h) ∙ length-take-le r h le in
    ap (λ es. upto r (reverse es)) (sym (take-append-drop r h))
    ∙ ap (upto r) (reverse-append (take r h) (drop r h))
    ∙ upto_later r (history (drop r h)) (history (take r h)) (omega arith)
    ∙ upto_all r (history (take r h)) (omega arith)
