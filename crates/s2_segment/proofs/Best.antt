-- The best of values as one more is looked at.
use Rattle.std.proofs.Common.{◌≡◌, ℕ, suc, ◌+◌, ◌<◌, ◌≤◌, List, [], ◌∷◌, ◌++◌, length, take, get_or, refl, sym, ap, ◌∙◌, arith}
use Rattle.std.specs.List.{fold}
use Rattle.std.proofs.lemmas.List.{take_more, length-take-le}
use Rattle.std.proofs.lemmas.List.Sums.{fold-append}
use Rattle.s2_value.specs.declared.values.Value.{Value}
use Rattle.s2_model.specs.Needed.{best_of_values}

best_push : (better : Value → Value → Value) (vals : List Value) (w : Value) → 0 < length vals → best_of_values better (vals ++ w ∷ []) ≡ better (best_of_values better vals) w
best_push better [] w l = absurd (omega arith)
best_push better (v ∷ vals) w l = fold-append better v vals (w ∷ [])

pub best_more : (better : Value → Value → Value) (vals : List Value) (i : ℕ) (best w next : Value) → 1 ≤ i → i < length vals → w ≡ get_or vals i w → best ≡ best_of_values better (take i vals) → next ≡ better best w → next ≡ best_of_values better (take (i + 1) vals)
best_more better vals i best w next one l e b n =
    let len = length-take-le i vals (omega arith) in
    n ∙ ap (λ (x : Value). better x w) b ∙ sym (best_push better (take i vals) w (omega arith))
    ∙ ap (λ (x : Value). best_of_values better (take i vals ++ x ∷ [])) e
    ∙ ap (best_of_values better) (sym (take_more vals i w l))

pub best_first : (better : Value → Value → Value) (vals : List Value) (v : Value) → 0 < length vals → v ≡ get_or vals 0 v → v ≡ best_of_values better (take 1 vals)
best_first better [] v l e = absurd (omega arith)
best_first better (w ∷ vals) v l e = e
