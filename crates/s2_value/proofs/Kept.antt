-- What a later step keeps of a list, the earlier steps kept.
use Rattle.std.proofs.Common.{◌≡◌, ℕ, ◌≤◌, List, ◌++◌, length, take, refl, sym, ◌∙◌, ap, arith, length-append, append_assoc}
use Rattle.std.proofs.lemmas.List.{take-take, take_at}

pub kept : (old a mid new : List ℕ) → mid ≡ old ++ a → take (length mid) new ≡ mid → take (length old) new ≡ old
kept old a mid new e k =
    let fits : length old ≤ length mid = omega (arith, ap length e, length-append old a) in
    sym (take-take (length old) (length mid) new fits) ∙ ap (take (length old)) (k ∙ e) ∙ take_at old a (length old) refl

pub kept_again : (old a mid b later new : List ℕ) → mid ≡ old ++ a → later ≡ mid ++ b → take (length later) new ≡ later → take (length old) new ≡ old
kept_again old a mid b later new e f k =
    kept old (a ++ b) later new (f ∙ ap (λ l. l ++ b) e ∙ append_assoc old a b) k
