-- What a test that changes neither itself nor the elements leaves of a list.
use Rattle.std.proofs.Common.{◌≡◌, ◌∙◌, ap, subst, Bool, cond, List, [], ◌∷◌}
use Rattle.std.specs.List.{filter}
use Rattle.std.specs.List.Retain.{RetainsInTurn}

module _ {S X : Type 0} (R : S → X → Bool → S → X → Type 0) (test : X → Bool) (s : S) (h : (x : X) (b : Bool) (t : S) (y : X) → R s x b t y → (b ≡ test x) × (t ≡ s) × (y ≡ x)) where
  pub retained : (xs ys : List X) → RetainsInTurn R s xs ys → ys ≡ filter test xs
  retained [] ys k = k
  retained (x ∷ xs) ys k =
      let one = h x k.0 k.1 k.2 k.3 in
      let rest : RetainsInTurn R s xs k.4 = subst (λ u. RetainsInTurn R u xs k.4) one.1 k.5 in
      k.6 ∙ ap (λ b. cond b (k.2 ∷ k.4) k.4) one.0 ∙ ap (λ z. cond (test x) (z ∷ k.4) k.4) one.2 ∙ ap (λ zs. cond (test x) (x ∷ zs) zs) (retained xs k.4 rest)
