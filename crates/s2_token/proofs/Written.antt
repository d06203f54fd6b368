-- One printed token more.
use Rattle.std.proofs.Common.{◌≡◌, ℕ, Bool, List, ◌∷◌, ◌++◌, ap, ◌∙◌, append_assoc}
use Rattle.s2_token.specs.declared.types.Token.{Token}
use Rattle.s2_token.specs.Printing.{gap, is_named, later_text, token_text}

pub one_more : (out new : List ℕ) (a : Bool) (left t : Token) (later : List Token) → new ≡ out ++ (gap a left t ++ token_text t) → new ++ later_text (is_named left) t later ≡ out ++ later_text a left (t ∷ later)
unfolding later_text
one_more out new a left t later h =
    ap (λ (l : List ℕ). l ++ later_text (is_named left) t later) h ∙ append_assoc out (gap a left t ++ token_text t) (later_text (is_named left) t later)
