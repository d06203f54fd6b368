-- Texts between quotes: what is read is what was written, and what was written is read again.
use Rattle.std.proofs.Common.{◌≡◌, ℕ, Bool, true, false, cond, eqb, List, [], ◌∷◌, ◌++◌, get_or, Some, refl, sym, ap, subst, ◌∙◌}
use Rattle.std.specs.List.{flat_map}
use Rattle.std.proofs.lemmas.Bool.{eqb-true}
use Rattle.std.proofs.lemmas.Option.{cond_some}
use Rattle.s2_value.specs.RowText.{quoted_byte}
use Rattle.s2_token.specs.Lexing.{◌>>=◌, quoted_at}
use Rattle.s2_token.proofs.Tools.{bind_some, some_is}

pub quoted_plain : (b : ℕ) (bytes : List ℕ) → eqb b 39 ≡ false → quoted_at (b ∷ bytes) ≡ (quoted_at bytes >>= λ x. Some (b ∷ x.0, x.1))
unfolding quoted_at
quoted_plain b [] h = rw h refl
quoted_plain b (c ∷ bytes) h = rw h refl

quoted_end : (rest : List ℕ) → eqb (get_or rest 0 0) 39 ≡ false → quoted_at (39 ∷ rest) ≡ Some ([], rest)
unfolding quoted_at
quoted_end [] h = refl
quoted_end (b ∷ rest) h = rw h refl

pub quoted_pair : (bytes : List ℕ) → quoted_at (39 ∷ 39 ∷ bytes) ≡ (quoted_at bytes >>= λ x. Some (39 ∷ x.0, x.1))
unfolding quoted_at
quoted_pair bytes = refl

quoted_more : (b : ℕ) (text rest : List ℕ) (t : Bool) → eqb b 39 ≡ t → quoted_at (flat_map quoted_byte text ++ (39 ∷ rest)) ≡ Some (text, rest)
    → quoted_at ((cond t (39 ∷ 39 ∷ []) (b ∷ []) ++ flat_map quoted_byte text) ++ (39 ∷ rest)) ≡ Some (b ∷ text, rest)
quoted_more b text rest true e again =
    let is : b ≡ 39 = eqb-true b 39 e in
    quoted_pair (flat_map quoted_byte text ++ (39 ∷ rest)) ∙ rw again (ap (λ (k : ℕ). Some (k ∷ text, rest)) (sym is))
quoted_more b text rest false e again = quoted_plain b (flat_map quoted_byte text ++ (39 ∷ rest)) e ∙ rw again refl

-- a text is read up to its closing quote, where no quote follows
pub quoted_again : (text rest : List ℕ) → eqb (get_or rest 0 0) 39 ≡ false → quoted_at (flat_map quoted_byte text ++ (39 ∷ rest)) ≡ Some (text, rest)
quoted_again [] rest h = quoted_end rest h
quoted_again (b ∷ text) rest h = quoted_more b text rest (eqb b 39) refl (quoted_again text rest h)

abbrev pub IsQuoted : List ℕ → List ℕ × List ℕ → Type 0
IsQuoted bytes x = bytes ≡ flat_map quoted_byte x.0 ++ (39 ∷ x.1)

abbrev QuotedTakes : List ℕ → Type 0
QuotedTakes bytes = (x : List ℕ × List ℕ) → quoted_at bytes ≡ Some x → IsQuoted bytes x

step_takes : (b c : ℕ) (bytes : List ℕ) (x : List ℕ × List ℕ) → QuotedTakes bytes → QuotedTakes (c ∷ bytes) → (p q : Bool) → eqb b 39 ≡ p → eqb c 39 ≡ q
    → cond p (cond q (quoted_at bytes >>= λ y. Some (39 ∷ y.0, y.1)) (Some ([], c ∷ bytes))) (quoted_at (c ∷ bytes) >>= λ y. Some (b ∷ y.0, y.1)) ≡ Some x
    → IsQuoted (b ∷ c ∷ bytes) x
step_takes b c bytes x after-two after-one true true p q e =
    let g = bind_some (quoted_at bytes) (λ y. Some (39 ∷ y.0, y.1)) x e in
    let ih : bytes ≡ flat_map quoted_byte g.0.0 ++ (39 ∷ g.0.1) = after-two g.0 g.1 in
    let b_is : b ≡ 39 = eqb-true b 39 p in
    let c_is : c ≡ 39 = eqb-true c 39 q in
    let made : List ℕ × List ℕ = (39 ∷ g.0.0, g.0.1) in
    let whole : b ∷ c ∷ bytes ≡ 39 ∷ 39 ∷ (flat_map quoted_byte g.0.0 ++ (39 ∷ g.0.1)) = cc in
    subst (IsQuoted (b ∷ c ∷ bytes)) (some_is made x g.2) whole
step_takes b c bytes x after-two after-one true false p q e =
    let b_is : b ≡ 39 = eqb-true b 39 p in
    let made : List ℕ × List ℕ = ([], c ∷ bytes) in
    let whole : b ∷ c ∷ bytes ≡ 39 ∷ c ∷ bytes = cc in
    subst (IsQuoted (b ∷ c ∷ bytes)) (some_is made x e) whole
step_takes b c bytes x after-two after-one false q p _ e =
    let g = bind_some (quoted_at (c ∷ bytes)) (λ y. Some (b ∷ y.0, y.1)) x e in
    let ih : c ∷ bytes ≡ flat_map quoted_byte g.0.0 ++ (39 ∷ g.0.1) = after-one g.0 g.1 in
    let made : List ℕ × List ℕ = (b ∷ g.0.0, g.0.1) in
    let whole : IsQuoted (b ∷ c ∷ bytes) made = rw p (ap (λ (t : List ℕ). b ∷ t) ih) in
    subst (IsQuoted (b ∷ c ∷ bytes)) (some_is made x g.2) whole

pub quoted_takes : (bytes : List ℕ) (x : List ℕ × List ℕ) → quoted_at bytes ≡ Some x → IsQuoted bytes x
unfolding quoted_at
quoted_takes [] x e = absurd cc
quoted_takes (b ∷ []) x e =
    let g = cond_some (eqb b 39) ([], []) x e in
    let is : b ≡ 39 = eqb-true b 39 g.0 in
    let whole : b ∷ [] ≡ 39 ∷ [] = cc in
    subst (IsQuoted (b ∷ [])) g.1 whole
quoted_takes (b ∷ c ∷ bytes) x e = step_takes b c bytes x (quoted_takes bytes) (quoted_takes (c ∷ bytes)) (eqb b 39) (eqb c 39) refl refl e
