use Rattle.std.proofs.Common.{◌≡◌, ◌++◌, ◌∷◌, [], arith, ◌∙◌, ap, sym, List, ℕ}
use Rattle.std.proofs.lemmas.List.{append_assoc, append-nil}
use Rattle.s2_bits.specs.Bits.{places_in}
use Rattle.s2_bits.proofs.Kept.{places_first, rest_less, places_none}
use Rattle.s2_bits.proofs.words.push_ones.Goals as goal

pub loop-rest-smaller : goal.loop-rest-smaller
loop-rest-smaller c = rest_less c.loop-rest.rest (omega arith) (omega arith)

one_more : (old new : List ℕ) (x : ℕ) (all left rest : List ℕ) → new ≡ old ++ x ∷ [] → left ≡ x ∷ rest → old ++ left ≡ all → new ++ rest ≡ all
one_more old new x all left rest e f h =
    ap (λ (xs : List ℕ). xs ++ rest) e ∙ append_assoc old (x ∷ []) rest ∙ ap (λ (xs : List ℕ). old ++ xs) (sym f) ∙ h

pub loop-rest-preserved : goal.loop-rest-preserved
loop-rest-preserved c =
    one_more c.loop-rest.places.items _ _ _ (places_in c.args.base c.loop-rest.rest) _ c.in_ok-push.ensures.items (places_first c.args.base c.loop-rest.rest (omega arith) (omega arith)) c.loop-rest.invariant

pub returns : goal.returns
returns c =
    let none : places_in c.args.base c.loop-rest.rest ≡ [] = ap (places_in c.args.base) c.loop-rest-test.false ∙ places_none c.args.base in
    sym (append-nil c.loop-rest.places.items) ∙ ap (λ (xs : List ℕ). c.loop-rest.places.items ++ xs) (sym none) ∙ c.loop-rest.invariant
