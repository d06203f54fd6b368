use Rattle.std.proofs.Common.{◌≡◌, ◌∙◌, sym, ap, List, [], ◌∷◌, ◌++◌, rules}
use Rattle.std.proofs.lemmas.List.{append_assoc}
use Rattle.s2_rowstore.proofs.lines.boxed.Goals as goal

-- one more item stands in its place
moved : {A : Type 0} (done now left rest all : List A) (x y : A) → now ≡ done ++ y ∷ [] → left ≡ x ∷ rest → y ≡ x → done ++ left ≡ all → now ++ rest ≡ all
moved done now left rest all x y put step same h = ap (λ xs. xs ++ rest) put ∙ append_assoc done (y ∷ []) rest ∙ ap (λ z. done ++ z ∷ rest) same ∙ ap (λ zs. done ++ zs) (sym step) ∙ h

pub loop-id-preserved : goal.loop-id-preserved
loop-id-preserved c = (
  tt,
  tt,
  moved c.loop-id.boxes.items c.push.new.self.items _ _ _ (c.in-Some.id, c.in-Some.change) (c.in-Some.id, c.in_ok-new.field-0) c.in_ok-push.ensures.items c.in-Some.ensures.steps.0 (search rules) c.loop-id.invariant.2,
)
