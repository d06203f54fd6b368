use Rattle.std.proofs.Common.{◌≡◌, ◌++◌, OnOk, codes, ℕ, List, [], Result, Ok, Err, sym, ap, ◌∙◌, append_assoc, append-nil}
use Rattle.s2_line.specs.declared.forms.RawOf.TheVariants as raw
use Rattle.s2_sqltext.specs.Printing.{line_text}
use Rattle.s2_sqltext.proofs.lines.options.Goals as goal

lift : {A E : Type 0} (r : Result A E) (P Q : Type 0) → (P → Q) → OnOk r P → OnOk r Q
lift (Ok x) P Q f h = f h
lift (Err e) P Q f h = tt

five : (out s f n k w one two three four last : List ℕ) → one ≡ out ++ s → two ≡ one ++ f → three ≡ two ++ n → four ≡ three ++ k → last ≡ four ++ w
    → last ≡ out ++ (s ++ (f ++ (n ++ (k ++ (w ++ [])))))
five out s f n k w one two three four last e1 e2 e3 e4 e5 =
    e5 ∙ ap (λ (x : List ℕ). x ++ w) (e4 ∙ ap (λ (x : List ℕ). x ++ k) (e3 ∙ ap (λ (x : List ℕ). x ++ n) (e2 ∙ ap (λ (x : List ℕ). x ++ f) e1)))
    ∙ append_assoc (((out ++ s) ++ f) ++ n) k w
    ∙ append_assoc ((out ++ s) ++ f) n (k ++ w)
    ∙ append_assoc (out ++ s) f (n ++ (k ++ w))
    ∙ append_assoc out s (f ++ (n ++ (k ++ w)))
    ∙ ap (λ (x : List ℕ). out ++ (s ++ (f ++ (n ++ (k ++ x))))) (sym (append-nil w))

pub returns : goal.returns
returns c =
    lift c.option-5.result _ _ (λ e. five _ _ _ _ _ _ _ _ _ _ _ c.in_ok-option.ensures c.in_ok-option-2.ensures c.in_ok-option-3.ensures c.in_ok-option-4.ensures
    (e ∙ ap (λ (n : ℕ). c.option-4.new.out.items ++ line_text (raw.Option (codes "workers") n)) c.workers_number.ensures)) c.option-5.ensures
