use Rattle.std.proofs.Common.{◌≡◌, ◌+◌, ◌++◌, ◌∷◌, [], ◌<◌, ℕ, List, length, get_or, take, fold, sym, ap, ◌∙◌}
use Rattle.std.proofs.lemmas.List.{take_more}
use Rattle.std.proofs.lemmas.List.Sums.{fold_more}
use Rattle.s2_value.specs.declared.values.Value.{Value}
use Rattle.s2_colruns.specs.Dictionary.{with_value, dictionary_of}
use Rattle.s2_colruns.proofs.Grown.{Numbers, numbers_more}
use Rattle.s2_colruns.proofs.dictionary.number_values.Goals as goal

-- one more value
record More (keys : List Value) (codes : List ℕ) (vals : List Value) : Type 0 where
  dict : keys ≡ dictionary_of vals
  numbers : Numbers keys codes vals

more : (keys new : List Value) (codes pushed : List ℕ) (vals : List Value) (i : ℕ) (v : Value) (c : ℕ) → i < length vals → v ≡ get_or vals i v → keys ≡ dictionary_of (take i vals) → Numbers keys codes (take i vals) → new ≡ with_value keys v → c < length new → get_or new c v ≡ v → pushed ≡ codes ++ c ∷ [] → More new pushed (take (i + 1) vals)
more keys new codes pushed vals i v c l item d n e w s p =
    let next : take (i + 1) vals ≡ take i vals ++ v ∷ [] = take_more vals i v l ∙ ap (λ (x : Value). take i vals ++ x ∷ []) (sym item) in
    record {
      dict = e ∙ ap (λ (ks : List Value). with_value ks v) d ∙ sym (fold_more with_value [] vals i v l ∙ ap (λ (x : Value). with_value (dictionary_of (take i vals)) x) (sym item));
      numbers = rw (next, p) (numbers_more keys new codes (take i vals) v c n e w s);
    }

pub loop-value-preserved : goal.loop-value-preserved
loop-value-preserved c =
    let r = more c.loop-value.dict.keys c.code_of.new.dict.keys c.loop-value.codes.items c.push.new.self.items c.args.vals.now c.loop-value.value-index c.value-item.result c.in_ok-code.code c.loop-value-test.true c.value-item.is c.loop-value.invariant.dict c.loop-value.invariant.numbers c.in_ok-code.ensures.dict c.in_ok-code.ensures.within c.in_ok-code.ensures.stands c.in_ok-push.ensures.items in
    record { dict = r.dict; numbers = r.numbers }
