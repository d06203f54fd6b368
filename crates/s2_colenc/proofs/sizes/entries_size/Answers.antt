use Rattle.std.proofs.Common.{◌≡◌, ◌+◌, ◌∙◌, ap, arith, take, ◌∷◌, [], ◌++◌, sym, subst}
use Rattle.std.specs.List.{AllByRecursion}
use Rattle.std.proofs.lemmas.List.{take_more}
use Rattle.std.proofs.lemmas.Grind.{common_steps}
use Rattle.s2_value.specs.declared.values.Value.{Value}
use Rattle.s2_colenc.specs.Spells.{IsValue}
use Rattle.s2_colenc.proofs.Members.{all_push}
use Rattle.s2_colenc.proofs.sizes.entries_size.Goals as goal

pub loop-val-preserved : goal.loop-val-preserved
loop-val-preserved c =
    let i = c.loop-val.val-index in
    let vals = c.args.vals.now in
    let v = c.val-item.result in
    let next : take (i + 1) vals ≡ take i vals ++ v ∷ [] = take_more vals i v c.loop-val-test.true ∙ ap (λ (x : Value). take i vals ++ x ∷ []) (sym c.val-item.is) in
    record {
      sum = grind (arith, common_steps);
      values = subst (AllByRecursion IsValue) (sym next) (all_push IsValue (take i vals) v c.loop-val.invariant.values c.entry_size-total.ensures.value);
      small = grind (arith, common_steps);
    }
