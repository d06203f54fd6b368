use Rattle.std.proofs.Common.{◌≡◌, true, subst, sym, ◌∙◌, Decides}
use Rattle.std.specs.Cmp.Lexicographic.{pointwise_decides}
use Rattle.s2_value.specs.declared.values.Value.{Value}
use Rattle.s2_value.specs.Order.{value_eq, value_eq_equiv, same_value}
use Rattle.s2_legal.proofs.same.same_row.Goals as goal

value_decides : (x y : Value) → Decides (value_eq x y) (x ≡ y)
value_decides x y = (same_value x y, λ e. subst (λ z. value_eq x z ≡ true) e (value_eq_equiv.refl x))

pub returns : goal.returns
returns c =
    let told = pointwise_decides value_decides c.args.a.now c.args.b.now in
    (λ e. told.0 (sym c.eq.ensures ∙ e), λ e. c.eq.ensures ∙ told.1 e)
