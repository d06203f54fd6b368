use Rattle.std.proofs.Common.{◌≡◌, ◌∙◌, sym, ap, ℕ, List}
use Rattle.std.specs.Prelude.{nat_eq}
use Rattle.std.specs.Cmp.Lexicographic.{pointwise, nat_list_eq_equiv}
use Rattle.s2_segment.specs.Checks.{key_block}
use Rattle.s2_segment.proofs.order.is_right.Goals as goal

pub returns-then-is_matched : goal.returns-then-is_matched
returns-then-is_matched c =
    let bytes : List ℕ = c.args.index.now.bytes.now in
    let same : bytes ≡ key_block c.args.rows.now c.args.key.now = c.is_matched.ensures c.if-is_matched.true ∙ ap (key_block c.args.rows.now) c.as_slice.ensures in
    sym (ap (pointwise nat_eq bytes) (sym same) ∙ nat_list_eq_equiv.refl bytes)

pub returns : goal.returns
returns c =
    let bytes : List ℕ = c.args.index.now.bytes.now in
    c.are_same.ensures ∙ ap (pointwise nat_eq bytes) (c.as_slice-2.ensures.value ∙ c.in_ok-block.ensures)
