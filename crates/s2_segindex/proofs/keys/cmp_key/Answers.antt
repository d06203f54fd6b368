use Rattle.std.proofs.Common.{◌≡◌, ℕ, List, ◌+◌, ◌-◌, ◌<◌, ◌∙◌, sym, ap, arith, length, drop, Ordering, Less, Greater, Equal}
use Rattle.std.specs.Ordering.{ordering_then}
use Rattle.s2_value.specs.Order.{value_cmp, row_cmp}
use Rattle.s2_segindex.specs.Places.{value_in, after_value, key_in}
use Rattle.s2_segindex.proofs.Steps.{cmp_from, cmp_end}
use Rattle.s2_segindex.proofs.keys.cmp_key.Goals as goal

pub returns-in-Less : goal.returns-in-Less
returns-in-Less c =
    let s = cmp_from c.args.key.now c.loop-value.value-index c.value-item.result c.loop-value.left c.loop-value.rest.now c.cmp_value.result (omega arith) c.value-item.is (omega arith) c.cmp_value.ensures in
    sym (ap (λ (o : Ordering). ordering_then o (row_cmp (drop (c.loop-value.value-index + 1) c.args.key.now) (key_in (c.loop-value.left - 1) (after_value c.loop-value.rest.now)))) c.in-Less.is) ∙ sym s ∙ c.loop-value.invariant

pub returns-in-Greater : goal.returns-in-Greater
returns-in-Greater c =
    let s = cmp_from c.args.key.now c.loop-value.value-index c.value-item.result c.loop-value.left c.loop-value.rest.now c.cmp_value.result (omega arith) c.value-item.is (omega arith) c.cmp_value.ensures in
    sym (ap (λ (o : Ordering). ordering_then o (row_cmp (drop (c.loop-value.value-index + 1) c.args.key.now) (key_in (c.loop-value.left - 1) (after_value c.loop-value.rest.now)))) c.in-Greater.is) ∙ sym s ∙ c.loop-value.invariant

pub loop-value-preserved : goal.loop-value-preserved
loop-value-preserved c =
    let s = cmp_from c.args.key.now c.loop-value.value-index c.value-item.result c.loop-value.left c.loop-value.rest.now c.cmp_value.result (omega arith) c.value-item.is (omega arith) c.cmp_value.ensures in
    ap (λ (bs : List ℕ). row_cmp (drop (c.loop-value.value-index + 1) c.args.key.now) (key_in (c.loop-value.left - 1) bs)) c.after_value-rest.ensures
    ∙ sym (ap (λ (o : Ordering). ordering_then o (row_cmp (drop (c.loop-value.value-index + 1) c.args.key.now) (key_in (c.loop-value.left - 1) (after_value c.loop-value.rest.now)))) c.in-Equal.is) ∙ sym s ∙ c.loop-value.invariant

pub returns-else-left-eq0-2 : goal.returns-else-left-eq0-2
returns-else-left-eq0-2 c = sym (cmp_end c.args.key.now c.loop-value.value-index c.loop-value.left c.loop-value.rest.now (omega arith) (omega arith)) ∙ c.loop-value.invariant
