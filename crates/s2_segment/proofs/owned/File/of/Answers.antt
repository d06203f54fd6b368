use Rattle.std.proofs.Common.{◌≡◌, ◌∙◌, sym, ap, subst, Ok}
use Rattle.s2_colbytes.specs.Numbers.{IsBytes}
use Rattle.s2_segment.specs.Owned.{rows_at}
use Rattle.s2_segment.proofs.Judged.{is_file, judged_is}
use Rattle.s2_segment.proofs.owned.File.of.Goals as goal

pub invariant_of-result : goal.invariant_of-result
invariant_of-result c =
    let narrow : IsBytes c.args.bytes.items = subst IsBytes c.as_slice.ensures.value c.in_ok-rows.ensures.narrow in
    let read : rows_at c.args.schema.now c.args.bytes.items ≡ Ok c.in_ok-rows.rows.items = ap (rows_at c.args.schema.now) (sym c.as_slice.ensures.value) ∙ c.in_ok-rows.ensures.gives in
    is_file c.args.schema.now c.in_ok-same.same c.args.bytes.items c.in_ok-rows.rows.items narrow read c.in_ok-same.ensures

pub returns-clause-gives : goal.returns-clause-gives
returns-clause-gives c =
    let read : rows_at c.args.schema.now c.args.bytes.items ≡ Ok c.in_ok-rows.rows.items = ap (rows_at c.args.schema.now) (sym c.as_slice.ensures.value) ∙ c.in_ok-rows.ensures.gives in
    judged_is c.args.schema.now c.in_ok-same.same c.args.bytes.items c.in_ok-rows.rows.items read c.in_ok-same.ensures
