use Rattle.std.specs.Prelude.{is_ok}
use Rattle.std.proofs.Common.{◌≡◌, ◌∙◌, sym, ap, List, Ok}
use Rattle.s2_colbytes.specs.Numbers.{numbers}
use Rattle.s2_value.specs.declared.schemas.Col.{Col}
use Rattle.s2_segment.specs.Parts.{columns_at}
use Rattle.s2_segment.proofs.Again.{ids_judged, columns_judged, indexes_judged}
use Rattle.s2_segment.proofs.view.read_parts.Goals as goal

pub split_ids-requires : goal.split_ids-requires
split_ids-requires c = λ judged. ids_judged c.args.schema.now c.args.bytes.now (c.in_ok-count.count, c.in_ok-count.rest.now) c.in_ok-count.ensures.gives (c.requires judged)

pub read_columns-requires-clause-judged : goal.read_columns-requires-clause-judged
read_columns-requires-clause-judged c = λ judged.
    let n = c.in_ok-count.count in
    ap (λ (cs : List Col). is_ok (columns_at n 0 cs c.in_ok-ids.rest.now)) c.as_slice.ensures
    ∙ columns_judged c.args.schema.now c.args.bytes.now (n, c.in_ok-count.rest.now) (numbers 8 n c.in_ok-ids.ids.now, c.in_ok-ids.rest.now) c.in_ok-count.ensures.gives c.in_ok-ids.ensures.gives (c.requires judged)

pub read_indexes-requires : goal.read_indexes-requires
read_indexes-requires c = λ judged.
    let n = c.in_ok-count.count in
    let columns : columns_at n 0 c.args.schema.now.cols c.in_ok-ids.rest.now ≡ Ok (c.in_ok-columns.columns.items, c.in_ok-columns.rest.now) = ap (λ (cs : List Col). columns_at n 0 cs c.in_ok-ids.rest.now) (sym c.as_slice.ensures) ∙ c.in_ok-columns.ensures.gives in
    indexes_judged c.args.schema.now c.args.bytes.now (n, c.in_ok-count.rest.now) (numbers 8 n c.in_ok-ids.ids.now, c.in_ok-ids.rest.now) (c.in_ok-columns.columns.items, c.in_ok-columns.rest.now) c.in_ok-count.ensures.gives c.in_ok-ids.ensures.gives columns (c.requires judged)
