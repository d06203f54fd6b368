use Rattle.std.proofs.Common.{length}
use Rattle.s2_value.specs.Columns.{are_below}
use Rattle.s2_segment.proofs.Tables.{rows_below, all_later, sort_below}
use Rattle.s2_segment.proofs.order.are_in_order.Goals as goal

pub are_in_order_from-requires-clause-rows : goal.are_in_order_from-requires-clause-rows
are_in_order_from-requires-clause-rows c =
    let s = c.args.schema.now in
    all_later (λ r. are_below (length r) s.sort) _ c.args.rows.now (rows_below (length s.cols) s.sort c.args.rows.now (sort_below (length s.cols) s.uniques s.indexes s.sort s.within) c.requires.rows)
