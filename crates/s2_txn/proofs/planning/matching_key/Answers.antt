use Rattle.std.proofs.Common.{ap, ◌∙◌}
use Rattle.s2_txn.specs.Planning.{rows_among}
use Rattle.s2_txn.proofs.Keyed.{matching_row, keyed_rows}
use Rattle.s2_txn.proofs.planning.matching_key.Goals as goal

pub returns : goal.returns
returns c =
    let ids = c.in_ok-ids.ids.items in
    c.from_vec.ensures ∙ c.in_ok-rows.ensures
    ∙ ap (rows_among (matching_row c.args.s.now c.args.actor c.args.pred.now)) c.as_slice.ensures.value
    ∙ keyed_rows c.args.s.now c.args.actor c.args.pred.now c.args.j c.args.key.now ids c.requires.good c.requires.fixed.1 c.in_ok-ids.ensures.rows
    c.in_ok-ids.ensures.rising
