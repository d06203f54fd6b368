use Rattle.s2_script.proofs.InsertLaws.{head_begins}
use Rattle.s2_script.proofs.inserts.head.Goals as goal

pub returns : goal.returns
returns c =
    head_begins c.args.bytes.now c.in_ok-session.session c.in_ok-session.at_colon.now c.in_ok-at_insert.at_insert.now c.in_ok-at_into.at_into.now c.in_ok-at_table.at_table.now c.in_ok-table.table c.in_ok-table.at_values.now c.in_ok-left.left.now
    c.in_ok-session.ensures c.in_ok-at_insert.ensures c.in_ok-at_into.ensures c.in_ok-at_table.ensures c.in_ok-table.ensures c.in_ok-left.ensures
