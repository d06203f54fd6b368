use Rattle.s2_script.proofs.InsertLaws.{is_insert}
use Rattle.s2_script.proofs.inserts.insert.Goals as goal

pub returns-then-over : goal.returns-then-over
returns-then-over c =
    is_insert c.args.bytes.now c.in_ok-session.session c.in_ok-session.table c.in_ok-session.at_tuples.now c.in_ok-tuples.tuples c.in_ok-tuples.left.now
    c.in_ok-session.ensures c.in_ok-tuples.ensures (c.in_ok-over.ensures c.if-over.true)
