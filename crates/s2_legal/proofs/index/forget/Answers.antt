use Rattle.std.proofs.lemmas.Result.{on_ok_weaker}
use Rattle.s2_legal.proofs.Indexes.{found_none, found_dropped}
use Rattle.s2_legal.proofs.index.forget.Goals as goal

pub returns-in-Some : goal.returns-in-Some
returns-in-Some c =
    on_ok_weaker c.unnote_row.result
    (λ drops. found_dropped c.args.keys.now c.args.number c.in-Some.row.now c.args.rows.now.entries c.args.index.now c.unnote_row.new.index drops)
    c.unnote_row.ensures

pub returns-in-None : goal.returns-in-None
returns-in-None c = found_none c.args.keys.now c.args.number c.args.rows.now.entries c.args.index.now
