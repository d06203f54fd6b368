use Rattle.std.proofs.Common.{sym}
use Rattle.std.proofs.lemmas.Result.{on_ok_weaker}
use Rattle.s2_txn.proofs.SharedValues.{put_again, put_first}
use Rattle.s2_txn.proofs.duplicates.PutValues.add.Goals as goal

pub returns-then-contains : goal.returns-then-contains
returns-then-contains c =
    on_ok_weaker c.put_key.result (put_again c.args.key c.args.self.now c.put_key.new.keys (sym c.if-contains.ensures)) c.put_key.ensures

pub returns-else-contains : goal.returns-else-contains
returns-else-contains c =
    on_ok_weaker c.put_key-else-contains.result (put_first c.args.key c.args.self.now c.put_key-else-contains.new.keys (sym c.if-contains.ensures)) c.put_key-else-contains.ensures
