use Rattle.std.proofs.lemmas.Result.{on_ok_weaker}
use Rattle.s2_legal.proofs.Indexes.{taken_none, noted}
use Rattle.s2_legal.proofs.index.note.Goals as goal

pub put_back-requires : goal.put_back-requires
put_back-requires c = taken_none c.args.index.now c.take-ids.new.index c.args.value c.take-ids.ensures.others

pub returns : goal.returns
returns c =
    on_ok_weaker c.put_back.result
    (λ put. noted c.args.index.now c.take-ids.new.index c.put_back.new.index c.args.value c.args.id c.take-ids.result c.put_number.new.ids c.take-ids.ensures.numbers c.take-ids.ensures.others c.in_ok-put_number.ensures put)
    c.put_back.ensures
