use Rattle.std.proofs.Common.{◌≡◌, [], ◌∷◌, ◌++◌, Err, sym}
use Rattle.std.proofs.lemmas.Result.{err_from_is_err_and}
use Rattle.s2_outread.specs.Reading.{list_at}
use Rattle.s2_outread.proofs.ListLaws.{list_fails, list_last, list_step, err_gives}
use Rattle.s2_outread.proofs.lists.list.Goals as goal

pub returns-in_err-item : goal.returns-in_err-item
returns-in_err-item g c =
    let p = err_from_is_err_and c.from_residual.result c.from_residual.ensures.1 in
    let same : c.from_residual.result ≡ Err c.in_err-item.field-0.0 = cc (p.1, p.2) in
    err_gives (λ x. (x.0, x.1.now)) c.from_residual.result (list_at g.T.Item.at c.args.bytes.now) c.in_err-item.field-0.0 same
    (list_fails g.T.Item.at c.loop-byte.items.items c.loop-byte._byte-index c.args.bytes.now c.loop-byte.left.now c.in_err-item.field-0.0 c.loop-byte-test.true c.loop-byte.invariant c.in_err-item.ensures)

pub returns-in-None : goal.returns-in-None
returns-in-None g c =
    let e : c.push.new.self.items ≡ c.loop-byte.items.items ++ c.in_ok-item.item ∷ [] = c.in_ok-push.ensures.items in
    rw (c.from_vec.ensures, e)
    (list_last g.T.Item.at c.loop-byte.items.items c.loop-byte._byte-index c.args.bytes.now c.loop-byte.left.now c.in_ok-item.item c.in_ok-item.rest.now c.loop-byte-test.true c.loop-byte.invariant c.in_ok-item.ensures (sym c.in-None.ensures))

pub loop-byte-preserved : goal.loop-byte-preserved
loop-byte-preserved g c =
    let e : c.push.new.self.items ≡ c.loop-byte.items.items ++ c.in_ok-item.item ∷ [] = c.in_ok-push.ensures.items in
    rw e
    (list_step g.T.Item.at c.loop-byte.items.items c.loop-byte._byte-index c.args.bytes.now c.loop-byte.left.now c.in_ok-item.item c.in_ok-item.rest.now c.in-Some.later.now c.loop-byte-test.true c.loop-byte.invariant c.in_ok-item.ensures (sym c.in-Some.ensures))
