use Rattle.std.proofs.Common.{List, ℕ, subst}
use Rattle.std.proofs.lemmas.Result.{err_from_is_err_and}
use Rattle.s2_run.proofs.Fronts.{Front, front_at}
use Rattle.s2_run.proofs.pieces.write_pieces.Goals as goal

pub returns-in_err-write_all-clause-front : goal.returns-in_err-write_all-clause-front
returns-in_err-write_all-clause-front g c =
    let before = g.W.Sink.taken c.loop-piece.out in
    let now = g.W.Sink.taken c.write_all.new.out in
    let p = err_from_is_err_and c.from_residual.result c.from_residual.ensures.1 in
    rw p.1 (front_at (g.W.Sink.taken c.args.out.now) before now c.args.pieces.now c.loop-piece.piece-index c.piece-item.result
    c.loop-piece-test.true c.piece-item.is c.loop-piece.invariant.wrote
    (subst (λ (piece : List ℕ). Front before now piece) c.as_slice.ensures c.in_err-write_all.ensures.front))
