use Rattle.std.proofs.Common.{List, ℕ, ◌++◌, ap, ◌∙◌, subst}
use Rattle.std.proofs.lemmas.Result.{err_from_is_err_and}
use Rattle.s2_run.proofs.Fronts.{joined, Front, front_right}
use Rattle.s2_run.proofs.pieces.write_text.Goals as goal

pub returns-in_err-write_all-clause-front : goal.returns-in_err-write_all-clause-front
returns-in_err-write_all-clause-front g c =
    let first = g.W.Sink.taken c.args.out.now in
    let now = g.W.Sink.taken c.write_all.new.out in
    let last = c.as_slice-2.result.now in
    let p = err_from_is_err_and c.from_residual-in_err-write_all.result c.from_residual-in_err-write_all.ensures.1 in
    rw p.1 (subst (λ (text : List ℕ). Front first now text)
    (ap (λ (pieces : List (List ℕ)). joined pieces ++ last) c.as_slice.ensures.value
    ∙ ap (λ (rest : List ℕ). joined c.text.inside.pieces.items ++ rest) c.as_slice-2.ensures.value
    ∙ c.text.view_is)
    (front_right first (g.W.Sink.taken c.write_pieces.new.out) now (joined c.as_slice.result.now) last c.in_ok-write_pieces.ensures.whole c.in_err-write_all.ensures.front))
