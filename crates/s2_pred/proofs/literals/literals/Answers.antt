use Rattle.std.proofs.Common.{◌++◌, [], ◌∷◌, refl, ◌∙◌, ap}
use Rattle.std.proofs.lemmas.Result.{err_from_is_err_and}
use Rattle.s2_pred.proofs.LiteralLaws.{none_first, none_after_comma, none_left, shorter, read_more, read_first}
use Rattle.s2_pred.proofs.literals.literals.Goals as goal

pub loop-rest-init : goal.loop-rest-init
loop-rest-init c =
    read_first c.args.tokens.now c.in_ok-first.left.now c.in_ok-first.first c.add.new.self c.in_ok-first.ensures.found (c.in_ok-add.ensures.ok ∙ ap (λ xs. xs ++ c.in_ok-first.first ∷ []) c.new-list.ensures)

pub returns-in_err-first-clause-syntax : goal.returns-in_err-first-clause-syntax
returns-in_err-first-clause-syntax c e =
    let p = err_from_is_err_and c.from_residual.result c.from_residual.ensures.1 in
    none_first c.args.tokens.now (c.in_err-first.ensures.syntax (cc))

pub returns-in_err-next-clause-syntax : goal.returns-in_err-next-clause-syntax
returns-in_err-next-clause-syntax c e =
    let p = err_from_is_err_and c.from_residual-in_err-next.result c.from_residual-in_err-next.ensures.1 in
    none_after_comma c.args.tokens.now c.loop-rest.left.now c.in-Some.rest.now c.loop-rest.list c.loop-rest.invariant.some c.loop-rest.invariant.read c.in-Some.ensures.some (c.in_err-next.ensures.syntax (cc))

pub loop-rest-smaller : goal.loop-rest-smaller
loop-rest-smaller c = shorter c.loop-rest.left.now c.in-Some.rest.now c.in_ok-next.after.now c.in_ok-next.next c.in-Some.ensures.some c.in_ok-next.ensures.found

pub loop-rest-preserved : goal.loop-rest-preserved
loop-rest-preserved c =
    read_more c.args.tokens.now c.loop-rest.left.now c.in-Some.rest.now c.in_ok-next.after.now c.loop-rest.list c.add-in-Some.new.self c.in_ok-next.next
    c.loop-rest.invariant.some c.loop-rest.invariant.read c.in-Some.ensures.some c.in_ok-next.ensures.found c.in_ok-add-2.ensures.ok

pub returns-clause-syntax : goal.returns-clause-syntax
returns-clause-syntax c e = none_left c.args.tokens.now c.loop-rest.left.now c.loop-rest.list c.loop-rest.invariant.some c.loop-rest.invariant.read (c.in_default.ensures.none refl) (c.in-None.ensures.none refl)
