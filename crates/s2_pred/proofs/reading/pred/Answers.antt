use Rattle.std.proofs.Common.{sym, arith}
use Rattle.std.proofs.lemmas.Bool.Decides.{nat_tests}
use Rattle.std.proofs.lemmas.Result.{err_from_is_err_and}
use Rattle.s2_pred.proofs.Reached.{reached_first, reached_more, stopped_at, refused_at, unfinished, some_tokens, no_tokens, answer}
use Rattle.s2_pred.proofs.reading.pred.Goals as goal

pub loop-left-init : goal.loop-left-init
loop-left-init c = reached_first c.args.tokens.now c.new-yard.result c.new-yard.ensures

pub returns-in_err-sign-clause-syntax : goal.returns-in_err-sign-clause-syntax
returns-in_err-sign-clause-syntax c e tree is =
    let p = err_from_is_err_and c.from_residual.result c.from_residual.ensures.1 in
    stopped_at c.args.tokens.now c.loop-left.left.now c.loop-left.yard c.loop-left.invariant (some_tokens c.loop-left.left.now (grind (arith, nat_tests))) (c.in_err-sign.ensures.syntax (cc)) tree is.0 (sym is.1)

pub returns-in_err-take-clause-syntax : goal.returns-in_err-take-clause-syntax
returns-in_err-take-clause-syntax c e tree is =
    let p = err_from_is_err_and c.from_residual-in_err-take.result c.from_residual-in_err-take.ensures.1 in
    refused_at c.args.tokens.now c.loop-left.left.now c.in_ok-sign.rest.now c.loop-left.yard c.in_ok-sign.sign c.loop-left.invariant (some_tokens c.loop-left.left.now (grind (arith, nat_tests)))
    c.in_ok-sign.ensures.whole c.in_ok-sign.ensures.found (c.in_err-take.ensures.syntax (cc)) tree is.0 (sym is.1)

pub loop-left-preserved : goal.loop-left-preserved
loop-left-preserved c =
    reached_more c.args.tokens.now c.loop-left.left.now c.in_ok-sign.rest.now c.loop-left.yard c.take.new.self c.in_ok-sign.sign c.loop-left.invariant
    c.in_ok-sign.ensures.whole c.in_ok-sign.ensures.found c.in_ok-take.ensures.ok

pub returns-in_err-joins-clause-syntax : goal.returns-in_err-joins-clause-syntax
returns-in_err-joins-clause-syntax c e tree is =
    let p = err_from_is_err_and c.from_residual-in_err-joins.result c.from_residual-in_err-joins.ensures.1 in
    unfinished c.args.tokens.now c.loop-left.left.now c.loop-left.yard c.loop-left.invariant (no_tokens c.loop-left.left.now (grind (arith, nat_tests))) (c.in_err-joins.ensures.syntax (cc)) tree is.0 (sym is.1)

pub invariant_of-result : goal.invariant_of-result
invariant_of-result c = (answer c.args.tokens.now c.loop-left.left.now c.loop-left.yard c.in_ok-joins.joins c.in_ok-joins.tests c.loop-left.invariant (grind (arith, nat_tests)) c.in_ok-joins.ensures.ok).postfix

pub returns-clause-found : goal.returns-clause-found
returns-clause-found c = (answer c.args.tokens.now c.loop-left.left.now c.loop-left.yard c.in_ok-joins.joins c.in_ok-joins.tests c.loop-left.invariant (grind (arith, nat_tests)) c.in_ok-joins.ensures.ok).found

pub returns-clause-only : goal.returns-clause-only
returns-clause-only c = (answer c.args.tokens.now c.loop-left.left.now c.loop-left.yard c.in_ok-joins.joins c.in_ok-joins.tests c.loop-left.invariant (grind (arith, nat_tests)) c.in_ok-joins.ensures.ok).only
