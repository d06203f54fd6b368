use Rattle.std.proofs.Common.{◌≡◌, ◌<◌, ◌++◌, ◌∷◌, [], length, ◌∙◌, arith}
use Rattle.std.proofs.lemmas.Bool.Decides.{nat_tests}
use Rattle.std.proofs.lemmas.Result.{err_from_is_err_and}
use Rattle.s2_token.specs.declared.faults.Fault.TheVariants.{BadToken}
use Rattle.s2_token.proofs.Lexed.{none_before, begun, one_token, no_token, all_read, rest_shortens, refused_none}
use Rattle.s2_token.proofs.lexing.tokens.Goals as goal

pub loop-rest-init : goal.loop-rest-init
loop-rest-init c = rw (c.past_blanks-rest.ensures, c.new-tokens.ensures.items) (record { read = none_before c.args.line.now; begun = begun c.args.line.now })

pub returns-in_err-token-clause-bad : goal.returns-in_err-token-clause-bad
returns-in_err-token-clause-bad c = λ is.
    let p = err_from_is_err_and c.from_residual.result c.from_residual.ensures.1 in
    let some : 0 < length c.loop-rest.rest.now = grind (arith, nat_tests) in
    let bad : c.in_err-token.field-0.0 ≡ BadToken = cc (p.1, p.2, is) in
    no_token c.loop-rest.tokens.items c.loop-rest.rest.now c.args.line.now some c.loop-rest.invariant.begun (refused_none c.in_err-token.field-0.0 _ bad c.in_err-token.ensures) c.loop-rest.invariant.read

pub loop-rest-smaller : goal.loop-rest-smaller
loop-rest-smaller c = rw c.past_blanks-rest-in-loop-rest.ensures (rest_shortens c.loop-rest.rest.now c.in_ok-token.token c.in_ok-token.after.now c.in_ok-token.ensures)

pub loop-rest-preserved : goal.loop-rest-preserved
loop-rest-preserved c =
    let e : c.push.new.self.items ≡ c.loop-rest.tokens.items ++ c.in_ok-token.token ∷ [] = c.in_ok-push.ensures.items in
    rw (e, c.past_blanks-rest-in-loop-rest.ensures) (record {
      read = one_token c.loop-rest.tokens.items c.loop-rest.rest.now c.in_ok-token.token c.in_ok-token.after.now c.loop-rest.invariant.begun c.in_ok-token.ensures ∙ c.loop-rest.invariant.read;
      begun = begun c.in_ok-token.after.now;
    })

pub returns-clause-found : goal.returns-clause-found
returns-clause-found c =
    let none : length c.loop-rest.rest.now ≡ 0 = grind (arith, nat_tests) in
    all_read c.loop-rest.tokens.items c.loop-rest.rest.now c.args.line.now none c.loop-rest.invariant.read
