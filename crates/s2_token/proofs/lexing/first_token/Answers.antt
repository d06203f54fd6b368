use Rattle.std.proofs.Common.{◌≡◌, ◌<◌, length, arith}
use Rattle.std.proofs.lemmas.Bool.Decides.{nat_tests}
use Rattle.std.proofs.lemmas.Result.{err_from_is_err_and}
use Rattle.s2_token.specs.declared.faults.Fault.TheVariants.{BadToken}
use Rattle.s2_token.proofs.Lexed.{first_read, first_shortens, first_none, first_bad, refused_none}
use Rattle.s2_token.proofs.lexing.first_token.Goals as goal

pub returns-then-is_empty-clause-none : goal.returns-then-is_empty-clause-none
returns-then-is_empty-clause-none c =
    let none : length c.past_blanks-start.result.now ≡ 0 = grind (arith, nat_tests) in
    first_none c.args.line.now c.past_blanks-start.result.now c.past_blanks-start.ensures none

pub returns-in_err-token-clause-bad : goal.returns-in_err-token-clause-bad
returns-in_err-token-clause-bad c = λ is.
    let p = err_from_is_err_and c.from_residual.result c.from_residual.ensures.1 in
    let some : 0 < length c.past_blanks-start.result.now = grind (arith, nat_tests) in
    let bad : c.in_err-token.field-0.0 ≡ BadToken = cc (p.1, p.2, is) in
    first_bad c.args.line.now c.past_blanks-start.result.now c.past_blanks-start.ensures some (refused_none c.in_err-token.field-0.0 _ bad c.in_err-token.ensures)

pub returns-clause-first : goal.returns-clause-first
returns-clause-first c = first_read c.args.line.now c.past_blanks-start.result.now c.in_ok-token.token c.in_ok-token.after.now c.past_blanks-start.ensures c.in_ok-token.ensures

pub returns-clause-shorter : goal.returns-clause-shorter
returns-clause-shorter c = first_shortens c.args.line.now c.past_blanks-start.result.now c.in_ok-token.token c.in_ok-token.after.now c.past_blanks-start.ensures c.in_ok-token.ensures
