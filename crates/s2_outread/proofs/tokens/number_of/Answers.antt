use Rattle.std.proofs.Common.{◌≡◌, rules, arith, sym, ◌∙◌, FitsSigned}
use Rattle.std.specs.Int.{w128}
use Rattle.std.specs.Fmt.{signed_decimal}
use Rattle.std.proofs.lemmas.Int.{to_z-of_z}
use Rattle.s2_outread.proofs.Numbers.{wide_fits, no_number, written_utf8, written_parses, is_written, not_written}
use Rattle.s2_outread.proofs.tokens.number_of.Goals as goal

pub returns-in_default : goal.returns-in_default
returns-in_default c = no_number c.args.digits.now (λ x fits e. c.in_default.ensures.cases.0 (written_utf8 x c.args.digits.now fits e))

pub returns-in_default-parse : goal.returns-in_default-parse
returns-in_default-parse c = no_number c.args.digits.now (λ x fits e.
    let parsed = written_parses x c.in-Ok.text.now c.parse.result fits (c.in-Ok.ensures.cases.0 ∙ e) c.parse.ensures.value.0 in
    let is = c.in_default-parse.is in
    absurd cc)

pub returns-then-eq : goal.returns-then-eq
returns-then-eq c =
    let n = c.in-Ok-parse.number in
    let fits : FitsSigned w128 n = search rules in
    let text : c.as_bytes.result.now ≡ signed_decimal n = grind (arith, to_z-of_z, c.format.ensures.text, c.as_bytes.ensures.value) in
    rw to_z-of_z (is_written n c.as_bytes.result.now c.args.digits.now (wide_fits n fits) text (sym c.eq.ensures ∙ c.if-eq.true))

pub returns-else-eq : goal.returns-else-eq
returns-else-eq c = no_number c.args.digits.now (λ x given e.
    let n = c.in-Ok-parse.number in
    let fits : FitsSigned w128 n = search rules in
    let text : c.as_bytes.result.now ≡ signed_decimal n = grind (arith, to_z-of_z, c.format.ensures.text, c.as_bytes.ensures.value) in
    let parsed = written_parses x c.in-Ok.text.now c.parse.result given (c.in-Ok.ensures.cases.0 ∙ e) c.parse.ensures.value.0 in
    let is = c.in-Ok-parse.is in
    not_written n x c.as_bytes.result.now c.args.digits.now text (sym c.eq.ensures ∙ c.if-eq.false) (cc) e)
